use lib.ListN.{length}
use Rattle.std.specs.List.{filter}
use Rattle.ring.specs.Lapse.{is_passed, defer_of}
use Rattle.lapses.proofs.LapseLaws.{Scanning}
use Rattle.lapses.proofs.scan.Given as goal

abbrev pub invariant-loop-i : goal.invariant-loop-i
invariant-loop-i l = Scanning (is_passed l.now l.overdue) (defer_of l.data_at l.cap l.now l.overdue) l.initial.left 8 l.left

abbrev pub decreases-loop-i : goal.decreases-loop-i
decreases-loop-i l = length (filter (is_passed l.now l.overdue) l.left)
