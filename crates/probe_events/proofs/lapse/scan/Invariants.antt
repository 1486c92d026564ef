use lib.ListN.{length}
use Rattle.std.specs.List.{filter}
use Rattle.ring.specs.Lapse.{is_passed, defer_of}
use Rattle.rows.specs.View.{path_in}
use Rattle.probe_events.proofs.ScanLaws.{ScanTo}
use Rattle.probe_events.proofs.lapse.scan.Given as goal

abbrev pub invariant-loop-i : goal.invariant-loop-i
invariant-loop-i l = ScanTo (is_passed l.at l.overdue) (defer_of l.heard l.cap l.at l.overdue) l.initial.p l.p

abbrev pub decreases-loop-i : goal.decreases-loop-i
decreases-loop-i l = length (filter (is_passed l.at l.overdue) (path_in l.p).ring)
