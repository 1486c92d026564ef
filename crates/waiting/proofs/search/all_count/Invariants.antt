use Rattle.rows.specs.View.{path_in}
use Rattle.base.proofs.SeqLaws.{Passed}
use Rattle.ring.specs.Ring.{fine_of}
use Rattle.waiting.proofs.search.all_count.Given as goal

abbrev pub invariant-loop-i : goal.invariant-loop-i
invariant-loop-i l = Passed (fine_of l.since) (path_in l.p).ring 8 l.i
