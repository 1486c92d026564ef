use Rattle.rows.specs.View.{path_in}
use Rattle.waiting.proofs.SoughtLaws.{Sought}
use Rattle.ring.specs.Ring.{is_free}
use Rattle.waiting.proofs.search.first_free.Given as goal

abbrev pub invariant-loop-i : goal.invariant-loop-i
invariant-loop-i l = Sought is_free (path_in l.p).ring 8 l.i
