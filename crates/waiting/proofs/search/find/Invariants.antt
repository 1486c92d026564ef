use Rattle.rows.specs.View.{path_in}
use Rattle.waiting.proofs.SoughtLaws.{Sought}
use Rattle.ring.specs.Ring.{is_probe}
use Rattle.waiting.proofs.search.find.Given as goal

abbrev pub invariant-loop-i : goal.invariant-loop-i
invariant-loop-i l = Sought (is_probe l.id) (path_in l.p).ring 8 l.i
