use Rattle.ring.proofs.SweepLaws.{Sweeping}
use Rattle.ring.proofs.ring.sweep.Given as goal

abbrev pub invariant-loop-s : goal.invariant-loop-s
invariant-loop-s l = Sweeping l.fn.late 3 l.fn.ring 8 l.late l.s-index
