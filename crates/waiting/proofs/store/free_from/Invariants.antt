use Rattle.waiting.proofs.ShutLaws.{Freed}
use Rattle.waiting.proofs.store.free_from.Given as goal

abbrev pub invariant-loop-k : goal.invariant-loop-k
invariant-loop-k l = Freed l.initial.p l.from l.p l.k
