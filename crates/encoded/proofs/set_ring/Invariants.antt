use Rattle.live.specs.Path.{with_ring}
use Rattle.live.specs.declared.types.Liveness.{Liveness}
use Rattle.encoded.proofs.SaveLaws.{Storing}
use Rattle.encoded.proofs.set_ring.Given as goal

abbrev pub invariant-loop-i : goal.invariant-loop-i
invariant-loop-i l = Storing (λ (v : Liveness). v.ring) with_ring l.l 8 l.initial.p l.p l.i
