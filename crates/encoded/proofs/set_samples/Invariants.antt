use Rattle.rows.specs.Parts.{with_samples}
use Rattle.live.specs.declared.types.Liveness.{Liveness}
use Rattle.encoded.proofs.SaveLaws.{Storing}
use Rattle.encoded.proofs.set_samples.Given as goal

abbrev pub invariant-loop-i : goal.invariant-loop-i
invariant-loop-i l = Storing (λ (v : Liveness). v.rtts.samples) with_samples l.l 32 l.initial.p l.p l.i
