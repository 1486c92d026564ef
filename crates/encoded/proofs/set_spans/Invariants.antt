use Rattle.rows.specs.Parts.{with_spans}
use Rattle.live.specs.declared.types.Liveness.{Liveness}
use Rattle.encoded.proofs.SaveLaws.{Storing}
use Rattle.encoded.proofs.set_spans.Given as goal

abbrev pub invariant-loop-i : goal.invariant-loop-i
invariant-loop-i l = Storing (λ (v : Liveness). v.rtts.spans) with_spans l.l 8 l.initial.p l.p l.i
