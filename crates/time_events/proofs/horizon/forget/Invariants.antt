use Rattle.live.specs.declared.types.Liveness.{Liveness}
use Rattle.rtt.specs.Spans.{is_past, no_span}
use Rattle.rows.specs.Parts.{with_spans}
use Rattle.time_events.proofs.StoreLaws.{Dropping}
use Rattle.time_events.proofs.horizon.forget.Given as goal

abbrev pub invariant-loop-i : goal.invariant-loop-i
invariant-loop-i l = Dropping (λ (v : Liveness). v.rtts.spans) with_spans (is_past l.at l.horizon) no_span 8 l.initial.p l.p l.i
