use Rattle.std.proofs.Common.{◌*◌}
use Rattle.live.specs.declared.types.Liveness.{Liveness}
use Rattle.rtt.specs.Samples.{is_old, no_sample}
use Rattle.rows.specs.Parts.{with_samples}
use Rattle.time_events.proofs.StoreLaws.{Dropping}
use Rattle.time_events.proofs.window.forget.Given as goal

abbrev pub invariant-loop-k : goal.invariant-loop-k
invariant-loop-k l = Dropping (λ (v : Liveness). v.rtts.samples) with_samples (is_old l.at l.window) no_sample 32 l.initial.p l.p (2 * l.k)
