-- What a path has measured, and what one more round trip makes of it (document 01, "RTT, ETX, score", the rule of
-- `sample`).
use Rattle.std.specs.Prelude.{ℕ, replicate, None, Some}
use Rattle.rtt.specs.Samples.{max_samples, no_sample, with_sample}
use Rattle.rtt.specs.Spans.{max_spans, no_span, span_of}
use Rattle.rtt.specs.declared.types.Rtts.{Rtts}

-- nothing measured
abbrev pub new_rtts : Rtts
new_rtts = record { samples = replicate max_samples no_sample; spans = replicate max_spans no_span; rtt = None }

-- a round trip of x measured now: the latest, among the samples, and in a span
abbrev pub sampled_rtts : Rtts → ℕ → ℕ → ℕ → ℕ → Rtts
sampled_rtts r now x window horizon =
    record { samples = with_sample now x window r.samples; spans = span_of now x horizon r.spans; rtt = Some x }
