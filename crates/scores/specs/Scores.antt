-- The score of a path (document 01, "RTT, ETX, score": "An RTT in seconds is whole seconds as a float plus the
-- nanoseconds left over as a float divided by 10^9; a score takes that times 1000"), by the Rust's `score` and
-- `steady`: from the first sample on.
use Rattle.std.specs.Prelude.{Float, Option, None, Some, ℕ}
use Rattle.std.specs.Float.{binary64}
use Rattle.std.specs.Float.Ieee.{of_bits}
use Rattle.etx.specs.Etx.{score_of}
use Rattle.rtt.specs.Samples.{min_rtt}
use Rattle.rtt.specs.Spans.{base_rtt}
use Rattle.live.specs.declared.types.Liveness.{Liveness}

-- no score without a round trip
abbrev pub scored : Float → Option ℕ → Option Float
scored etx None = None
scored etx (Some t) = Some (score_of etx t)

-- by the least round trip of the window
abbrev pub path_score : Liveness → Option Float
path_score p = scored p.etx (min_rtt p.rtts.samples)

-- by the least round trip over the horizon
abbrev pub path_steady : Liveness → Option Float
path_steady p = scored p.etx (base_rtt p.rtts.spans)

-- ---- as a rival has them: a value, 0 where there is none, beside a mark that says whether there is one

abbrev pub score_in : Option Float → Float
score_in None = of_bits binary64 0
score_in (Some x) = x
