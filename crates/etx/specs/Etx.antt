-- Document 01, "RTT, ETX, score": "`fold` and `quality_index` run the Rust's float steps in its order, each rounded
-- once; clamp and maximum are ours. .. ETX stays within 1 and 100." The operations are IEEE 754's on binary64
-- (`lib.Ieee`).
use Rattle.std.specs.Prelude.{◌≡◌, Bool, true, cond, ℕ, ◌/◌, ◌%◌, pos, Float}
use Rattle.std.specs.Float.{binary64}
use Rattle.std.specs.Float.Ieee.{of_bits, add, sub, mul, div, le, of_int}
use Rattle.total.specs.Values.{clamp_of, max_of}

-- ---- the literals, by their patterns; proofs/Literals.antt shows each to be the f64 nearest to its number

-- 0
abbrev pub nought : Float
nought = of_bits binary64 0

-- 0.01
abbrev pub hundredth : Float
hundredth = of_bits binary64 0x3f84_7ae1_47ae_147b

-- 1 / 32, `EWMA_LONG_ALPHA`
abbrev pub alpha : Float
alpha = of_bits binary64 0x3fa0_0000_0000_0000

-- 1
abbrev pub one : Float
one = of_bits binary64 0x3ff0_0000_0000_0000

-- 100
abbrev pub hundred : Float
hundred = of_bits binary64 0x4059_0000_0000_0000

-- 1000
abbrev pub thousand : Float
thousand = of_bits binary64 0x408f_4000_0000_0000

-- 10^9
abbrev pub billion : Float
billion = of_bits binary64 0x41cd_cd65_0000_0000

-- ---- fold

-- (1.0 / etx).clamp(0.01, 1.0): the delivery ratio that an ETX stands for
abbrev pub ratio_of : Float → Float
ratio_of etx = clamp_of (div binary64 one etx) hundredth one

-- if delivered { 1.0 } else { 0.0 }
abbrev pub outcome_of : Bool → Float
outcome_of delivered = cond delivered one nought

-- ratio + EWMA_LONG_ALPHA * (sample - ratio)
abbrev pub next_ratio : Float → Float → Float
next_ratio ratio sample = add binary64 ratio (mul binary64 alpha (sub binary64 sample ratio))

-- (1.0 / ratio).clamp(1.0, 100.0): the ETX that a delivery ratio stands for
abbrev pub inverted_of : Float → Float
inverted_of ratio = clamp_of (div binary64 one ratio) one hundred

-- (1.0 / next.max(0.01)).clamp(1.0, 100.0), next being the ratio after the outcome
abbrev pub averaged_of : Float → Bool → Float
averaged_of ratio delivered = inverted_of (max_of (next_ratio ratio (outcome_of delivered)) hundredth)

-- from the ETX before it
unfoldable pub fold_of : Float → Bool → Float
fold_of etx delivered = averaged_of (ratio_of etx) delivered

-- "ETX stays within 1 and 100": so it is finite and no NaN. `fold-within` of proofs/WithinLaws.antt shows it of every
-- fold.
pub record Within (x : Float) : Type 0 where
  pub low : le one x ≡ true
  pub high : le x hundred ≡ true

-- ---- the score

-- etx * (1.0 + rtt_ms / 100.0)
unfoldable pub quality_of : Float → Float → Float
quality_of etx rtt_ms_of = mul binary64 etx (add binary64 one (div binary64 rtt_ms_of hundred))

-- a whole number as a float
abbrev pub float : ℕ → Float
float n = of_int binary64 (pos n)

-- "An RTT in seconds is whole seconds as a float plus the nanoseconds left over as a float divided by 10^9"
abbrev pub seconds_of : ℕ → Float
seconds_of ns = add binary64 (float (ns / 1000000000)) (div binary64 (float (ns % 1000000000)) billion)

-- "a score takes that times 1000": of an ETX and an RTT in nanoseconds
unfoldable pub score_of : Float → ℕ → Float
score_of etx rtt = quality_of etx (mul binary64 (seconds_of rtt) thousand)
