-- A float and its pattern of 64 bits. The logic has one NaN: every NaN's pattern gives it, and it gives one pattern.
use Rattle.std.specs.Prelude.{ℕ, cond, Float}
use Rattle.std.specs.Float.{binary64}
use Rattle.std.specs.Float.Ieee.{is_nan, of_bits, to_bits}

-- the float of a pattern: every NaN's pattern is the one NaN's
abbrev pub float_of : ℕ → Float
float_of bits = of_bits binary64 bits

-- the ETX by its pattern; "only which NaN an operation on floats yields is left open", so every NaN is the quiet one
-- without a payload
abbrev pub etx_bits : Float → ℕ
etx_bits x = cond (is_nan x) 0x7ff8_0000_0000_0000 (to_bits binary64 x)
