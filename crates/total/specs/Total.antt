-- totalOrder of IEEE 754-2019, section 5.10, on the bit patterns of a format, clause by clause: every pattern, NaNs of
-- both signs and any payload included. (Document 01: IEEE 754 comes first; "by totalOrder".)
use Rattle.std.specs.Prelude.{Bool, true, false, not, cond, ◌&&◌, ◌||◌, ℕ, ◌+◌, ◌-◌, ◌*◌, ◌/◌, ◌%◌, leb}
use Rattle.std.specs.Bool.{beq}
use Rattle.std.specs.Float.{Format}
use Rattle.std.specs.Float.Ieee.{hid, top, of_bits, nan_bits, lt}

-- the sign bit
abbrev pub sign : Format → ℕ → Bool
sign f b = leb (top f) b

-- of a NaN's significand: whether its first bit says quiet (6.2.1), and the payload, which is the rest
abbrev pub quiet : Format → ℕ → Bool
quiet f b = leb (hid f / 2) (b % hid f)

abbrev pub payload : Format → ℕ → ℕ
payload f b = b % hid f % (hid f / 2)

-- a) x < y: true. b) x > y: false. c) x = y: -0 is before +0 and not the other way round; any other two equal numbers
-- of a binary format are one datum: true
abbrev pub numbers_le : Format → ℕ → ℕ → Bool
numbers_le f a b =
    cond (lt (of_bits f a) (of_bits f b)) true (cond (lt (of_bits f b) (of_bits f a)) false (sign f a || not (sign f b)))

-- d) 3 ii, iii, for two positive NaNs: signaling is below quiet, then the lesser payload, as an integer, below the
-- greater
abbrev pub nan_le : Format → ℕ → ℕ → Bool
nan_le f a b = (not (quiet f a) && quiet f b) || (beq (quiet f a) (quiet f b) && leb (payload f a) (payload f b))

-- d) 3, two NaNs: i, a negative sign is below a positive one; ii and iii are reversed for negative ones
abbrev pub nans_le : Format → ℕ → ℕ → Bool
nans_le f a b = cond (sign f a) (cond (sign f b) (nan_le f b a) true) (cond (sign f b) false (nan_le f a b))

-- totalOrder(x, y). d) 1, 2: a negative NaN is before every number, and a positive one after
unfoldable pub total_at : Format → ℕ → ℕ → Bool
total_at f a b =
    cond (nan_bits f a) (cond (nan_bits f b) (nans_le f a b) (sign f a)) (cond (nan_bits f b) (not (sign f b)) (numbers_le f a b))

-- A pattern's place in that order, as a number (`total-key` of proofs/KeyLaws.antt): a positive pattern counts up from
-- the weight of the sign, a negative one down from below it.
unfoldable pub key_at : Format → ℕ → ℕ
key_at f b = cond (sign f b) (2 * top f - 1 - b) (b + top f)
