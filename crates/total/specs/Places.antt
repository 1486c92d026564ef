-- Where a float stands in totalOrder, as a number, so that floats are compared as whole numbers are. (`key-total` and
-- `key-limit` of proofs/PlaceLaws.antt.)
use Rattle.std.specs.Prelude.{ℕ, ◌-◌, cond, ltb, Float}
use Rattle.std.specs.Float.{binary64}
use Rattle.std.specs.Float.Ieee.{is_nan, eq}
use Rattle.total.specs.Total.{key_at}
use Rattle.total.specs.Patterns.{float_of, etx_bits}

-- a float's place; a NaN stands where the positive quiet one with no payload does
unfoldable pub key_of : Float → ℕ
key_of x = key_at binary64 (etx_bits x)

-- the float that stands at a place: below 2^63 a negative one, which counts down, from there on a positive one
unfoldable pub key_float : ℕ → Float
key_float k = float_of (cond (ltb k 0x8000_0000_0000_0000) (0xffff_ffff_ffff_ffff - k) (k - 0x8000_0000_0000_0000))

-- the last place whose float is at most x: of a NaN 0, where no number stands; of either zero the place of +0
unfoldable pub limit_key : Float → ℕ
limit_key x = cond (is_nan x) 0 (cond (eq x (float_of 0)) (key_of (float_of 0)) (key_of x))
