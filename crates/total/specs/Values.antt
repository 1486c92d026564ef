-- The order on values, where there is one NaN, with no sign and no payload; clamp and maximum. (Document 01, "RTT, ETX,
-- score": "clamp and maximum are ours"; "Choice": "by totalOrder".)
use Rattle.std.specs.Prelude.{Bool, true, false, not, cond, ◌||◌, Float}
use Rattle.std.specs.Float.{nan, inf, fin}
use Rattle.std.specs.Float.Ieee.{lt, is_nan}

-- whether the sign is set
unfoldable pub negative : Float → Bool
negative nan = false
negative (inf s) = s
negative (fin s m e) = s

-- two numbers, as 5.10 has them: a) x < y: true. b) x > y: false. c) equal ones: -0 is before +0
abbrev pub values_le : Float → Float → Bool
values_le x y = cond (lt x y) true (cond (lt y x) false (negative x || not (negative y)))

-- The NaN stands where 5.10 puts a positive quiet NaN: after every number, and not after itself. (`total-patterns` of
-- proofs/OrderLaws.antt: this is totalOrder of the patterns.)
unfoldable pub total_of : Float → Float → Bool
total_of x y = cond (is_nan y) true (cond (is_nan x) false (values_le x y))

-- x, or the end of lo to hi that it is beyond. A NaN is beyond neither and stays.
abbrev pub clamp_of : Float → Float → Float → Float
clamp_of x lo hi = cond (lt x lo) lo (cond (lt hi x) hi x)

-- The larger; a NaN gives the other. Of equal ones, as two zeros, the first.
abbrev pub max_of : Float → Float → Float
max_of x y = cond (is_nan x) y (cond (lt x y) y x)
