-- Media by their numbers.
-- Assumes nothing.
use Prim.Native.Nat.{ℕ, ◌%◌, ◌<◌}
use mathlib.Core.Path.{◌≡◌}
use native.Mathlib.Omega.{arith}
use Rattle.select.specs.Media.{medium_bits, medium_of}
use Rattle.select.specs.declared.types.Medium.{Medium}
use Rattle.select.specs.declared.types.Medium.TheVariants as medium

-- a medium's number is below 4
pub medium-small : (m : Medium) → medium_bits m < 4
medium-small medium.Ble = omega arith
medium-small medium.Wired = omega arith
medium-small medium.Wireless = omega arith
medium-small medium.Unknown = omega arith

-- a medium by its number
pub medium-same : (m : Medium) (x : ℕ) → x % 4 ≡ medium_bits m → medium_of x ≡ m
medium-same medium.Ble x e = rw e
medium-same medium.Wired x e = rw e
medium-same medium.Wireless x e = rw e
medium-same medium.Unknown x e = rw e
