-- A count of those that agree.
-- Assumes nothing.
use Prim.Native.Nat.{ℕ, ◌+◌, ◌-◌, ◌≤◌, ◌<◌}
use mathlib.Core.Path.{◌≡◌}
use mathlib.Core.Bool.{Bool, true, false}
use native.Mathlib.Omega.{arith}
use Rattle.replay.specs.Replay.{counted_of}

-- one more record is at most one more
counted-few : (e : ℕ) (b : Bool) → counted_of e b ≤ e + 1
counted-few e true = omega arith
counted-few e false = omega arith

-- what is counted and the turns left are at most all turns
pub counted_next : (e turns many : ℕ) (b : Bool) {n : ℕ} → e + turns ≤ many → 0 < turns → n ≡ counted_of e b → n + (turns - 1) ≤ many
counted_next e turns many b h k q = omega (arith, counted-few e b, h, k, q)
