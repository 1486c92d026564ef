-- The timeout (document 01, "RTT, ETX, score": "Timeout: the largest of floor, 3 × last, and the smaller of 3 × largest
-- and cap").
use Rattle.std.specs.Prelude.{ℕ, ◌*◌, ◌-◌, ◌^◌, min, max, Option, None, Some}

-- 3 × RTT, which stops at 2 ^ 64 - 1; where nothing was measured, 0
abbrev pub thrice_of : Option ℕ → ℕ
thrice_of None = 0
thrice_of (Some r) = min (3 * r) (2 ^ 64 - 1)

-- the largest of floor, 3 × last, and the smaller of 3 × largest and cap
abbrev pub timeout_by : Option ℕ → Option ℕ → ℕ → ℕ → ℕ
timeout_by last largest floor cap = max (max floor (thrice_of last)) (min (thrice_of largest) cap)
