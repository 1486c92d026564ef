-- The least and the largest of some instants or durations.
use Rattle.std.specs.Prelude.{ℕ, Bool, List, nat_lt, Option, None, Some}
use Rattle.base.specs.First.{first_of}

-- the order of numbers, the least first
abbrev pub below : ℕ → ℕ → Bool
below x y = nat_lt x y

-- and the largest first
abbrev pub above : ℕ → ℕ → Bool
above x y = nat_lt y x

-- the least of a list, or none
abbrev pub least_of : List ℕ → Option ℕ
least_of l = first_of below None Some l

-- the largest of a list, or none
abbrev pub largest_of : List ℕ → Option ℕ
largest_of l = first_of above None Some l
