-- Instants and durations (document 01, "Kept and written anew": the stand-ins).
use Rattle.std.specs.Prelude.{ℕ, zero, suc, ◌+◌, ◌-◌, ◌/◌, ◌^◌, cond, nat_lt}

-- at most n halvings of d, rounding down, while t + d passes 2 ^ bits - 1
abbrev pub halved : ℕ → ℕ → ℕ → ℕ → ℕ
halved bits t zero d = d
halved bits t (suc n) d = cond (nat_lt (t + d) (2 ^ bits)) d (halved bits t n (d / 2))

-- t + d; while that passes 2 ^ bits - 1, d is halved (a number of so many bits is 0 after as many halvings)
abbrev pub deadline_of : ℕ → ℕ → ℕ → ℕ
deadline_of bits t d = t + halved bits t bits d

-- elapsed time is 0 where the clock went back (a difference of naturals stops at 0)
abbrev pub elapsed_of : ℕ → ℕ → ℕ
elapsed_of now from = now - from
