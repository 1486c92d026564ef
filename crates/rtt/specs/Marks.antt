-- The order by age of places that are held or gaps; `since` reads the instant that a place's age is told by.
use Rattle.std.specs.Prelude.{ℕ, Bool, ltb}

module _ {A : Type 0} (since : A → ℕ) where
  -- x began before y
  abbrev pub earlier : A → A → Bool
  earlier x y = ltb (since x) (since y)

  -- x began after y
  abbrev pub later : A → A → Bool
  later x y = ltb (since y) (since x)
