-- For the proofs of the code's passes: what one turn makes of what there is and one more. No contract of a whole pass
-- cites it.
use Rattle.std.specs.Prelude.{ℕ, min, max, Bool, not, ◌&&◌, ◌||◌, Option, None, Some}

-- the smaller of what there is and one more
abbrev pub lower_of : Option ℕ → ℕ → Option ℕ
lower_of None x = Some x
lower_of (Some a) x = Some (min a x)

-- the larger of what there is and one more
abbrev pub higher_of : Option ℕ → ℕ → Option ℕ
higher_of None x = Some x
higher_of (Some a) x = Some (max a x)

-- before x y says that x comes before y
module _ {A : Type 0} (held : A → Bool) (before : A → A → Bool) where
  -- x is held and comes before y, or y is a gap
  abbrev pub overtakes : A → A → Bool
  overtakes x y = held x && (not (held y) || before x y)

  -- x is held and y does not come before it, or y is a gap
  abbrev pub catches : A → A → Bool
  catches x y = held x && (not (held y) || not (before y x))
