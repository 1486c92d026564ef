-- The first of a list in an order (document 01: "the oldest (first of equals)", "least score, then index"), over any
-- element type and any order; before x y says that x comes before y.
use Rattle.std.specs.Prelude.{Bool, not, List, [], ◌∷◌}
use Rattle.std.specs.List.{list_all, filter}

module _ {A : Type 0} where
  -- the first element of a list, as `some` has it, or `none`
  abbrev pub head_of : {B : Type 0} → B → (A → B) → List A → B
  head_of none some [] = none
  head_of none some (x ∷ l) = some x

  module _ (before : A → A → Bool) where
    -- none of a list comes before x
    abbrev pub unbeaten : List A → A → Bool
    unbeaten l x = list_all (λ y. not (before y x)) l

    -- the first element that none comes before, so of equals the first; `none` of an empty list
    abbrev pub first_of : {B : Type 0} → B → (A → B) → List A → B
    first_of none some l = head_of none some (filter (unbeaten l) l)
