-- Arrays whose places are held or gaps (document 01, "RTT, ETX, score": "the first gap", "the oldest (first of
-- equals)", "the newest (last of equals)"), over any element type, any mark of being held, and any order.
use Rattle.std.specs.Prelude.{ℕ, suc, Bool, cond, not, ◌&&◌, List, [], ◌∷◌}
use Rattle.std.specs.List.{list_all, filter}
use Rattle.base.specs.Seq.{position}
use Rattle.base.specs.First.{unbeaten}

module _ {A : Type 0} where
  -- the place of the last element that passes the test, or the length
  abbrev pub last_position : (A → Bool) → List A → ℕ
  last_position p [] = 0
  last_position p (x ∷ xs) = cond (p x && list_all (λ y. not (p y)) xs) 0 (suc (last_position p xs))

  module _ (held : A → Bool) where
    -- the place of the first gap, or the length
    abbrev pub first_gap : List A → ℕ
    first_gap l = position (λ x. not (held x)) l

    -- in what follows, before x y says that x comes before y
    module _ (before : A → A → Bool) where
      -- x is held, and no held one comes before it
      abbrev pub leads : List A → A → Bool
      leads l x = held x && unbeaten before (filter held l) x

      -- the place of the leader, the first of equals, or the length where none is held
      abbrev pub first_leader : List A → ℕ
      first_leader l = position (leads l) l

      -- the place of the leader, the last of equals, or the length where none is held
      abbrev pub last_leader : List A → ℕ
      last_leader l = last_position (leads l) l

      -- the place for a new one: the first gap, else the leader's place (first of equals)
      abbrev pub place : List A → ℕ
      place l = cond (list_all held l) (first_leader l) (first_gap l)
