-- Rows of which some words were stored anew: what they say, and that they stay the encoder's.
-- Assumes nothing.
use Rattle.std.specs.Prelude.{Option}
use Prim.Native.Nat.{ℕ}
use mathlib.Core.Path.{◌≡◌, refl, ap, sym, ◌∙◌}
use mathlib.Core.Bool.{Bool, true, false, cond}
use mathlib.Core.List.{List, [], ◌∷◌}
use lib.Dec.{eqb}
use Rattle.ring.specs.declared.types.Ids.{Ids}
use Rattle.cells.specs.Cells.{word, with_word, id_in, ids_in, with_id}
use Rattle.cells.specs.Code.{id_word, ids_row}

-- a function of what is picked
on-pick : {A B : Type 0} (f : A → B) (b : Bool) (x y : A) → f (cond b x y) ≡ cond b (f x) (f y)
on-pick f true x y = refl
on-pick f false x y = refl

module _ (k w : ℕ) (m : Option ℕ) where
  -- what one word of the row says
  said : (t : List ℕ) (j : ℕ) → id_in w ≡ m → id_in (cond (eqb k j) w (word t j)) ≡ cond (eqb k j) m (id_in (word t j))
  said t j e = on-pick id_in (eqb k j) w (word t j) ∙ ap (λ (x : Option ℕ). cond (eqb k j) x (id_in (word t j))) e

  -- one identifier's word anew says it, and the others as they were
  pub id-put : (t : List ℕ) → id_in w ≡ m → ids_in (with_word t k w) ≡ with_id (ids_in t) k m
  unfolding ids_in
  id-put t e = λ i. record { next_id = said t 0 e i; answered = said t 1 e i; epoch = said t 2 e i; since = said t 3 e i }

  -- one word of the encoder's row
  coded : (x : Option ℕ) (j : ℕ) → w ≡ id_word m → cond (eqb k j) w (id_word x) ≡ id_word (cond (eqb k j) m x)
  coded x j e = ap (λ (y : ℕ). cond (eqb k j) y (id_word x)) e ∙ sym (on-pick id_word (eqb k j) m x)

  -- and in the encoder's row it makes the encoder's
  pub id-coded : (t : List ℕ) (o : Ids) → t ≡ ids_row o → w ≡ id_word m → with_word t k w ≡ ids_row (with_id o k m)
  unfolding ids_row
  id-coded t o c e =
      ap (λ (r : List ℕ). with_word r k w) c
      ∙ (λ i. coded o.next_id 0 e i ∷ coded o.answered 1 e i ∷ coded o.epoch 2 e i ∷ coded o.since 3 e i ∷ [])
