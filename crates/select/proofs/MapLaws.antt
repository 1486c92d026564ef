-- A list of which each is changed: what tests keep of it and the first of it in an order, where tests and orders see the
-- same behind the change as before it. At any element types.
-- Assumes nothing.
use mathlib.Core.Path.{◌≡◌, refl, ap, ◌∙◌}
use mathlib.Core.Bool.{Bool, not}
use mathlib.Core.List.{List, [], ◌∷◌, map}
use Rattle.std.specs.List.{list_all, filter}
use Rattle.base.specs.First.{head_of, unbeaten, first_of}
use Rattle.base.proofs.Cases.{on-flag}

module _ {A B : Type 0} (s : A → B) where
  module _ (p : B → Bool) (q : A → Bool) (same : (x : A) → p (s x) ≡ q x) where
    pub every_map : (l : List A) → list_all p (map s l) ≡ list_all q l
    every_map [] = refl
    every_map (x ∷ l) = rw (same x) (on-flag (q x) (λ h. rw h (every_map l)) (λ h. rw h))

    pub keep-map : (l : List A) → filter p (map s l) ≡ map s (filter q l)
    keep-map [] = refl
    keep-map (x ∷ l) =
        rw (same x)
        (on-flag (q x) (λ h. rw h (ap (λ (m : List B). s x ∷ m) (keep-map l))) (λ h. rw h (keep-map l)))

  module _ (before : B → B → Bool) (order : A → A → Bool) (same : (x y : A) → before (s x) (s y) ≡ order x y) where
    unbeaten-map : (l : List A) (x : A) → unbeaten before (map s l) (s x) ≡ unbeaten order l x
    unbeaten-map l x = every_map (λ (y : B). not (before y (s x))) (λ (y : A). not (order y x)) (λ y. ap not (same y x)) l

    -- those that none comes before
    pub firsts-map : (l : List A) → filter (unbeaten before (map s l)) (map s l) ≡ map s (filter (unbeaten order l) l)
    firsts-map l = keep-map (unbeaten before (map s l)) (unbeaten order l) (λ x. unbeaten-map l x) l

    -- the first of them, where f makes of what is found before the change what is found behind it
    pub first-map : {C D : Type 0} (f : C → D) (none : C) (some : A → C) (other : B → D)
        → ((x : A) → other (s x) ≡ f (some x)) → (l : List A)
        → first_of before (f none) other (map s l) ≡ f (first_of order none some l)
    first-map f none some other h l =
        ap (head_of (f none) other) (firsts-map l) ∙ head-map (filter (unbeaten order l) l)
      where
        head-map : (m : List A) → head_of (f none) other (map s m) ≡ f (head_of none some m)
        head-map [] = refl
        head-map (x ∷ m) = h x
