-- Blocks of rows and single rows of a list in which one row was stored.
-- Assumes nothing.
use Prim.Native.Nat.{ℕ, zero, suc, ◌+◌, ◌-◌, ◌<◌, ◌≤◌}
use mathlib.Core.Path.{◌≡◌, refl, ap, sym, ◌∙◌}
use mathlib.Core.List.{List, [], ◌∷◌, map}
use mathlib.Core.Bool.{true, false}
use native.Mathlib.Omega.{arith}
use borrow.Author.Tests.{eqb-false, leb-true, ltb-true}
use lib.Dec.{eqb, leb, ltb}
use lib.ListN.{length, get_or, set, take, drop, get_or-map, drop_of_length-le}
use lib.Seq.{drop-cons, get_or-set_same, get_or-set_other, take-set-le, take-set-lt, drop-set-lt, drop-set-add, get_or-take, get_or-drop}
use Rattle.rows.specs.View.{row, block}

pub map-set : {A B : Type 0} (f : A → B) (l : List A) (i : ℕ) (x : A) → map f (set l i x) ≡ set (map f l) i (f x)
map-set f [] i x = refl
map-set f (y ∷ l) zero x = refl
map-set {A} {B} f (y ∷ l) (suc i) x = ap (λ (z : List B). f y ∷ z) (map-set f l i x)

module _ {A : Type 0} (f : List ℕ → A) (p : List (List ℕ)) where
  -- what one row of a block says
  pub block_at : (o n i : ℕ) → i < n → get_or (block f o n p) i (f []) ≡ f (row p (o + i))
  block_at o n i h = get_or-map f (take n (drop o p)) i [] ∙ ap f (get_or-take n (drop o p) i [] h ∙ get_or-drop o p i [])

  module _ (i : ℕ) (r : List ℕ) where
    pub block-before : (o n : ℕ) → ltb i o ≡ true → block f o n (set p i r) ≡ block f o n p
    block-before o n h = ap (λ (q : List (List ℕ)). map f (take n q)) (drop-set-lt o p i r (ltb-true i o h))

    pub block-after : (o n : ℕ) → leb (o + n) i ≡ true → block f o n (set p i r) ≡ block f o n p
    block-after o n h =
        let k : o + n ≤ i = leb-true (o + n) i h in
        let e : i ≡ o + (i - o) = omega arith in
        let g : n ≤ i - o = omega arith in
        ap (λ (j : ℕ). map f (take n (drop o (set p j r)))) e
        ∙ ap (λ (q : List (List ℕ)). map f (take n q)) (drop-set-add o p (i - o) r)
        ∙ ap (map f) (take-set-le n (drop o p) (i - o) r g)

    pub block_in : (o n : ℕ) → i < n → block f o n (set p (o + i) r) ≡ set (block f o n p) i (f r)
    block_in o n h =
        ap (λ (q : List (List ℕ)). map f (take n q)) (drop-set-add o p i r)
        ∙ ap (map f) (take-set-lt n (drop o p) i r h)
        ∙ map-set f (take n (drop o p)) i r

module _ (p : List (List ℕ)) (i : ℕ) (r : List ℕ) where
  pub row_other : (k : ℕ) → eqb k i ≡ false → row (set p i r) k ≡ row p k
  row_other k h = get_or-set_other p i k r [] (eqb-false k i h)

  pub row_same : i < length p → row (set p i r) i ≡ r
  row_same h = get_or-set_same p i r [] h

-- a list of so many, element by element
pub four : {A : Type 0} (l : List A) (d : A) → length l ≡ 4 → get_or l 0 d ∷ get_or l 1 d ∷ get_or l 2 d ∷ get_or l 3 d ∷ [] ≡ l
four l d h =
    let k : length l ≤ 4 = omega arith in
    let e : drop 4 l ≡ [] = drop_of_length-le l k in
    sym (drop-cons l 0 d (omega arith) ∙ simp (drop-cons l 1 d (omega arith), drop-cons l 2 d (omega arith), drop-cons l 3 d (omega arith), e))

pub eight : {A : Type 0} (l : List A) (d : A) → length l ≡ 8
    → get_or l 0 d ∷ get_or l 1 d ∷ get_or l 2 d ∷ get_or l 3 d ∷ get_or l 4 d ∷ get_or l 5 d ∷ get_or l 6 d ∷ get_or l 7 d ∷ [] ≡ l
eight l d h =
    let k : length l ≤ 8 = omega arith in
    let e : drop 8 l ≡ [] = drop_of_length-le l k in
    sym (drop-cons l 0 d (omega arith) ∙ simp (drop-cons l 1 d (omega arith), drop-cons l 2 d (omega arith), drop-cons l 3 d (omega arith), drop-cons l 4 d (omega arith), drop-cons l 5 d (omega arith), drop-cons l 6 d (omega arith), drop-cons l 7 d (omega arith), e))

-- each element stored anew
pub refill4 : {A : Type 0} (l : List A) (a b c e d : A) → length l ≡ 4 → set (set (set (set l 0 a) 1 b) 2 c) 3 e ≡ a ∷ b ∷ c ∷ e ∷ []
refill4 l a b c e d h = ap (λ (x : List _). set (set (set (set x 0 a) 1 b) 2 c) 3 e) (sym (four l d h))
