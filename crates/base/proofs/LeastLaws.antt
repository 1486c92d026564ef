-- The least and the largest of a list (specs/Least.antt): a bound and a member; the passes that find them.
-- Assumes nothing.
use Rattle.std.proofs.Common.{◌≡◌, ℕ, ◌≤◌, min, max, Bool, true, false, List, [], ◌∷◌, ◌++◌, map, sym, refl, ap, ◌∙◌, subst, arith, ltb-false, le-ltb, lt-ltb, Option, None, Some}
use mathlib.Core.List.{foldl}
use Rattle.std.specs.List.{filter, fold, reduce}
use Rattle.base.specs.Least.{below, above, least_of, largest_of}
use Rattle.base.specs.Passes.{lower_of, higher_of}
use Rattle.base.proofs.Cases.{on-order}
use Rattle.base.proofs.ScanLaws.{Folding, folding-end}
use Rattle.base.proofs.FirstLaws.{Strict, First, by-least, by-greatest, first-over, pass-first, first-cases}

below-strict : Strict below
below-strict = by-least (λ (n : ℕ). n)

above-strict : Strict above
above-strict = by-greatest (λ (n : ℕ). n)

-- ---- a bound and a member

pub least-cases : (P : Option ℕ → Type 0) (l : List ℕ) → (l ≡ [] → P None) → ((m : ℕ) → First below l m → P (Some m))
    → P (least_of l)
least-cases = first-cases below-strict None Some

pub largest-cases : (P : Option ℕ → Type 0) (l : List ℕ) → (l ≡ [] → P None) → ((m : ℕ) → First above l m → P (Some m))
    → P (largest_of l)
largest-cases = first-cases above-strict None Some

-- what stands in l has one place in it
pub record In (l : List ℕ) (m : ℕ) : Type 0 where
  pub front : List ℕ
  pub back : List ℕ
  pub there : l ≡ front ++ (m ∷ back)

some_is : {l : List ℕ} {before : ℕ → ℕ → Bool} (k m : ℕ) → First before l k → Some k ≡ Some m → First before l m
some_is {l} {before} k m f e = let z : k ≡ m = cc in subst (First before l) z f

none_is_lem : {C : Type 0} (m : ℕ) → None ≡ Some m → C
none_is_lem m e = let z : ◌≡◌ {A = ℕ} 0 1 = let y : true ≡ false = cc in cc in absurd (omega arith)

least_first : (l : List ℕ) (m : ℕ) → least_of l ≡ Some m → First below l m
least_first l m = least-cases (λ (t : Option ℕ). t ≡ Some m → First below l m) l (λ h e. none_is_lem m e)
    (λ k f e. some_is k m f e)

largest-first : (l : List ℕ) (m : ℕ) → largest_of l ≡ Some m → First above l m
largest-first l m = largest-cases (λ (t : Option ℕ). t ≡ Some m → First above l m) l (λ h e. none_is_lem m e)
    (λ k f e. some_is k m f e)

pub least-member : (l : List ℕ) (m : ℕ) → least_of l ≡ Some m → In l m
least-member l m e = let f : First below l m = least_first l m e in record
    { front = f.front; back = f.back; there = f.there }

pub largest-member : (l : List ℕ) (m : ℕ) → largest_of l ≡ Some m → In l m
largest-member l m e = let f : First above l m = largest-first l m e in record
    { front = f.front; back = f.back; there = f.there }

pub least-bound : (l : List ℕ) (m y : ℕ) → least_of l ≡ Some m → In l y → m ≤ y
least-bound l m y e i = ltb-false y m (first-over (least_first l m e) i.front i.back y i.there)

pub largest-bound : (l : List ℕ) (m y : ℕ) → largest_of l ≡ Some m → In l y → y ≤ m
largest-bound l m y e i = ltb-false m y (first-over (largest-first l m e) i.front i.back y i.there)

-- none is the least of an empty list only
pub least-there : (l : List ℕ) (y : ℕ) → In l y → (m : ℕ) × (least_of l ≡ Some m)
least-there l y i =
    least-cases (λ (t : Option ℕ). (m : ℕ) × (t ≡ Some m)) l
    (λ e. no-empty i.front (sym e ∙ i.there))
    (λ m f. (m, refl))
  where
    no-empty : {C : Type 0} (a : List ℕ) → [] ≡ a ++ (y ∷ i.back) → C
    no-empty [] e = let z : ◌≡◌ {A = ℕ} 0 1 = let y : true ≡ false = cc in cc in absurd (omega arith)
    no-empty (x ∷ a) e = let z : ◌≡◌ {A = ℕ} 0 1 = let y : true ≡ false = cc in cc in absurd (omega arith)

-- ---- the passes

pub least-pass : (l : List ℕ) → foldl lower_of None l ≡ least_of l
least-pass = pass-first below-strict None Some lower_of (λ x. refl)
    (λ a x. on-order x a (λ h. rw (lt-ltb x a h) (ap Some (omega arith)))
    (λ h. rw (le-ltb x a h) (ap Some (omega arith))))

pub largest-pass : (l : List ℕ) → foldl higher_of None l ≡ largest_of l
largest-pass = pass-first above-strict None Some higher_of (λ x. refl)
    (λ a x. on-order a x (λ h. rw (lt-ltb a x h) (ap Some (omega arith)))
    (λ h. rw (le-ltb a x h) (ap Some (omega arith))))

-- what `Iterator::min` and `max` give, and what `fold` with `lower_of` or `higher_of` does
lower-from : (a : ℕ) (l : List ℕ) → Some (fold min a l) ≡ foldl lower_of (Some a) l
lower-from a [] = refl
lower-from a (x ∷ l) = lower-from (min a x) l

higher-from : (a : ℕ) (l : List ℕ) → Some (fold max a l) ≡ foldl higher_of (Some a) l
higher-from a [] = refl
higher-from a (x ∷ l) = higher-from (max a x) l

pub least_reduce : (l : List ℕ) → reduce min l ≡ least_of l
least_reduce [] = refl
least_reduce (x ∷ l) = lower-from x l ∙ least-pass (x ∷ l)

pub largest_reduce : (l : List ℕ) → reduce max l ≡ largest_of l
largest_reduce [] = refl
largest_reduce (x ∷ l) = higher-from x l ∙ largest-pass (x ∷ l)

-- at the end of a loop that folds what g makes of the elements that pass
module _ {A : Type 0} {p : A → Bool} {g : A → ℕ} {l : List A} {n : ℕ} {b : Option ℕ} {i : ℕ} where
  pub folding-least : Folding p g lower_of None l n b i → n ≤ i → b ≡ least_of (map g (filter p l))
  folding-least s h = folding-end s h ∙ least-pass (map g (filter p l))

  pub folding-largest : Folding p g higher_of None l n b i → n ≤ i → b ≡ largest_of (map g (filter p l))
  folding-largest s h = folding-end s h ∙ largest-pass (map g (filter p l))
