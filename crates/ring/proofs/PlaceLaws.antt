-- A search's place as an option, and as the length where nothing is found.
-- Assumes nothing.
use Rattle.std.proofs.Common.{◌≡◌, ℕ, ◌+◌, ◌<◌, Bool, true, false, List, [], ◌∷◌, length, sym, arith, None, Some}
use Rattle.std.specs.List.{position_from}
use Rattle.base.specs.Seq.{position}
use Rattle.base.proofs.Cases.{on-flag}

module _ {A : Type 0} (p : A → Bool) where
  -- nothing is found from j on
  none_from : (l : List A) (j : ℕ) → position_from p j l ≡ None → length l ≡ position p l
  none_from [] j e = omega arith
  none_from (x ∷ l) j e =
      on-flag (p x)
      (λ q. let y : Some j ≡ None = rw q at e in let z : true ≡ false = cc in cc)
      (λ q. let k : length l ≡ position p l = none_from l (j + 1) (rw q at e) in rw q (omega arith))

  -- found at k, where the list starts at j
  some_from : (l : List A) (j k : ℕ) → position_from p j l ≡ Some k → (k ≡ j + position p l) × (position p l < length l)
  some_from [] j k e = let z : true ≡ false = cc in cc
  some_from (x ∷ l) j k e =
      on-flag (p x)
      (λ q. let y : Some j ≡ Some k = rw q at e in let z : j ≡ k = cc in rw q (omega arith, omega arith))
      (λ q. let r = some_from l (j + 1) k (rw q at e) in rw q (omega (arith, r.0), omega (arith, r.1)))

  -- of a list of n, a search that finds nothing is at n, and one that finds k is at k
  pub place_none : (l : List A) {n : ℕ} → length l ≡ n → None ≡ position_from p 0 l → n ≡ position p l
  place_none l h e = let k = none_from l 0 (sym e) in omega (arith, k)

  pub place_some : (l : List A) {n k : ℕ} → length l ≡ n → Some k ≡ position_from p 0 l → (k ≡ position p l) × (k < n)
  place_some l {n} {k} h e = let r = some_from l 0 k (sym e) in (omega (arith, r.0), omega (arith, r.0, r.1))
