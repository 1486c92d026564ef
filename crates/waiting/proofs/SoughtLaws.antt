-- A loop that seeks the first place that passes a test, by the library's `position`.
-- Assumes nothing.
use Rattle.std.proofs.Common.{◌≡◌, ℕ, suc, ◌+◌, ◌<◌, ◌≤◌, Bool, true, false, List, length, get_or, drop, sym, refl, ap, ◌∙◌, arith, drop_of_length-le, drop-cons, Option, None, Some}
use Rattle.std.specs.List.{position_from}

-- a search for p in l, a list of n, has come to i
pub record Sought {A : Type 0} (p : A → Bool) (l : List A) (n i : ℕ) : Type 0 where
  pub long : length l ≡ n
  pub rest : position_from p 0 l ≡ position_from p i (drop i l)

module _ {A : Type 0} {p : A → Bool} {l : List A} {n : ℕ} where
  pub sought-start : length l ≡ n → Sought p l n 0
  sought-start h = record { long = h; rest = refl }

  module _ {i : ℕ} (d : A) where
    pub sought-here : Sought p l n i → i < n → p (get_or l i d) ≡ true → Some i ≡ position_from p 0 l
    sought-here s h e =
        let k : i < length l = omega arith in
        sym (rw (drop-cons l i d, e) at s.rest)

    pub sought-next : Sought p l n i → i < n → p (get_or l i d) ≡ false → Sought p l n (i + 1)
    sought-next s h e =
        let k : i < length l = omega arith in
        let z : suc i ≡ i + 1 = omega arith in
        let r : position_from p 0 l ≡ position_from p (i + 1) (drop (suc i) l) = rw (drop-cons l i d, e) at s.rest in
        record { long = s.long; rest = r ∙ ap (λ (j : ℕ). position_from p (i + 1) (drop j l)) z }

  pub sought-end : {i : ℕ} → Sought p l n i → n ≤ i → None ≡ position_from p 0 l
  sought-end {i} s h =
      let k : length l ≤ i = omega arith in
      sym (rw (drop_of_length-le l k) at s.rest)
