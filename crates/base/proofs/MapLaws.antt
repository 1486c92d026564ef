-- What an array's own `map` gives, at any element type and length.
-- Assumes nothing.
use Rattle.std.proofs.Common.{◌≡◌, ℕ, zero, suc, ◌+◌, ◌<◌, ◌≤◌, List, map, length, get_or, refl, sym, ap, subst, ◌∙◌, arith}
use Rattle.std.proofs.lemmas.List.{ext_get_or, get_or-map}
use Rattle.std.specs.Array.{IsMapOf, MapsFrom}
use denote.Param.Members.{Mut, Called}
use lib.ListN.{length-map}
use Rattle.base.proofs.Cases.{on-order}

-- each call of the closure f gives what h makes of an element, and leaves f as it is; d is any element
module _ {F A B : Type 0} {g : Mut F (A × Unit {0}) B} {f : F} (h : A → B) (d : A)
    (calls : (x : A) (y : B) (q : F) → Called g f (x, tt) y q → (q ≡ f) × (y ≡ h x)) where
  maps-at : (xs : List A) (ys : List B) (i n j : ℕ) (p : F) → p ≡ f → MapsFrom g p xs ys i n → i ≤ j → j < i + n → get_or ys j (h d) ≡ h (get_or xs j d)
  maps-at xs ys i zero j p e m a b = absurd (omega arith)
  maps-at xs ys i (suc n) j p e m a b =
      let c = calls m.1 m.2 m.0 (subst (λ r. Called g r (m.1, tt) m.2 m.0) e m.5) in
      on-order i j
      (λ o. maps-at xs ys (i + 1) n j m.0 c.0 m.6 (omega arith) (omega arith))
      (λ o.
      let k : j ≡ i = omega arith in
      rw k (m.4.1 (h d) ∙ c.1 ∙ ap h (sym (m.3.1 d))))

  -- each element of xs is replaced by what h makes of it
  pub mapped : {xs : List A} {ys : List B} {n : ℕ} → IsMapOf g f xs ys n → length xs ≡ n → ys ≡ map h xs
  mapped {xs} {ys} {n} s e =
      ext_get_or (h d) ys (map h xs) (s.long ∙ sym e ∙ sym (length-map xs h))
      (λ i m.
      maps-at xs ys 0 n i f refl s.each (omega arith) (omega (arith, s.long))
      ∙ sym (get_or-map h xs i d (h d) (omega (arith, s.long))))
