-- A list closed up in place: what passes moves to the front in its order, and behind it stays what stood there.
-- Assumes nothing.
use Prim.Native.Nat.{ℕ, suc, ◌+◌, ◌-◌, ◌<◌, ◌≤◌}
use mathlib.Core.Path.{◌≡◌, refl, ap, sym, ◌∙◌}
use mathlib.Core.List.{List, [], ◌∷◌, ◌++◌, append-nil}
use mathlib.Core.Bool.{Bool, true, false}
use native.Mathlib.Omega.{arith}
use native.Mathlib.Numerals.{add-one}
use lib.ListN.{length, get_or, set, take, drop, length-set, take-append-drop}
use lib.Seq.{take-suc, take_all, take-suc-set, length-take-le, drop-set-lt, drop-drop, get_or-drop}
use Rattle.std.specs.List.{filter}
use Rattle.base.proofs.SeqLaws.{keep_append}

-- of the first r elements of m, those that pass p stand at the front of q, w of them; behind them q is l still
pub record Closing {A : Type 0} (p : A → Bool) (m l : List A) (n : ℕ) (q : List A) (w r : ℕ) : Type 0 where
  pub want : length m ≡ n
  pub same : length l ≡ n
  pub long : length q ≡ n
  pub upto : r ≤ n
  pub some : w ≤ r
  pub done : take w q ≡ filter p (take r m)
  pub rest : drop w q ≡ drop w l

module _ {A : Type 0} {p : A → Bool} {m l : List A} {n : ℕ} where
  -- nothing is moved yet
  pub closing-start : length m ≡ n → length l ≡ n → Closing p m l n l 0 0
  closing-start h k = record { want = h; same = k; long = k; upto = omega arith; some = omega arith; done = refl; rest = refl }

  module _ {q : List A} {w r : ℕ} (d : A) (s : Closing p m l n q w r) where
    -- what is not seen yet stands where it stood
    pub closing_at : get_or q r d ≡ get_or l r d
    closing_at =
        let e : w + (r - w) ≡ r = omega (arith, s.some) in
        let f : (t : List A) → get_or (drop w t) (r - w) d ≡ get_or t r d =
        λ t. get_or-drop w t (r - w) d ∙ ap (λ (i : ℕ). get_or t i d) e in
        sym (f q) ∙ ap (λ (t : List A). get_or t (r - w) d) s.rest ∙ f l

    module _ (h : r < n) where
      -- what passes up to here and of the one here
      kept : filter p (take (suc r) m) ≡ filter p (take r m) ++ filter p (get_or m r d ∷ [])
      kept = ap (filter p) (take-suc m r d (omega (arith, s.want))) ∙ keep_append p (take r m) (get_or m r d ∷ [])

      -- one that does not pass stays where it is
      pub closing-skip : p (get_or m r d) ≡ false → Closing p m l n q w (r + 1)
      closing-skip e =
          let k : filter p (take (suc r) m) ≡ filter p (take r m) = rw (kept, e) (append-nil (filter p (take r m))) in
          rw add-one
          (record {
            want = s.want;
            same = s.same;
            long = s.long;
            upto = h;
            some = omega (arith, s.some);
            done = s.done ∙ sym k;
            rest = s.rest;
          })

      -- one that passes moves to the front
      pub closing-move : {x : A} → p (get_or m r d) ≡ true → get_or m r d ≡ x → Closing p m l n (set q w x) (w + 1) (r + 1)
      closing-move {x} e f =
          let k : filter p (take (suc r) m) ≡ filter p (take r m) ++ (x ∷ []) = rw (kept, e, f) refl in
          let t : take (suc w) (set q w x) ≡ take w q ++ (x ∷ []) = take-suc-set q w x (omega (arith, s.long, s.some)) in
          let z : drop (w + 1) q ≡ drop (w + 1) l =
          sym (drop-drop 1 w q) ∙ ap (λ (y : List A). drop 1 y) s.rest ∙ drop-drop 1 w l in
          record {
            want = s.want;
            same = s.same;
            long = length-set q w x ∙ s.long;
            upto = omega arith;
            some = omega (arith, s.some);
            done = rw (add-one w, add-one r) (t ∙ ap (λ (y : List A). y ++ (x ∷ [])) s.done ∙ sym k);
            rest = drop-set-lt (w + 1) q w x (omega arith) ∙ z;
          }

  -- all that passes stands at the front
  pub closing_end : {q : List A} {w r : ℕ} → Closing p m l n q w r → n ≤ r
      → (w ≡ length (filter p m)) × (q ≡ filter p m ++ drop (length (filter p m)) l)
  closing_end {q} {w} {r} s h =
      let f : take w q ≡ filter p m = s.done ∙ ap (filter p) (take_all r m (omega (arith, s.want))) in
      let g : w ≡ length (filter p m) =
      sym (length-take-le w q (omega (arith, s.some, s.upto, s.long))) ∙ ap (λ (y : List A). length y) f in
      (g, sym (take-append-drop w q) ∙ (λ i. f i ++ s.rest i) ∙ ap (λ (i : ℕ). filter p m ++ drop i l) g)
