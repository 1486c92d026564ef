-- Bytes that are moved to the front of the list that they stand in.
-- Assumes nothing.
use Rattle.std.proofs.Common.{◌≡◌, ℕ, suc, ◌+◌, ◌-◌, ◌<◌, ◌≤◌, min, List, [], ◌∷◌, ◌++◌, length, get_or, take, drop, set, sym, ap, ◌∙◌, add-one, arith, length-drop, length-take-le, get_or-drop, take_all, drop-cons, take-suc, get_or-append-add}
use Rattle.base.proofs.Cases.{on-order}
use lib.Seq.{append_snoc, set_at}
use Rattle.octets.specs.Octets.{over}
use Rattle.octets.proofs.Fill.{Filled, nothing, filled-length, filled-over}
use Rattle.session.specs.Sessions.{part_of}

-- of the part of l₀ the first i bytes, up to place j, stand at the front of l
pub record Moving (l₀ : List ℕ) (from to : ℕ) (l : List ℕ) (i j : ℕ) : Type 0 where
  pub place : j ≡ from + i
  pub few : i ≤ to - from
  pub there : i ≤ length l₀ - from
  pub done : Filled l₀ (take i (drop from l₀)) l i

pub moving-start : {l₀ : List ℕ} {from to : ℕ} → Moving l₀ from to l₀ 0 from
moving-start {l₀} {from} {to} =
    record { place = omega arith; few = omega arith; there = omega arith; done = nothing l₀ }

module _ (l₀ : List ℕ) (from to : ℕ) where
  -- the result: all of the part is there
  moved : {l : List ℕ} (i : ℕ) → take i (drop from l₀) ≡ part_of from to l₀ → Filled l₀ (take i (drop from l₀)) l i
      → (i ≡ length (part_of from to l₀)) × (l ≡ over (part_of from to l₀) l₀)
  moved {l} i e f =
      (sym f.long ∙ ap (λ (z : List ℕ). length z) e, filled-over f ∙ ap (λ (z : List ℕ). over z l₀) e)

module _ {l₀ : List ℕ} {from to : ℕ} {l : List ℕ} {i j : ℕ} (m : Moving l₀ from to l i j) where
  pub moving-end : to ≤ j → (i ≡ length (part_of from to l₀)) × (l ≡ over (part_of from to l₀) l₀)
  moving-end h =
      let n : i ≡ to - from = omega (arith, m.place, m.few) in
      moved l₀ from to i (λ k. take (n k) (drop from l₀)) m.done

  pub moving-out : j < to → length l ≤ j → (i ≡ length (part_of from to l₀)) × (l ≡ over (part_of from to l₀) l₀)
  moving-out h k =
      let d : length (drop from l₀) ≡ length l₀ - from = length-drop from l₀ in
      let n : length l ≡ length l₀ = filled-length m.done in
      let a : take i (drop from l₀) ≡ drop from l₀ = take_all i (drop from l₀) (omega (arith, d, n, m.place)) in
      let b : part_of from to l₀ ≡ drop from l₀ = take_all (to - from) (drop from l₀) (omega (arith, d, n, m.place)) in
      moved l₀ from to i (a ∙ sym b) m.done

  pub moving-done : {r : ℕ} → min to (length l) ≤ j → r ≡ i
      → (r ≡ length (part_of from to l₀)) × (l ≡ over (part_of from to l₀) l₀)
  moving-done h e =
      let d = on-order j to (λ k. moving-out k (omega (arith, h))) (λ k. moving-end k) in (e ∙ d.0, d.1)

  pub moving-next : (d : ℕ) → j < to → j < length l → Moving l₀ from to (set l i (get_or l j d)) (i + 1) (j + 1)
  moving-next d h k =
      let n : length l ≡ length l₀ = filled-length m.done in
      let p = take i (drop from l₀) in
      let a : i < length l₀ = omega (arith, n, m.place) in
      let b : i < length (drop from l₀) = omega (arith, n, m.place, length-drop from l₀) in
      let e : j ≡ length p + from = omega (arith, m.place, m.done.long) in
      let g : get_or l j d ≡ get_or (drop from l₀) i d =
      (λ x. get_or (m.done.is x) (e x) d) ∙ get_or-append-add p (drop i l₀) from d ∙ get_or-drop i l₀ from d
      ∙ (λ x. get_or l₀ (swap x) d) ∙ sym (get_or-drop from l₀ i d) in
      let t : take (i + 1) (drop from l₀) ≡ p ++ (get_or l j d ∷ []) =
      rw (add-one i) (take-suc (drop from l₀) i d b ∙ (λ x. p ++ (sym g x ∷ []))) in
      let s : set l i (get_or l j d) ≡ p ++ (get_or l j d ∷ drop (suc i) l₀) =
      (λ x. set ((m.done.is ∙ (λ y. p ++ drop-cons l₀ i d a y)) x) i (get_or l j d))
      ∙ set_at p (get_or l₀ i d) (drop (suc i) l₀) (get_or l j d) i m.done.long in
      record {
        place = omega (arith, m.place);
        few = omega (arith, m.place);
        there = omega (arith, n, m.place);
        done = record {
          long = length-take-le (i + 1) (drop from l₀) (omega (arith, b));
          room = omega (arith, a);
          is = s ∙ sym (append_snoc p (get_or l j d) (drop (suc i) l₀)) ∙ (λ x. sym t x ++ drop (sym (add-one i) x) l₀);
        };
      }
    where
      swap : i + from ≡ from + i
      swap = omega arith
