-- A line behind the bytes that stand at the front of lent ones.
-- Assumes nothing.
use Rattle.std.proofs.Common.{◌≡◌, ℕ, ◌+◌, ◌-◌, ◌<◌, ◌≤◌, List, [], ◌∷◌, ◌++◌, length, take, drop, sym, refl, ap, ◌∙◌, append_assoc, append-nil, le_of_eq, arith, length-append, length-drop, drop_of_length-le, take_all, drop-drop, take_at, drop_at}
use borrow.Rule.Slice.PartMut.{mid_of, post_of, put_mid}
use Rattle.base.proofs.Cases.{on-order}
use Rattle.octets.specs.Octets.{over}
use Rattle.octets.proofs.Fill.{Filled, over-fits, over-not}
use Rattle.lines.specs.Text.{written}
use Rattle.lines.proofs.TextLaws.{all-written, none_written}
use Rattle.session.specs.Sessions.{laid_at}

-- no more is written than there is
pub written-few : (b l : List ℕ) → written b l ≤ length l
written-few b l =
    on-order (length l) (length b)
    (λ h. omega (arith, (none_written b l h).0))
    (λ h. omega (arith, all-written b l h))

-- past the end of the lent bytes nothing is written
pub lay-past : (at : ℕ) (b l : List ℕ) → length l < at → (at ≡ at + written b (drop at l)) × (l ≡ laid_at at b l)
lay-past at b l h =
    let e : drop at l ≡ [] = drop_of_length-le l (omega' at l h) in
    let a : take at l ≡ l = take_all at l (omega (arith, h)) in
    let w : written b (drop at l) ≤ 0 = omega (arith, written-few b (drop at l), ap (λ (z : List ℕ). length z) e) in
    let o : over b [] ≡ [] = over_none b in
    (omega (arith, w), sym ((λ j. a j ++ over b (e j)) ∙ ap (λ (z : List ℕ). l ++ z) o ∙ append-nil l))
  where
    omega' : (at : ℕ) (l : List ℕ) → length l < at → length l ≤ at
    omega' at l h = omega arith

    over_none : (b : List ℕ) → over b [] ≡ []
    over_none b =
        on-order 0 (length b) (λ k. over-not b [] k)
        (λ k. over-fits b [] k ∙ nil b k)
      where
        nil : (b : List ℕ) → length b ≤ 0 → b ++ drop (length b) [] ≡ []
        nil [] k = refl
        nil (x ∷ b) k = absurd (omega arith)

-- the tail of the lent bytes, written over, and the rest
pub lay-tail : {at r : ℕ} {m : List ℕ} (b l : List ℕ) → at ≤ length l → r ≡ written b (mid_of at (length l - at) l)
    → m ≡ over b (mid_of at (length l - at) l)
    → (at + r ≡ at + written b (drop at l)) × (put_mid at (length l - at) l m ≡ laid_at at b l)
lay-tail {at} {r} {m} b l h e q =
    let mid : mid_of at (length l - at) l ≡ drop at l = take_all (length l - at) (drop at l) (le_of_eq
    (length-drop at l)) in
    let post : post_of at (length l - at) l ≡ [] = drop_of_length-le (drop at l) (le_of_eq (length-drop at l)) in (
      (λ j. at + (e ∙ ap (written b) mid) j),
      (λ j. take at l ++ ((q ∙ ap (over b) mid) j ++ post j))
          ∙ ap (λ (z : List ℕ). take at l ++ z) (append-nil (over b (drop at l))),
    )

-- a line that has room stands behind the bytes before it
pub lay-filled : {l₀ p l l' : List ℕ} {at r : ℕ} (b : List ℕ) → Filled l₀ p l at → at + length b ≤ length l₀
    → r ≡ at + written b (drop at l) → l' ≡ laid_at at b l → Filled l₀ (p ++ b) l' r
lay-filled {l₀} {p} {l} {l'} {at} {r} b f h e q =
    let rest : drop at l ≡ drop at l₀ = ap (drop at) f.is ∙ drop_at p (drop at l₀) at f.long in
    let front : take at l ≡ p = ap (take at) f.is ∙ take_at p (drop at l₀) at f.long in
    let k : length (drop at l₀) ≡ length l₀ - at = length-drop at l₀ in
    let fits : length b ≤ length (drop at l₀) = omega (arith, k) in
    let n : r ≡ at + length b = e ∙ (λ j. at + (ap (written b) rest ∙ all-written b (drop at l₀) fits) j) in
    record {
      long = length-append p b ∙ omega (arith, n, f.long);
      room = omega (arith, n);
      is = q ∙ (λ j. front j ++ over b (rest j))
          ∙ ap (λ (z : List ℕ). p ++ z) (over-fits b (drop at l₀) fits
          ∙ ap (λ (z : List ℕ). b ++ z) (drop-drop (length b) at l₀))
          ∙ sym (append_assoc p b (drop (at + length b) l₀)) ∙ (λ j. (p ++ b) ++ drop (sym n j) l₀);
    }
