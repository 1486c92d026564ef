-- One law for every width: a loop that puts the lowest byte of what is left into the next byte, and divides that by
-- 256, makes `le w x` of w bytes.
-- Assumes nothing.
use mathlib.Core.Path.{◌≡◌, refl, sym, ap, ◌∙◌}
use mathlib.Core.List.{List, [], ◌∷◌, ◌++◌, append_assoc, append-nil}
use Prim.Native.Nat.{ℕ, suc, ◌+◌, ◌-◌, ◌/◌, ◌%◌, ◌≤◌, ◌<◌, zero-le}
use native.Mathlib.Nat.{sub-zero}
use native.Mathlib.Numerals.{add-one}
use native.Mathlib.Omega.{arith}
use lib.ListN.{length, take, drop, set, length-set}
use lib.Seq.{take-suc-set, take_all}
use Rattle.octets.specs.Octets.{le, over}
use Rattle.octets.proofs.Fill.{le-length, over-fits, over-not}

-- before the turn i: the first i bytes stand, and what is left of x is `rest`
pub record Wrote (w x : ℕ) (l : List ℕ) (rest i : ℕ) : Type 0 where
  pub bound : i ≤ w
  pub long : length l ≡ w
  pub front : le w x ≡ take i l ++ le (w - i) rest

pub start : (l : List ℕ) (w x : ℕ) → length l ≡ w → Wrote w x l x 0
start l w x e = record { bound = zero-le; long = e; front = ap (λ (k : ℕ). le k x) (sym (sub-zero w)) }

le-suc : (w x : ℕ) → le (suc w) x ≡ x % 256 ∷ le w (x / 256)
unfolding le
le-suc w x = refl

pub more : {w x : ℕ} {l : List ℕ} {rest i : ℕ} → i < w → Wrote w x l rest i
    → Wrote w x (set l i (rest % 256)) (rest / 256) (i + 1)
more {w} {x} {l} {rest} {i} h o =
    let b = rest % 256 in
    let n : w - i ≡ suc (w - suc i) = omega arith in
    let t : take (i + 1) (set l i b) ≡ take i l ++ (b ∷ []) =
    ap (λ (n : ℕ). take n (set l i b)) (add-one i) ∙ take-suc-set l i b (omega (arith, o.long)) in
    record {
      bound = omega arith;
      long = length-set l i b ∙ o.long;
      front =
          o.front
          ∙ ap (λ (n : ℕ). take i l ++ le n rest) n
          ∙ ap (λ (r : List ℕ). take i l ++ r) (le-suc (w - suc i) rest)
          ∙ sym (append_assoc (take i l) (b ∷ []) (le (w - suc i) (rest / 256)))
          ∙ ap (λ (r : List ℕ). r ++ le (w - suc i) (rest / 256)) (sym t)
          ∙ ap (λ (n : ℕ). take (i + 1) (set l i b) ++ le (w - n) (rest / 256)) (sym (add-one i));
    }

-- all w bytes stand, before those of l₀ past them
pub all : {w x : ℕ} {l : List ℕ} {rest i : ℕ} (l₀ : List ℕ) → w ≤ i → w ≤ length l₀ → Wrote w x l rest i
    → l ++ drop w l₀ ≡ over (le w x) l₀
unfolding le
all {w} {x} {l} {rest} {i} l₀ h k o =
    let z : w - i ≡ 0 = omega arith in
    let t : take i l ≡ l = take_all i l (omega (arith, o.long)) in
    let f : le w x ≡ l = o.front ∙ (λ j. t j ++ le (z j) rest) ∙ append-nil l in
    let n : length (le w x) ≡ w = le-length w x in
    (λ j. sym f j ++ drop (sym n j) l₀) ∙ sym (over-fits (le w x) l₀ (omega (arith, n)))

pub none : (l₀ : List ℕ) (w x : ℕ) → length l₀ < w → l₀ ≡ over (le w x) l₀
none l₀ w x h = sym (over-not (le w x) l₀ (omega (arith, le-length w x)))
