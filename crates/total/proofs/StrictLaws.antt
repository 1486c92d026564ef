-- totalOrder on values, turned into "comes before": a strict order in which any two floats can be compared. By where a
-- float stands (below zero, above it, at an infinity, no number), then by its size.
-- Assumes nothing.
use mathlib.Core.Path.{◌≡◌, refl, sym, ap, ◌∙◌}
use mathlib.Core.Bool.{Bool, true, false, not, cond, ◌&&◌, ◌||◌}
use Prim.Native.Nat.{ℕ, ◌*◌, ◌+◌, ◌<◌, ◌≤◌}
use native.Mathlib.Nat.{le_trans, le_of_eq, mul_right_comm, mul-le-mul_right, le_of_mul-le-mul_right, zero-lt-suc}
use native.Mathlib.Omega.{arith}
use borrow.Author.Tests.{lt-ltb, le-ltb, ltb-true, ltb-false}
use lib.Dec.{ltb}
use lib.Ieee.{Float, nan, inf, fin, up, down, lt, is_nan}
use lib.Ieee.Fits.{down_pos}
use Rattle.base.proofs.Cases.{on-order, on-flag, cond_same}
use Rattle.base.proofs.FirstLaws.{Strict, by-least, strict-then, strict_same}
use Rattle.total.specs.Values.{negative, total_of}

-- ---- fractions, by their cross products

module _ {A : Type 0} (num den : A → ℕ) (whole : (x : A) → 0 < den x) where
  cross : (a b c d e f : ℕ) → 0 < d → c * b ≤ a * d → e * d ≤ c * f → e * b ≤ a * f
  cross a b c d e f h p q =
      let l : e * b * d ≡ e * d * b = mul_right_comm e b d in
      let m : c * f * b ≡ c * b * f = mul_right_comm c f b in
      let r : a * d * f ≡ a * f * d = mul_right_comm a d f in
      le_of_mul-le-mul_right
      (le_trans (le_of_eq l) (le_trans (mul-le-mul_right b q)
      (le_trans (le_of_eq m) (le_trans (mul-le-mul_right f p) (le_of_eq r)))))
      h

  pub by_fraction : Strict (λ (x y : A). ltb (num x * den y) (num y * den x))
  by_fraction =
      record {
        once = λ x y e. le-ltb (num y * den x) (num x * den y)
            (omega (arith, ltb-true (num x * den y) (num y * den x) e));
        along =
            λ x y z e f.
            le-ltb (num x * den z) (num z * den x)
            (cross (num x) (den x) (num y) (den y) (num z) (den z) (whole y)
            (ltb-false (num x * den y) (num y * den x) e)
            (ltb-false (num y * den z) (num z * den y) f));
      }

  pub by-fraction-down : Strict (λ (x y : A). ltb (num y * den x) (num x * den y))
  by-fraction-down = record {
    once = λ x y e. by_fraction.once y x e;
    along = λ x y z e f. by_fraction.along z y x f e;
  }

-- ---- where a float stands, and its size

abbrev stand : Float → ℕ
stand (inf true) = 0
stand (fin true m e) = 1
stand (fin false m e) = 2
stand (inf false) = 3
stand nan = 4

abbrev minus : Float → ℕ
minus nan = 0
minus (inf s) = 0
minus (fin true m e) = m * up e
minus (fin false m e) = 0

abbrev plus : Float → ℕ
plus nan = 0
plus (inf s) = 0
plus (fin true m e) = 0
plus (fin false m e) = m * up e

abbrev unit : Float → ℕ
unit nan = 1
unit (inf s) = 1
unit (fin s m e) = down e

unit-pos : (x : Float) → 0 < unit x
unit-pos nan = zero-lt-suc 0
unit-pos (inf s) = zero-lt-suc 0
unit-pos (fin s m e) = down_pos e

-- ---- the order

-- a number that is below another, by the two tests that `values_le` makes
picks : (a b : ℕ) → not (cond (ltb b a) true (cond (ltb a b) false true)) ≡ ltb a b
picks a b =
    on-order a b
    (λ h. rw (lt-ltb a b h, le-ltb b a (omega arith)))
    (λ h. rw (le-ltb a b h) (on-flag (ltb b a) (λ q. rw q) (λ q. rw q)))

nothing : (a b : ℕ) → ltb (0 * a) (0 * b) ≡ false
nothing a b = le-ltb (0 * a) (0 * b) (omega arith)

-- of two orders the one that decides
only-first : (p q : Bool) {r : Bool} → r ≡ false → (p || (not q && r)) ≡ p
only-first true q e = refl
only-first false true e = refl
only-first false false e = e

only-last : (r : Bool) {p q : Bool} → p ≡ false → q ≡ false → (p || (not q && r)) ≡ r
only-last r e f = rw (e, f)

abbrev stands : Float → Float → Bool
stands x y = ltb (stand x) (stand y)

abbrev deeper : Float → Float → Bool
deeper x y = ltb (minus y * unit x) (minus x * unit y)

abbrev lower : Float → Float → Bool
lower x y = ltb (plus x * unit y) (plus y * unit x)

abbrev ordered : Float → Float → Bool
ordered x y = stands x y || (not (stands y x) && (deeper x y || (not (deeper y x) && lower x y)))

same : (x y : Float) → ordered x y ≡ not (total_of y x)
unfolding total_of lt is_nan negative
same nan nan = refl
same nan (inf true) = refl
same nan (inf false) = refl
same nan (fin true n d) = refl
same nan (fin false n d) = refl
same (inf true) nan = refl
same (inf true) (inf true) = refl
same (inf true) (inf false) = refl
same (inf true) (fin true n d) = refl
same (inf true) (fin false n d) = refl
same (inf false) nan = refl
same (inf false) (inf true) = refl
same (inf false) (inf false) = refl
same (inf false) (fin true n d) = refl
same (inf false) (fin false n d) = refl
same (fin true m e) nan = refl
same (fin true m e) (inf true) = refl
same (fin true m e) (inf false) = refl
same (fin true m e) (fin true n d) =
    only-first (deeper (fin true m e) (fin true n d)) (deeper (fin true n d) (fin true m e)) (nothing (down d) (down e))
    ∙ sym (picks (n * up d * down e) (m * up e * down d))
same (fin true m e) (fin false n d) = ap not (sym (cond_same (ltb 0 (m * up e * down d + n * up d * down e)) false))
same (fin false m e) nan = refl
same (fin false m e) (inf true) = refl
same (fin false m e) (inf false) = refl
same (fin false m e) (fin true n d) = ap not (sym (cond_same (ltb 0 (n * up d * down e + m * up e * down d)) true))
same (fin false m e) (fin false n d) =
    only-last (lower (fin false m e) (fin false n d)) (nothing (down e) (down d)) (nothing (down d) (down e))
    ∙ sym (picks (m * up e * down d) (n * up d * down e))

-- x comes before y where y is not before or at x
pub total-strict : Strict (λ (x y : Float). not (total_of y x))
total-strict =
    strict_same same
    (strict-then (by-least stand) (strict-then (by-fraction-down minus unit unit-pos) (by_fraction plus unit unit-pos)))
