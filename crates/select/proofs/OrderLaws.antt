-- The orders of rivals (specs/Rivals.antt) are strict: of two at most one comes before the other, and not coming before
-- goes along. Of two rivals with different indices one comes before the other.
-- Assumes nothing.
use Prim.Native.Nat.{ℕ}
use mathlib.Core.Path.{◌≡◌, refl, ap}
use mathlib.Core.Bool.{Bool, true, false, not, cond, ◌&&◌, ◌||◌, beq}
use native.Mathlib.Omega.{arith}
use borrow.Author.Tests.{lt-ltb, le-ltb, ltb-false, eq-eqb, ne_eqb}
use lib.Dec.{ltb, eqb}
use lib.Ieee.{Float}
use Rattle.base.proofs.Cases.{on-order, never}
use Rattle.base.proofs.FirstLaws.{Strict, by-least, by-greatest, strict-then, strict_same}
use Rattle.total.specs.Values.{total_of}
use Rattle.total.proofs.StrictLaws.{total-strict}
use Rattle.select.specs.Media.{speed_of}
use Rattle.select.specs.Rivals.{by_tier, by_score, by_medium, trip_of, by_trip}
use Rattle.select.specs.declared.types.Rival.{Rival}

pub tier-strict : Strict by_tier
tier-strict = by-greatest (λ (r : Rival). r.tier)

-- ---- by score, then index

not-not : (b : Bool) → not (not b) ≡ b
not-not true = refl
not-not false = refl

module _ {A : Type 0} (score : A → Float) (index : A → ℕ) where
  less-strict : Strict (λ (a b : A). not (total_of (score b) (score a)))
  less-strict =
      record {
        once = λ a b. total-strict.once (score a) (score b);
        along = λ a b c. total-strict.along (score a) (score b) (score c);
      }

  -- of what has a score and an index
  pub by-score : Strict
      (λ (a b : A). not (total_of (score b) (score a)) || (total_of (score a) (score b) && ltb (index a) (index b)))
  by-score =
      strict_same
      (λ a b.
      ap (λ (t : Bool). not (total_of (score b) (score a)) || (t && ltb (index a) (index b)))
      (not-not (total_of (score a) (score b))))
      (strict-then less-strict (by-least index))

pub score-strict : Strict by_score
score-strict = by-score (λ (r : Rival). r.score) (λ (r : Rival). r.index)

-- ---- by medium, score, index

-- level by a number is not behind, where it is not before
levels : (m n : ℕ) (t : Bool) → (ltb m n || (not (ltb n m) && t)) ≡ (ltb m n || (eqb m n && t))
levels m n t =
    on-order m n
    (λ h. rw (lt-ltb m n h))
    (λ h.
    on-order n m
    (λ k. rw (le-ltb m n h, lt-ltb n m k, ne_eqb m n (omega arith)))
    (λ k. rw (le-ltb m n h, le-ltb n m k, eq-eqb m n (omega arith))))

-- by a number, then by a strict order
pub by_number : {A : Type 0} (key : A → ℕ) {next : A → A → Bool} → Strict next
    → Strict (λ (a b : A). ltb (key a) (key b) || (eqb (key a) (key b) && next a b))
by_number key {next} order =
    strict_same (λ a b. levels (key a) (key b) (next a b)) (strict-then (by-least key) order)

pub medium-strict : Strict by_medium
medium-strict = by_number (λ (r : Rival). speed_of r.medium) score-strict

-- ---- known RTT first, then RTT, index

-- 0 where the RTT is known
abbrev unknown : Bool → ℕ
unknown t = cond t 0 1

knowns : (a b t : Bool)
    → (ltb (unknown a) (unknown b) || (not (ltb (unknown b) (unknown a)) && t)) ≡ ((a && not b) || (beq a b && t))
knowns true true t = refl
knowns true false t = refl
knowns false true t = refl
knowns false false t = refl

pub trip-strict : Strict by_trip
trip-strict =
    strict_same
    (λ a b.
    knowns a.timed b.timed
    (ltb (trip_of a) (trip_of b) || (eqb (trip_of a) (trip_of b) && ltb a.index b.index)))
    (strict-then (by-least (λ (r : Rival). unknown r.timed))
    (by_number trip_of (by-least (λ (r : Rival). r.index))))

-- ---- two of different indices are never level

same_index : (a b : Rival) → ltb a.index b.index ≡ false → ltb b.index a.index ≡ false → a.index ≡ b.index
same_index a b e f = omega (arith, ltb-false a.index b.index e, ltb-false b.index a.index f)

-- what an order puts level the next one does
level-score : (p q r s : Bool) → (not p || (q && r)) ≡ false → (not q || (p && s)) ≡ false → (r ≡ false) × (s ≡ false)
level-score true true r s e f = (e, f)
level-score true false r s e f = never refl f
level-score false q r s e f = never refl e

level-number : (m n : ℕ) (r s : Bool) → (ltb m n || (eqb m n && r)) ≡ false → (ltb n m || (eqb n m && s)) ≡ false
    → (r ≡ false) × (s ≡ false)
level-number m n r s e f =
    on-order m n
    (λ h. never refl (rw (lt-ltb m n h) at e))
    (λ h.
    on-order n m
    (λ k. never refl (rw (lt-ltb n m k) at f))
    (λ k.
    (rw (le-ltb m n h, eq-eqb m n (omega arith)) at e, rw (le-ltb n m k, eq-eqb n m (omega arith)) at f)))

level-known : (a b r s : Bool) → ((a && not b) || (beq a b && r)) ≡ false
    → ((b && not a) || (beq b a && s)) ≡ false
    → (r ≡ false) × (s ≡ false)
level-known true true r s e f = (e, f)
level-known true false r s e f = never refl e
level-known false true r s e f = never refl f
level-known false false r s e f = (e, f)

pub score-apart : (a b : Rival) → by_score a b ≡ false → by_score b a ≡ false → a.index ≡ b.index
score-apart a b e f =
    let l = level-score (total_of b.score a.score) (total_of a.score b.score) (ltb a.index b.index)
    (ltb b.index a.index) e f in
    same_index a b l.0 l.1

pub medium-apart : (a b : Rival) → by_medium a b ≡ false → by_medium b a ≡ false → a.index ≡ b.index
medium-apart a b e f =
    let l = level-number (speed_of a.medium) (speed_of b.medium) (by_score a b) (by_score b a) e f in
    score-apart a b l.0 l.1

pub trip-apart : (a b : Rival) → by_trip a b ≡ false → by_trip b a ≡ false → a.index ≡ b.index
trip-apart a b e f =
    let k =
    level-known a.timed b.timed
    (ltb (trip_of a) (trip_of b) || (eqb (trip_of a) (trip_of b) && ltb a.index b.index))
    (ltb (trip_of b) (trip_of a) || (eqb (trip_of b) (trip_of a) && ltb b.index a.index)) e f
    in
    let l = level-number (trip_of a) (trip_of b) (ltb a.index b.index) (ltb b.index a.index) k.0 k.1 in
    same_index a b l.0 l.1
