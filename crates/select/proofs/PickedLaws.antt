-- What each pick of the choice is, by one law of `first_by`: the best has the least score, of equals the lowest index;
-- the preferred pick is near and the first such; the quicker one is near, quicker, and the first by medium, score,
-- index. And of every choice: with a score among the ranked the picked one is the best or near it, else the first by
-- RTT.
-- Assumes nothing.
use Rattle.std.specs.Prelude.{Option, None, Some}
use Prim.Native.Nat.{ℕ, ◌≤◌}
use mathlib.Core.Path.{◌≡◌, refl, subst}
use mathlib.Core.Bool.{Bool, true, false, not, ◌&&◌, ◌||◌}
use mathlib.Core.List.{List, ◌∷◌, ◌++◌}
use mathlib.Core.Logic.{◌⊎◌, inl, inr}
use native.Mathlib.Omega.{arith}
use borrow.Author.Tests.{lt-ltb, le-ltb, ltb-false, eq-eqb}
use lib.Dec.{ltb, eqb}
use lib.Ieee.{Float, le}
use Rattle.std.specs.List.{list_all, filter}
use Rattle.base.proofs.Cases.{on-order, never}
use Rattle.base.proofs.KeepLaws.{every-keep, keep-passes, keep-keep}
use Rattle.base.proofs.FirstLaws.{Strict, First, first-over, first_passes, first-cases}
use Rattle.total.specs.Values.{total_of}
use Rattle.select.specs.Media.{speed_of, quicker_of}
use Rattle.select.specs.Rivals.{by_score, by_medium, by_trip}
use Rattle.select.specs.Choice.{
  ranked_of,
  first_by,
  or_else,
  scored_of,
  limit_of,
  near_of,
  preferred_of,
  quick_of,
  quickest,
  among_ranked,
  picked_of,
}
use Rattle.select.specs.declared.types.Medium.{Medium}
use Rattle.select.specs.declared.types.Rival.{Rival}
use Rattle.select.proofs.OrderLaws.{score-strict, medium-strict, trip-strict}

-- x stands in the list
pub record Stands (l : List Rival) (x : Rival) : Type 0 where
  pub front : List Rival
  pub back : List Rival
  pub there : l ≡ front ++ (x ∷ back)

none-some : {C : Type 0} (r : Rival) → None ≡ Some r → C
none-some r e = let z : ◌≡◌ {A = ℕ} 0 1 = let y : true ≡ false = cc in cc in absurd (omega arith)

some_one : (q r : Rival) → Some q ≡ Some r → q ≡ r
some_one q r e = cc

-- what `first_by` gives stands in the list, comes before each earlier one, and none comes before it
pub first_by_lem : {before : Rival → Rival → Bool} → Strict before → (l : List Rival) (r : Rival)
    → first_by before l ≡ Some r → First before l r
first_by_lem {before} order l r =
    first-cases order None Some (λ (f : Option Rival). f ≡ Some r → First before l r) l
    (λ h e. none-some r e)
    (λ x f e. let z : x ≡ r = cc in subst (First before l) z f)

stands : {before : Rival → Rival → Bool} {l : List Rival} {r : Rival} → First before l r → Stands l r
stands f = record { front = f.front; back = f.back; there = f.there }

-- ---- least score, of equals the lowest index

pub record Best (l : List Rival) (r : Rival) : Type 0 where
  pub there : Stands l r
  pub least : (x : Rival) → Stands l x → total_of r.score x.score ≡ true
  pub lowest : (x : Rival) → Stands l x → total_of x.score r.score ≡ true → r.index ≤ x.index

-- x does not come before r, by score and index
score-over : (p q s : Bool) → (not p || (q && s)) ≡ false → (p ≡ true) × (q ≡ true → s ≡ false)
score-over true true s e = (refl, λ h. e)
score-over true false s e = (refl, λ h. never h refl)
score-over false q s e = never refl e

not-before : (r x : Rival) → by_score x r ≡ false
    → (total_of r.score x.score ≡ true) × (total_of x.score r.score ≡ true → r.index ≤ x.index)
not-before r x e =
    let o = score-over (total_of r.score x.score) (total_of x.score r.score) (ltb x.index r.index) e in
    (o.0, λ h. ltb-false x.index r.index (o.1 h))

pub best-is : (l : List Rival) (r : Rival) → first_by by_score l ≡ Some r → Best l r
best-is l r e =
    let f : First by_score l r = first_by_lem score-strict l r e in
    record {
      there = stands f;
      least = λ x s. (not-before r x (first-over f s.front s.back x s.there)).0;
      lowest = λ x s. (not-before r x (first-over f s.front s.back x s.there)).1;
    }

-- ---- score <= limit

module _ (limit : Float) (l : List Rival) where
  -- what is near has a score, of at most the limit
  near-scored : list_all (λ r. r.scored) (near_of limit l) ≡ true
  near-scored = every-keep (λ (r : Rival). r.scored) (λ (r : Rival). le r.score limit) (scored_of l)
      (keep-passes (λ (r : Rival). r.scored) l)

  near_within : list_all (λ r. le r.score limit) (near_of limit l) ≡ true
  near_within = keep-passes (λ (r : Rival). le r.score limit) (scored_of l)

-- near the best
pub record Near (limit : Float) (r : Rival) : Type 0 where
  pub scored : r.scored ≡ true
  pub within : le r.score limit ≡ true

-- the first of a list that was kept of those near, by any order
kept_near : (limit : Float) (l : List Rival) (q : Rival → Bool) {before : Rival → Rival → Bool} {r : Rival}
    → First before (filter q (near_of limit l)) r → Near limit r
kept_near limit l q f =
    record {
      scored = first_passes (λ (x : Rival). x.scored) f (every-keep (λ (x : Rival). x.scored) q (near_of limit l)
          (near-scored limit l));
      within = first_passes (λ (x : Rival). le x.score limit) f
          (every-keep (λ (x : Rival). le x.score limit) q (near_of limit l) (near_within limit l));
    }

-- ---- the first preferred one with score <= limit

pub record PreferredPick (limit : Float) (l : List Rival) (p : Rival) : Type 0 where
  pub preferred : p.preferred ≡ true
  pub near : Near limit p
  pub first : Best (preferred_of (near_of limit l)) p

pub preferred-is : (limit : Float) (l : List Rival) (p : Rival)
    → first_by by_score (preferred_of (near_of limit l)) ≡ Some p → PreferredPick limit l p
preferred-is limit l p e =
    let f : First by_score (preferred_of (near_of limit l)) p = first_by_lem score-strict (preferred_of (near_of limit l)) p e in
    record {
      preferred = first_passes (λ (x : Rival). x.preferred) f
          (keep-passes (λ (x : Rival). x.preferred) (near_of limit l));
      near = kept_near limit l (λ (x : Rival). x.preferred) f;
      first = best-is (preferred_of (near_of limit l)) p e;
    }

-- ---- a quicker medium, by medium, score, index

pub record Quickest (l : List Rival) (r : Rival) : Type 0 where
  pub there : Stands l r
  pub medium : (x : Rival) → Stands l x → speed_of r.medium ≤ speed_of x.medium
  pub least : (x : Rival) → Stands l x → speed_of r.medium ≡ speed_of x.medium
      → total_of r.score x.score ≡ true
  pub lowest : (x : Rival) → Stands l x → speed_of r.medium ≡ speed_of x.medium
      → total_of x.score r.score ≡ true → r.index ≤ x.index

-- x does not come before r, by medium
medium-over : (m n : ℕ) (t : Bool) → (ltb m n || (eqb m n && t)) ≡ false → (n ≤ m) × (n ≡ m → t ≡ false)
medium-over m n t e =
    on-order m n
    (λ h. never refl (rw (lt-ltb m n h) at e))
    (λ h. (h, λ k. rw (le-ltb m n h, eq-eqb m n (omega arith)) at e))

pub quickest-is : (l : List Rival) (r : Rival) → first_by by_medium l ≡ Some r → Quickest l r
quickest-is l r e =
    let f : First by_medium l r = first_by_lem medium-strict l r e in
    let o : (x : Rival) → Stands l x
    → (speed_of r.medium ≤ speed_of x.medium) × (speed_of r.medium ≡ speed_of x.medium → by_score x r ≡
    false) =
    λ x s. medium-over (speed_of x.medium) (speed_of r.medium) (by_score x r)
    (first-over f s.front s.back x s.there)
    in
    record {
      there = stands f;
      medium = λ x s. (o x s).0;
      least = λ x s k. (not-before r x ((o x s).1 k)).0;
      lowest = λ x s k. (not-before r x ((o x s).1 k)).1;
    }

-- of those near one over a quicker medium than m
pub record QuickerPick (limit : Float) (m : Medium) (l : List Rival) (r : Rival) : Type 0 where
  pub quicker : quicker_of r.medium m ≡ true
  pub near : Near limit r
  pub first : Quickest (quick_of m (near_of limit l)) r

pub quicker-is : (limit : Float) (m : Medium) (l : List Rival) (r : Rival)
    → first_by by_medium (quick_of m (near_of limit l)) ≡ Some r → QuickerPick limit m l r
quicker-is limit m l r e =
    let f : First by_medium (quick_of m (near_of limit l)) r = first_by_lem medium-strict (quick_of m (near_of limit l)) r e in
    record {
      quicker = first_passes (λ (x : Rival). quicker_of x.medium m) f
          (keep-passes (λ (x : Rival). quicker_of x.medium m) (near_of limit l));
      near = kept_near limit l (λ (x : Rival). quicker_of x.medium m) f;
      first = quickest-is (quick_of m (near_of limit l)) r e;
    }

-- the same among the preferred ones, where one was picked
pub record QuickerPreferredPick (limit : Float) (m : Medium) (l : List Rival) (r : Rival) : Type 0 where
  pub quicker : quicker_of r.medium m ≡ true
  pub preferred : r.preferred ≡ true
  pub near : Near limit r
  pub first : Quickest (quick_of m (preferred_of (near_of limit l))) r

pub quicker-preferred-is : (limit : Float) (m : Medium) (l : List Rival) (r : Rival)
    → first_by by_medium (quick_of m (preferred_of (near_of limit l))) ≡ Some r
    → QuickerPreferredPick limit m l r
quicker-preferred-is limit m l r e =
    let n : List Rival = preferred_of (near_of limit l) in
    let q : Rival → Bool = λ x. quicker_of x.medium m in
    let w : Rival → Bool = λ x. x.preferred in
    let f : First by_medium (quick_of m n) r = first_by_lem medium-strict (quick_of m n) r e in
    record {
      quicker = first_passes q f (keep-passes q n);
      preferred = first_passes w f (every-keep w q n (keep-passes w (near_of limit l)));
      near = kept_near limit l (λ (x : Rival). w x && q x) (subst (λ (k : List Rival). First by_medium k r)
          (keep-keep q w (near_of limit l)) f);
      first = quickest-is (quick_of m n) r e;
    }

-- ---- of every choice

-- where one of the ranked has a score, the picked one is the best or near it
module _ (ranked : List Rival) (b : Rival) (limit : Float) where
  after-preferred : (p r : Rival) (f : Option Rival)
      → first_by by_medium (quick_of p.medium (preferred_of (near_of limit ranked))) ≡ f
      → Near limit p → or_else f p ≡ Some r → Near limit r
  after-preferred p r (Some q) e n h =
      subst (Near limit) (some_one q r h) (quicker-preferred-is limit p.medium ranked q e).near
  after-preferred p r None e n h = subst (Near limit) (some_one p r h) n

  after-best : (r : Rival) (f : Option Rival) → first_by by_medium (quick_of b.medium (near_of limit ranked)) ≡ f
      → or_else f b ≡ Some r
      → (b ≡ r) ⊎ Near limit r
  after-best r (Some q) e h = inr (subst (Near limit) (some_one q r h) (quicker-is limit b.medium ranked q e).near)
  after-best r None e h = inl (some_one b r h)

  among-near : (r : Rival) (f : Option Rival) → first_by by_score (preferred_of (near_of limit ranked)) ≡ f
      → quickest (near_of limit ranked) b f ≡ Some r → (b ≡ r) ⊎ Near limit r
  among-near r (Some p) e h = inr (after-preferred p r _ refl (preferred-is limit ranked p e).near h)
  among-near r None e h = after-best r _ refl h

picked-from : {C : Type 0} (ranked : List Rival) (margin : Float) (r : Rival) (f : Option Rival)
    → first_by by_score (scored_of ranked) ≡ f
    → among_ranked ranked margin f ≡ Some r
    → (First by_trip ranked r → C) → ((b : Rival) → Best (scored_of ranked) b → (b ≡ r) ⊎ Near (limit_of b margin) r → C)
    → C
picked-from ranked margin r None e h timed near = timed (first_by_lem trip-strict ranked r h)
picked-from ranked margin r (Some b) e h timed near =
    near b (best-is (scored_of ranked) b e) (among-near ranked b (limit_of b margin) r _ refl h)

pub picked-is : {C : Type 0} (field : List Rival) (margin : Float) (r : Rival) → picked_of field margin ≡ Some r
    → (First by_trip (ranked_of field) r → C)
    → ((b : Rival) → Best (scored_of (ranked_of field)) b → (b ≡ r) ⊎ Near (limit_of b margin) r → C) → C
unfolding picked_of
picked-is field margin r h timed near = picked-from (ranked_of field) margin r _ refl h timed near
