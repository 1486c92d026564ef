-- The steps of the code, each as its definition has it.
-- Assumes nothing.
use Prim.Native.Nat.{ℕ, zero, suc, ◌<◌, ◌≤◌}
use mathlib.Core.Path.{◌≡◌, refl, ap, sym, ◌∙◌}
use native.Mathlib.Omega.{arith}
use mathlib.Core.Bool.{Bool, true, false, cond}
use mathlib.Core.List.{List, [], ◌∷◌, map}
use borrow.Author.Tests.{lt-ltb, le-ltb, eq-eqb, ne_eqb}
use lib.Dec.{ltb, leb, eqb}
use lib.Ieee.{Float, binary64, mul}
use lib.ListN.{length, get_or}
use Rattle.total.specs.Places.{key_float, limit_key}
use Rattle.select.specs.declared.types.Rival.{Rival}
use Rattle.leads.specs.Keys.{off_key, wait_key, trip_key, speed_key, are_words, left_keys, is_near_key, is_speed, least_lead}
use Rattle.leads.specs.declared.least.Lead.{Lead}
use Rattle.choices.specs.Steps.{over_medium, isLeft, after_best, soonest_of}
use Rattle.choices.proofs.PickLaws.{over-still, over-slower, over-quicker}

-- past the last key is 0
pub past_end : (l : List ℕ) (j : ℕ) → length l ≤ j → 0 ≡ get_or l j 0
past_end [] j h = refl
past_end (x ∷ l) zero h = absurd (omega arith)
past_end (x ∷ l) (suc j) h = past_end l j (omega arith)

-- ---- over a quicker medium

module _ (keys : List ℕ) (limit : ℕ) (speeds : List ℕ) (at : ℕ) {pace : ℕ} (p : pace ≡ get_or speeds at 0) where
  pub over-at : pace ≡ 3 → at ≡ over_medium keys limit speeds at
  over-at e = sym (over-still keys limit speeds at (eq-eqb (get_or speeds at 0) 3 (sym p ∙ e)))

  module _ (e : pace ≡ 3 → ⊥) {q : Lead} (h : q ≡ least_lead (left_keys (is_near_key limit) keys speeds)) where
    slow : eqb (get_or speeds at 0) 3 ≡ false
    slow = ne_eqb (get_or speeds at 0) 3 (λ z. e (p ∙ z))

    key-as : q.key ≡ (least_lead (left_keys (is_near_key limit) keys speeds)).key
    key-as = ap (λ (f : Lead). f.key) h

    pub over-not : pace ≤ q.key → at ≡ over_medium keys limit speeds at
    over-not g =
        sym
        (over-slower keys limit speeds at slow
        ((λ i. ltb (sym key-as i) (sym p i)) ∙ le-ltb q.key pace g))

    pub over_first : {f : Lead} → q.key < pace
        → f ≡ least_lead (left_keys (is_speed q.key) speeds (left_keys (is_near_key limit) keys keys))
        → f.at ≡ over_medium keys limit speeds at
    over_first {f} g k =
        ap (λ (x : Lead). x.at)
        (k ∙ ap (λ (s : ℕ). least_lead (left_keys (is_speed s) speeds (left_keys (is_near_key limit) keys keys))) key-as)
        ∙ sym
        (over-quicker keys limit speeds at slow
        ((λ i. ltb (sym key-as i) (sym p i)) ∙ lt-ltb q.key pace g))

-- ---- the pick where one has a score

pub after-as : (l : List Rival) (keys : List ℕ) (best : Lead) (margin : Float) {x : Float} {limit at r : ℕ} {second : Lead}
    {ks speeds : List ℕ} → x ≡ key_float best.key → limit ≡ limit_key (mul binary64 x margin)
    → second ≡ least_lead (left_keys (isLeft true) l keys) → at ≡ cond (leb second.key limit) second.at best.at
    → ks ≡ left_keys (isLeft (leb second.key limit)) l keys → speeds ≡ map speed_key l
    → r ≡ over_medium ks limit speeds at → r ≡ after_best l keys best margin
unfolding after_best
after-as l keys best margin {x} {limit} {at} {r} {second} {ks} {speeds} a b c d e f g =
    let lim : limit ≡ limit_key (mul binary64 (key_float best.key) margin) =
    b ∙ ap (λ (y : Float). limit_key (mul binary64 y margin)) a in
    g
    ∙ (λ i. over_medium (e i) limit (f i) (d i))
    ∙ (λ i. over_medium (left_keys (isLeft (leb (c i).key (lim i))) l keys) (lim i) (map speed_key l)
    (cond (leb (c i).key (lim i)) (c i).at best.at))

-- ---- the pick where none has a score

module _ (l : List Rival) (top : ℕ) {t : Lead} {ts : List ℕ} (h : (ts ≡ map (trip_key top) l) × (are_words ts ≡ true))
    (g : t ≡ least_lead ts) where
  trip-as : t ≡ least_lead (map (trip_key top) l)
  trip-as = g ∙ ap least_lead h.0

  words : are_words (map (trip_key top) l) ≡ true
  words = ap are_words (sym h.0) ∙ h.1

  pub soonest-none : {w : Lead} → t.key ≡ off_key → w ≡ least_lead (map (wait_key top) l)
      → (w.at ≡ soonest_of l top) × (are_words (map (trip_key top) l) ≡ true)
  unfolding soonest_of
  soonest-none {w} e k = (
    ap (λ (x : Lead). x.at) k
        ∙ sym
        (ap (λ (b : Bool). cond b (least_lead (map (wait_key top) l)).at (least_lead (map (trip_key top) l)).at)
        (eq-eqb (least_lead (map (trip_key top) l)).key off_key (ap (λ (x : Lead). x.key) (sym trip-as) ∙ e))),
    words,
  )

  pub soonest-known : (t.key ≡ off_key → ⊥) → (t.at ≡ soonest_of l top) × (are_words (map (trip_key top) l) ≡ true)
  unfolding soonest_of
  soonest-known e = (
    ap (λ (x : Lead). x.at) trip-as
        ∙ sym
        (ap (λ (b : Bool). cond b (least_lead (map (wait_key top) l)).at (least_lead (map (trip_key top) l)).at)
        (ne_eqb (least_lead (map (trip_key top) l)).key off_key (λ z. e (ap (λ (x : Lead). x.key) trip-as ∙ z)))),
    words,
  )
