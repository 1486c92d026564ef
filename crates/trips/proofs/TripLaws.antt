-- The least round trip of the window: the first sample's, and one pass over all.
-- Assumes nothing.
use Rattle.std.specs.Prelude.{None, Some}
use Prim.Native.Nat.{ℕ, suc, ◌+◌, ◌*◌, ◌<◌, ◌≤◌, min}
use mathlib.Core.Path.{◌≡◌, refl, ap, sym, ◌∙◌, subst}
use mathlib.Core.Bool.{Bool, true, false, cond}
use mathlib.Core.List.{List, [], ◌∷◌, map, foldl}
use native.Mathlib.Omega.{arith}
use native.Mathlib.Numerals.{add-one}
use lib.ListN.{length, get_or, drop}
use lib.Seq.{drop-cons}
use Rattle.std.specs.List.{filter}
use Rattle.base.specs.Seq.{position}
use Rattle.base.specs.Passes.{lower_of}
use Rattle.base.proofs.Cases.{on-flag}
use Rattle.base.proofs.LeastLaws.{least-pass}
use Rattle.rtt.specs.Samples.{no_sample, is_sample, round_trips, min_rtt}
use Rattle.rtt.specs.declared.types.Sample.{Sample}
use Rattle.trips.specs.Trips.{lower_at}

-- ---- the pass

-- z is what is left to find from place i on
pub record Lowering (l : List Sample) (z least i : ℕ) : Type 0 where
  pub long : length l ≡ 32
  pub rest : z ≡ foldl min least (round_trips (drop i l))

-- the round trips of a list by whether its first place is a sample
abbrev trips_if : Bool → Sample → List Sample → List ℕ
trips_if b x l = map (λ s. s.rtt) (cond b (x ∷ filter is_sample l) (filter is_sample l))

-- one turn
trips-on : (b : Bool) (least : ℕ) (x : Sample) (l : List Sample) → x.used ≡ b
    → foldl min least (round_trips (x ∷ l)) ≡ foldl min (cond b (min least x.rtt) least) (round_trips l)
trips-on true least x l e = ap (λ (b : Bool). foldl min least (trips_if b x l)) e
trips-on false least x l e = ap (λ (b : Bool). foldl min least (trips_if b x l)) e

module _ {l : List Sample} {z least i : ℕ} where
  lowering-start : length l ≡ 32 → z ≡ foldl min least (round_trips (drop i l)) → Lowering l z least i
  lowering-start h e = record { long = h; rest = e }

  module _ {s : Sample} (w : Lowering l z least i) (h : i < 32) (e : s ≡ get_or l i no_sample) where
    rest-on : (b : Bool) → s.used ≡ b
        → z ≡ foldl min (cond b (min least s.rtt) least) (round_trips (drop (suc i) l))
    rest-on b q =
        w.rest
        ∙ ap (λ (m : List Sample). foldl min least (round_trips m))
        (drop-cons l i no_sample (omega (arith, w.long)) ∙ ap (λ (x : Sample). x ∷ drop (suc i) l) (sym e))
        ∙ trips-on b least s (drop (suc i) l) q

  -- one more
  lowering-one : {v : ℕ} → Lowering l z least i → i < 32
      → v ≡ lower_at l i least → Lowering l z v (i + 1)
  lowering-one {v} w h m =
      rw add-one
      (record {
        long = w.long;
        rest =
            rest-on w h refl (get_or l i no_sample).used refl
            ∙ ap (λ (x : ℕ). foldl min x (round_trips (drop (suc i) l))) (sym m);
      })

-- ---- the whole

module _ {A : Type 0} (p : A → Bool) where
  -- what is kept starts with the first that passes
  keep-first : (d : A) (l : List A) → position p l < length l
      → filter p l ≡ get_or l (position p l) d ∷ filter p (drop (suc (position p l)) l)
  keep-first d [] h = absurd (omega arith)
  keep-first d (x ∷ l) h =
      on-flag (p x) (λ q. rw q) (λ q. rw q (keep-first d l (omega (arith, rw q at h))))

  -- where none passes nothing is kept
  keep-none : (l : List A) → length l ≤ position p l → filter p l ≡ []
  keep-none [] h = refl
  keep-none (x ∷ l) h =
      on-flag (p x) (λ q. absurd (omega (arith, rw q at h))) (λ q. rw q (keep-none l (omega (arith, rw q at h))))

lower-min : (m : List ℕ) (a : ℕ) → foldl lower_of (Some a) m ≡ Some (foldl min a m)
lower-min [] a = refl
lower-min (x ∷ m) a = lower-min m (min a x)

-- two round trips, each compared with a least of its own, and both with the least of these
apart : (f g : Bool) (m n x y : ℕ)
    → min (cond f (min m x) m) (cond g (min n y) n)
    ≡ cond g (min (cond f (min (min m n) x) (min m n)) y) (cond f (min (min m n) x) (min m n))
apart true true m n x y = omega arith
apart true false m n x y = omega arith
apart false true m n x y = omega arith
apart false false m n x y = omega arith

-- two more, at places 2 k and 2 k + 1
pub lowering-two : {l : List Sample} {z u v : ℕ} (k m n : ℕ) → Lowering l z (min m n) (2 * k) → 2 * k + 1 < 32
    → u ≡ lower_at l (2 * k) m → v ≡ lower_at l (2 * k + 1) n
    → Lowering l z (min u v) (2 * (k + 1))
lowering-two {l} {z} {u} {v} k m n w h a b =
    let s : Sample = get_or l (2 * k) no_sample in
    let t : Sample = get_or l (2 * k + 1) no_sample in
    let e : 2 * k + 1 + 1 ≡ 2 * (k + 1) = omega arith in
    let g : min u v ≡ cond t.used (min (cond s.used (min (min m n) s.rtt) (min m n)) t.rtt)
    (cond s.used (min (min m n) s.rtt) (min m n)) =
    (λ j. min (a j) (b j)) ∙ apart s.used t.used m n s.rtt t.rtt in
    subst (λ (x : ℕ). Lowering l z (min u v) x) e (lowering-one (lowering-one w (omega arith) refl) h g)

-- nothing compared yet
pub lowering-first : {l : List Sample} (first : ℕ) → length l ≡ 32
    → Lowering l (foldl min first (round_trips l)) (min first first) 0
lowering-first {l} first h =
    let e : first ≡ min first first = omega arith in
    lowering-start h (ap (λ (x : ℕ). foldl min x (round_trips l)) e)

module _ (l : List Sample) {k : ℕ} (e : k ≡ position is_sample l) (n : length l ≡ 32) where
  pub min-some : {x : ℕ} {s : Sample} → k < 32 → s ≡ get_or l k no_sample
      → x ≡ foldl min s.rtt (round_trips l) → Some x ≡ min_rtt l
  unfolding min_rtt
  min-some {x} {s} h f m =
      let j : position is_sample l < length l = omega (arith, e, n) in
      let w : filter is_sample l ≡ s ∷ filter is_sample (drop (k + 1) l) =
      keep-first is_sample no_sample l j
      ∙ ap (λ (i : ℕ). get_or l i no_sample ∷ filter is_sample (drop (suc i) l)) (sym e)
      ∙ (λ i. sym f i ∷ filter is_sample (drop (sym (add-one k) i) l))
      in
      let g : min s.rtt s.rtt ≡ s.rtt = omega arith in
      ap (λ (y : ℕ). Some y)
      (m ∙ ap (λ (y : List Sample). foldl min s.rtt (map (λ (t : Sample). t.rtt) y)) w
      ∙ ap (λ (y : ℕ). foldl min y (round_trips (drop (k + 1) l))) g)
      ∙ sym (lower-min (round_trips (drop (k + 1) l)) s.rtt)
      ∙ ap (λ (y : List Sample). foldl lower_of None (map (λ (t : Sample). t.rtt) y)) (sym w)
      ∙ least-pass (round_trips l)

  pub min-none : 32 ≤ k → None ≡ min_rtt l
  unfolding min_rtt
  min-none h =
      let j : length l ≤ position is_sample l = omega (arith, e, n) in
      ap (λ (y : List Sample). foldl lower_of None (map (λ (t : Sample). t.rtt) y)) (sym (keep-none is_sample l j))
      ∙ least-pass (round_trips l)
