-- The answers of the choice over a field in words, each by what its steps have found; and what the loops that try 6 and 12
-- have seen.
-- Assumes nothing.
use Rattle.std.specs.Prelude.{Option, None, Some, Result, Ok, Err}
use Rattle.std.specs.Bool.{then_some}
use Prim.Native.Nat.{ℕ, zero, suc, ◌+◌, ◌<◌, ◌≤◌}
use mathlib.Core.Path.{◌≡◌, refl, ap, sym, ◌∙◌}
use mathlib.Core.Bool.{Bool, true, false, not, cond, ◌&&◌, ◌||◌}
use mathlib.Core.List.{List, [], ◌∷◌, ◌++◌, map}
use native.Mathlib.Numerals.{add-one}
use native.Mathlib.Omega.{arith}
use borrow.Author.Tests.{lt-ltb, le-ltb, le-leb, lt-leb, eq-eqb, ne_eqb, not-true}
use lib.Dec.{ltb, eqb}
use lib.Ieee.{Float, nan, inf, fin, binary64, of_bits, le, mul, div}
use lib.ListN.{length, get_or, take, drop, length-map, drop_of_length-le}
use lib.Seq.{take-suc, take_all, drop-cons}
use Rattle.std.specs.List.{list_all, filter}
use Rattle.base.specs.Limits.{is_endless}
use Rattle.base.specs.Refusals.{refusal_number}
use Rattle.base.specs.declared.types.Refusal.{Refusal}
use Rattle.base.specs.declared.types.Refusal.TheVariants.{Duration, Index, NoPath}
use Rattle.base.proofs.Cases.{on-flag, on-order, never}
use Rattle.base.proofs.KeepLaws.{keep-keep, none-keep}
use Rattle.total.specs.Patterns.{float_of}
use Rattle.total.proofs.PlaceLaws.{quiet-nan}
use Rattle.select.specs.Rivals.{no_rival, is_long, at_place, placed, by_score, by_trip}
use Rattle.select.specs.Choice.{
  none_is,
  rivals_of,
  ranked_of,
  first_by,
  scored_of,
  limit_of,
  near_of,
  among_scored,
  among_ranked,
  picked_of,
  is_long_held,
  slot_of,
  choose_of,
  best_score,
  best_of,
}
use Rattle.select.specs.declared.types.Rival.{Rival}
use Rattle.select.proofs.ChoiceLaws.{passes, picked-passes, picked-taken, at-index}
use Rattle.rivalrows.specs.Rows.{rival_in, field_in}
use Rattle.leads.specs.Keys.{off_key, is_beyond, rank_key, is_top, score_key, trip_key, are_words, least_lead}
use Rattle.leads.specs.declared.least.Lead.{Lead}
use Rattle.leads.proofs.LoopLaws.{Found, least-found, map_at, at-is, field-long}
use Rattle.choices.specs.Steps.{seated_of, answer_up_to, score_at, best_refusal, after_best, soonest_of}
use Rattle.choices.proofs.TopLaws.{keep-none, ranked-top, ranked-none}
use Rattle.choices.proofs.PickLaws.{left-of, right_of, is_on, index_at, top-held, tiers-small, best-inside, best-first, best_none, best-on, best-nothing, after-right}
use Rattle.choices.proofs.TripLaws.{soonest-right}

-- ---- the slot

module _ (ws : List (List ℕ)) (n : 0 < length ws) where
  some : 0 < length (field_in ws)
  some = omega (arith, field-long ws)

  abbrev ranks : List ℕ
  ranks = map rank_key (field_in ws)

  top-found : Found ranks (least_lead ranks)
  top-found = least-found ranks (omega (arith, some, length-map (field_in ws) rank_key))

  -- none is held
  none-ranked : eqb (least_lead ranks).key off_key ≡ true → ranked_of (field_in ws) ≡ []
  none-ranked e = ranked-none (field_in ws) (tiers-small ws) top-found.place top-found.key e

  module _ (off : eqb (least_lead ranks).key off_key ≡ false) where
    abbrev top : ℕ
    top = (least_lead ranks).key

    ranked-as : ranked_of (field_in ws) ≡ filter (is_top top) (field_in ws)
    ranked-as = ranked-top (field_in ws) (tiers-small ws) top-found.place top-found.key off

    scored-as : scored_of (ranked_of (field_in ws)) ≡ filter (is_on top) (field_in ws)
    scored-as = ap scored_of ranked-as ∙ keep-keep (λ (r : Rival). r.scored) (is_top top) (field_in ws)

    abbrev scores : List ℕ
    scores = map (score_key top) (field_in ws)

    top-inside : (least_lead ranks).at < length (field_in ws)
    top-inside = omega (arith, top-found.place.inside, length-map (field_in ws) rank_key)

    top-there : is_top top (get_or (field_in ws) (least_lead ranks).at no_rival) ≡ true
    top-there =
        eq-eqb (rank_key (get_or (field_in ws) (least_lead ranks).at no_rival)) top
        (sym (top-found.key ∙ map_at rank_key no_rival (field_in ws) (least_lead ranks).at top-inside))

    module _ (pl : placed 0 (field_in ws) ≡ true) where
      -- the picked one has its place for index
      slot_at : (margin : Float) (r : ℕ) → r < length (field_in ws)
          → picked_of (field_in ws) margin ≡ Some (get_or (field_in ws) r no_rival)
          → Ok r ≡ slot_of (picked_of (field_in ws) margin)
      slot_at margin r i p =
          sym
          (ap slot_of p
          ∙ ap Ok
          (index_at (field_in ws) r pl i (picked-taken (field_in ws) margin (get_or (field_in ws) r no_rival) p).held))

      -- a place past the last has no rival that is held
      past : (r : ℕ) → length (field_in ws) ≤ r → (get_or (field_in ws) r no_rival).held ≡ false
      past r h = beyond (field_in ws) r h
        where
          beyond : (l : List Rival) (r : ℕ) → length l ≤ r → (get_or l r no_rival).held ≡ false
          beyond [] r h = refl
          beyond (x ∷ l) zero h = absurd (omega arith)
          beyond (x ∷ l) (suc r) h = beyond l r (omega arith)

      slot-of : (margin : Float) (r : ℕ) → picked_of (field_in ws) margin ≡ Some (get_or (field_in ws) r no_rival)
          → Ok r ≡ slot_of (picked_of (field_in ws) margin)
      slot-of margin r p =
          on-order r (length (field_in ws))
          (λ i. slot_at margin r i p)
          (λ i.
          never (picked-taken (field_in ws) margin (get_or (field_in ws) r no_rival) p).held (past r i))

      unscored : (margin : Float) → eqb (least_lead scores).key off_key ≡ true → are_words (map (trip_key top) (field_in ws)) ≡ true
          → Ok (soonest_of (field_in ws) top) ≡ slot_of (picked_of (field_in ws) margin)
      unfolding picked_of
      unscored margin e words =
          slot-of margin (soonest_of (field_in ws) top)
          (ap (among_ranked (ranked_of (field_in ws)) margin)
          (ap (first_by by_score) scored-as ∙ best_none ws pl top off margin some e)
          ∙ ap (first_by by_trip) ranked-as
          ∙ soonest-right (field_in ws) pl top off (least_lead ranks).at top-inside top-there words)

      scored : (margin : Float) → eqb (least_lead scores).key off_key ≡ false
          → Ok (after_best (field_in ws) scores (least_lead scores) margin) ≡ slot_of (picked_of (field_in ws) margin)
      unfolding picked_of
      scored margin e =
          slot-of margin (after_best (field_in ws) scores (least_lead scores) margin)
          (ap (among_ranked (ranked_of (field_in ws)) margin)
          (ap (first_by by_score) scored-as ∙ best-first ws pl top off margin some e)
          ∙ ap (λ (m : List Rival). among_scored (near_of (limit_of (get_or (field_in ws) (least_lead scores).at no_rival) margin) m)
          (get_or (field_in ws) (least_lead scores).at no_rival)) ranked-as
          ∙ after-right ws pl top off margin some e)

-- ---- the answers

module _ (l : List Rival) (margin : Float) where
  pub seat-stray : not (placed 0 l) ≡ true → Err Index ≡ seated_of l margin
  unfolding seated_of
  seat-stray e = rw e

  seat-slot : {k : Result ℕ Refusal} → not (placed 0 l) ≡ false → k ≡ slot_of (picked_of l margin) → k ≡ seated_of l margin
  unfolding seated_of
  seat-slot e f = rw e f

not-false : (b : Bool) → not b ≡ false → b ≡ true
not-false true e = refl
not-false false e = sym e

module _ (ws : List (List ℕ)) (n : length ws ≡ 8) (margin : Float) (e : not (placed 0 (field_in ws)) ≡ false) {t : Lead}
    (h : t ≡ least_lead (map rank_key (field_in ws))) where
  here : 0 < length ws
  here = omega (arith, n)

  pub seat-none : t.key ≡ off_key → Err NoPath ≡ seated_of (field_in ws) margin
  unfolding picked_of
  seat-none k =
      seat-slot (field_in ws) margin e
      (sym
      (ap (λ (m : List Rival). slot_of (among_ranked m margin (first_by by_score (scored_of m))))
      (none-ranked ws here (eq-eqb (least_lead (map rank_key (field_in ws))).key off_key (ap (λ (f : Lead). f.key) (sym h) ∙ k)))))

  module _ (k : t.key ≡ off_key → ⊥) {b : Lead} (g : b ≡ least_lead (map (score_key t.key) (field_in ws))) where
    on : eqb (least_lead (map rank_key (field_in ws))).key off_key ≡ false
    on = ne_eqb (least_lead (map rank_key (field_in ws))).key off_key (λ z. k (ap (λ (f : Lead). f.key) h ∙ z))

    best-as : b ≡ least_lead (map (score_key (least_lead (map rank_key (field_in ws))).key) (field_in ws))
    best-as = g ∙ ap (λ (f : Lead). least_lead (map (score_key f.key) (field_in ws))) h

    pub seat-soonest : {s : ℕ} → b.key ≡ off_key
        → (s ≡ soonest_of (field_in ws) t.key) × (are_words (map (trip_key t.key) (field_in ws)) ≡ true)
        → Ok s ≡ seated_of (field_in ws) margin
    seat-soonest z s =
        seat-slot (field_in ws) margin e
        (ap Ok (s.0 ∙ ap (λ (f : Lead). soonest_of (field_in ws) f.key) h)
        ∙ unscored ws here on (not-false (placed 0 (field_in ws)) e) margin
        (eq-eqb (least_lead (map (score_key (least_lead (map rank_key (field_in ws))).key) (field_in ws))).key off_key
        (ap (λ (f : Lead). f.key) (sym best-as) ∙ z))
        (ap (λ (f : Lead). are_words (map (trip_key f.key) (field_in ws))) (sym h) ∙ s.1))

    pub seat-after : {s : ℕ} {ks : List ℕ} → (b.key ≡ off_key → ⊥) → ks ≡ map (score_key t.key) (field_in ws)
        → s ≡ after_best (field_in ws) ks b margin → Ok s ≡ seated_of (field_in ws) margin
    seat-after {s} {ks} z q f =
        let r : ks ≡ map (score_key (least_lead (map rank_key (field_in ws))).key) (field_in ws) =
        q ∙ ap (λ (u : Lead). map (score_key u.key) (field_in ws)) h in
        seat-slot (field_in ws) margin e
        (ap Ok (f ∙ (λ i. after_best (field_in ws) (r i) (best-as i) margin))
        ∙ scored ws here on (not-false (placed 0 (field_in ws)) e) margin
        (ne_eqb (least_lead (map (score_key (least_lead (map rank_key (field_in ws))).key) (field_in ws))).key off_key
        (λ y. z (ap (λ (u : Lead). u.key) best-as ∙ y))))

-- ---- 6

-- up to 2 ^ 62 - 1: the rule's own
past-long : (r : Rival) → is_beyond 4611686018427387903 r ≡ is_long r
unfolding is_beyond
past-long r = λ i. (r.timed && above r.rtt i) || (r.based && above r.base i)
  where
    above : (x : ℕ) → ltb 4611686018427387903 x ≡ is_endless x
    above x =
        on-order 4611686018427387903 x
        (λ o. lt-ltb 4611686018427387903 x o ∙ sym (le-leb 4611686018427387904 x o))
        (λ o. le-ltb 4611686018427387903 x o ∙ sym (lt-leb 4611686018427387904 x (omega arith)))

-- up to 2 ^ 64 - 1: none
past-none : (r : Rival) → is_beyond off_key r ≡ false
unfolding is_beyond
past-none r = refl

none-same : (p q : Rival → Bool) → ((r : Rival) → p r ≡ q r) → (l : List Rival) → none_is p l ≡ none_is q l
none-same p q f [] = refl
none-same p q f (r ∷ l) = λ i. not (f r i) && none-same p q f l i

none-false : (l : List Rival) → none_is (λ r. false) l ≡ true
none-false [] = refl
none-false (r ∷ l) = none-false l

module _ (l : List Rival) (margin : Float) where
  pub answer-past : (longest : ℕ) → not (none_is (is_beyond longest) (rivals_of l)) ≡ true
      → Err Duration ≡ answer_up_to longest l margin
  unfolding answer_up_to
  answer-past longest e = rw e

  pub answer-seated : (longest : ℕ) {k : Result ℕ Refusal} → not (none_is (is_beyond longest) (rivals_of l)) ≡ false
      → k ≡ seated_of l margin → k ≡ answer_up_to longest l margin
  unfolding answer_up_to
  answer-seated longest e f = rw e f

  pub answer-choose : {k : Result ℕ Refusal} → k ≡ answer_up_to 4611686018427387903 l margin → k ≡ choose_of l margin
  unfolding answer_up_to choose_of seated_of
  answer-choose f =
      f
      ∙ ap (λ (b : Bool). cond (not b) (Err Duration)
      (cond (not (placed 0 l)) (Err Index) (slot_of (picked_of l margin))))
      (none-same (is_beyond 4611686018427387903) is_long past-long (rivals_of l))

  pub answer-picked : {k : Result ℕ Refusal} → k ≡ answer_up_to off_key l margin → k ≡ seated_of l margin
  unfolding answer_up_to
  answer-picked f =
      f
      ∙ ap (λ (b : Bool). cond (not b) (Err Duration) (seated_of l margin))
      (none-same (is_beyond off_key) (λ (r : Rival). false) past-none (rivals_of l) ∙ none-false (rivals_of l))

-- ---- the best score

-- near a NaN is none
near-nan : (l : List Rival) → near_of nan l ≡ []
unfolding le
near-nan l = keep-false (scored_of l)
  where
    le-nan : (x : Float) → le x nan ≡ false
    le-nan nan = refl
    le-nan (inf s) = refl
    le-nan (fin s m e) = refl

    keep-false : (m : List Rival) → filter (λ r. le r.score nan) m ≡ []
    keep-false [] = refl
    keep-false (r ∷ m) = rw (le-nan r.score) (keep-false m)

limit-nan : (r : Rival) → limit_of r nan ≡ nan
unfolding mul
limit-nan r = of r.score
  where
    of : (x : Float) → mul binary64 x nan ≡ nan
    of nan = refl
    of (inf s) = refl
    of (fin s m e) = refl

-- so the pick is the best, where one has a score
scored-nan : (l : List Rival) (r : Rival) → among_scored (near_of (limit_of r nan) l) r ≡ Some r
scored-nan l r = ap (λ (m : List Rival). among_scored m r) (ap (λ (x : Float). near_of x l) (limit-nan r) ∙ near-nan l)

-- the answer of `best` by that of the choice
abbrev pub best_by : List Rival → Result ℕ Refusal → Result (Option Float) Refusal
best_by l (Ok n) = score_at l n
best_by l (Err why) = best_refusal why

-- nothing is kept where none passes
none_kept : (p : Rival → Bool) (l : List Rival) → filter p l ≡ [] → list_all (λ r. not (p r)) l ≡ true
none_kept p [] e = refl
none_kept p (r ∷ l) e =
    on-flag (p r)
    (λ h. never {t = true} refl (ap is_empty (ap (λ (b : Bool). cond b (r ∷ filter p l) (filter p l)) (sym h) ∙ e)))
    (λ h. rw h (none_kept p l (ap (λ (b : Bool). cond b (r ∷ filter p l) (filter p l)) (sym h) ∙ e)))
  where
    is_empty : List Rival → Bool
    is_empty [] = false
    is_empty (x ∷ m) = true

slot-score : (l : List Rival) (j n : ℕ) → n ≡ j → (get_or l j no_rival).scored ≡ true
    → score_at l n ≡ Ok (Some (get_or l j no_rival).score)
unfolding score_at
slot-score l j n e s = rw (e, s)

slot-unscored : (l : List Rival) (n : ℕ) → (get_or l n no_rival).scored ≡ false → score_at l n ≡ Ok None
unfolding score_at
slot-unscored l n s = rw s

no-path : best_refusal NoPath ≡ Ok None
unfolding best_refusal
no-path = refl

too_long : best_refusal Duration ≡ Err Duration
unfolding best_refusal
too_long = refl

astray : best_refusal Index ≡ Err Index
unfolding best_refusal
astray = refl

module _ (ws : List (List ℕ)) (n : 0 < length ws) (pl : placed 0 (field_in ws) ≡ true) where
  -- none is held
  best-empty : eqb (least_lead (map rank_key (field_in ws))).key off_key ≡ true
      → best_by (field_in ws) (slot_of (picked_of (field_in ws) nan)) ≡ best_score (first_by by_score (scored_of (ranked_of (field_in ws))))
  unfolding picked_of
  best-empty e =
      ap (λ (m : List Rival). best_by (field_in ws) (slot_of (among_ranked m nan (first_by by_score (scored_of m)))))
      (none-ranked ws n e)
      ∙ no-path
      ∙ sym (ap (λ (m : List Rival). best_score (first_by by_score (scored_of m))) (none-ranked ws n e))

  module _ (off : eqb (least_lead (map rank_key (field_in ws))).key off_key ≡ false) where
    abbrev high : ℕ
    high = (least_lead (map rank_key (field_in ws))).key

    abbrev keys : List ℕ
    keys = map (score_key high) (field_in ws)

    -- one has a score
    best-there : eqb (least_lead keys).key off_key ≡ false
        → best_by (field_in ws) (slot_of (picked_of (field_in ws) nan))
        ≡ best_score (first_by by_score (scored_of (ranked_of (field_in ws))))
    unfolding picked_of
    best-there e =
        let r : Rival = get_or (field_in ws) (least_lead keys).at no_rival in
        let f : first_by by_score (scored_of (ranked_of (field_in ws))) ≡ Some r =
        ap (first_by by_score) (scored-as ws n off) ∙ best-first ws pl high off nan (some ws n) e in
        let on : is_on high r ≡ true = best-on ws pl high off nan (some ws n) e in
        let i : r.index ≡ (least_lead keys).at =
        index_at (field_in ws) (least_lead keys).at pl (best-inside ws pl high off nan (some ws n))
        (top-held high r off (left-of (is_top high r) r.scored on)) in
        ap (λ (m : Option Rival). best_by (field_in ws) (slot_of (among_ranked (ranked_of (field_in ws)) nan m))) f
        ∙ ap (λ (m : Option Rival). best_by (field_in ws) (slot_of m)) (scored-nan (ranked_of (field_in ws)) r)
        ∙ slot-score (field_in ws) (least_lead keys).at r.index i (right_of (is_top high r) r.scored on)
        ∙ sym (ap best_score f)

    -- none has
    best-not-there : eqb (least_lead keys).key off_key ≡ true
        → best_by (field_in ws) (slot_of (picked_of (field_in ws) nan))
        ≡ best_score (first_by by_score (scored_of (ranked_of (field_in ws))))
    best-not-there e =
        let g : scored_of (ranked_of (field_in ws)) ≡ [] =
        scored-as ws n off ∙ keep-none (is_on high) (field_in ws) (best-nothing ws pl high off nan (some ws n) e) in
        let h : list_all (λ r. not r.scored) (ranked_of (field_in ws)) ≡ true =
        none_kept (λ (r : Rival). r.scored) (ranked_of (field_in ws)) g in
        found (picked_of (field_in ws) nan) refl h
        ∙ sym (ap (λ (m : List Rival). best_score (first_by by_score m)) g)
      where
        found : (m : Option Rival) → picked_of (field_in ws) nan ≡ m
            → list_all (λ r. not r.scored) (ranked_of (field_in ws)) ≡ true → best_by (field_in ws) (slot_of m) ≡ Ok None
        found None q h = no-path
        found (Some r) q h =
            let t : not r.scored ≡ true =
            sym (ap (passes (λ (x : Rival). not x.scored)) q)
            ∙ picked-passes (λ (x : Rival). not x.scored) (field_in ws) nan h in
            let u : not (get_or (field_in ws) r.index no_rival).scored ≡ true =
            at-index (λ (x : Rival). not x.scored) (field_in ws) nan r pl q t in
            slot-unscored (field_in ws) r.index (not-true (get_or (field_in ws) r.index no_rival).scored u)

  best-slot : best_by (field_in ws) (slot_of (picked_of (field_in ws) nan))
      ≡ best_score (first_by by_score (scored_of (ranked_of (field_in ws))))
  best-slot =
      on-flag (eqb (least_lead (map rank_key (field_in ws))).key off_key)
      best-empty
      (λ e.
      on-flag (eqb (least_lead (map (score_key (least_lead (map rank_key (field_in ws))).key) (field_in ws))).key off_key)
      (best-not-there e)
      (best-there e))

-- `best` is the score of the choice where none is near
pub best-chosen : (ws : List (List ℕ)) → length ws ≡ 8 → {k : Result ℕ Refusal} → k ≡ choose_of (field_in ws) nan
    → best_by (field_in ws) k ≡ best_of (field_in ws)
unfolding choose_of best_of
best-chosen ws n {k} e =
    ap (best_by (field_in ws)) e
    ∙ on-flag (is_long_held (field_in ws))
    (λ h. rw h too_long)
    (λ h.
    on-flag (placed 0 (field_in ws))
    (λ p. rw (h, p) (best-slot ws (omega (arith, n)) p))
    (λ p. rw (h, p) astray))

-- as the code finds it
pub best-from : (ws : List (List ℕ)) → length ws ≡ 8 → {k m : Result ℕ Refusal} → k ≡ choose_of (field_in ws) (float_of 0x7ff8_0000_0000_0000)
    → k ≡ m → best_by (field_in ws) m ≡ best_of (field_in ws)
best-from ws n e f = best-chosen ws n (sym f ∙ e ∙ ap (choose_of (field_in ws)) quiet-nan)

-- past the last place there is none
pub score-past : (ws : List (List ℕ)) (at : ℕ) → length ws ≡ 8 → 8 ≤ at → Ok None ≡ score_at (field_in ws) at
score-past ws at n h =
    sym (slot-unscored (field_in ws) at (beyond (field_in ws) at (omega (arith, n, field-long ws))))
  where
    beyond : (l : List Rival) (r : ℕ) → length l ≤ r → (get_or l r no_rival).scored ≡ false
    beyond [] r h = refl
    beyond (x ∷ l) zero h = absurd (omega arith)
    beyond (x ∷ l) (suc r) h = beyond l r (omega arith)

-- at a place
module _ (ws : List (List ℕ)) (at : ℕ) (n : length ws ≡ 8) (h : at < 8) {r : Rival} (e : r ≡ rival_in (get_or ws at [])) where
  at_row : r ≡ get_or (field_in ws) at no_rival
  at_row = e ∙ sym (at-is ws at (omega (arith, n)))

  score-there : r.scored ≡ true → Ok (Some r.score) ≡ score_at (field_in ws) at
  score-there s =
      ap (λ (x : Rival). Ok (Some x.score)) at_row
      ∙ sym (slot-score (field_in ws) at at refl (ap (λ (x : Rival). x.scored) (sym at_row) ∙ s))

  score-not : r.scored ≡ false → Ok None ≡ score_at (field_in ws) at
  score-not s = sym (slot-unscored (field_in ws) at (ap (λ (x : Rival). x.scored) (sym at_row) ∙ s))

  pub score-of : Ok (then_some r.scored r.score) ≡ score_at (field_in ws) at
  score-of = on-flag r.scored (λ s. rw s (score-there s)) (λ s. rw s (score-not s))

-- ---- whether one passes the longest

-- of the first i none does, unless one was found
pub record Looking (longest : ℕ) (ws : List (List ℕ)) (found : Bool) (i : ℕ) : Type 0 where
  pub long : length ws ≡ 8
  pub done : found ≡ not (list_all (λ w. not ((rival_in w).held && is_beyond longest (rival_in w))) (take i ws))

every-snoc : {A : Type 0} (q : A → Bool) (a : List A) (x : A) → list_all q (a ++ (x ∷ [])) ≡ (list_all q a && q x)
every-snoc q [] x = on-flag (q x) (λ h. rw h) (λ h. rw h)
every-snoc q (y ∷ a) x = on-flag (q y) (λ h. rw h (every-snoc q a x)) (λ h. rw h)

either : (a b : Bool) → (not a || b) ≡ not (a && not b)
either true true = refl
either true false = refl
either false b = refl

module _ {longest : ℕ} {ws : List (List ℕ)} where
  pub looking-start : length ws ≡ 8 → Looking longest ws false 0
  looking-start h = record { long = h; done = refl }

  pub looking-next : {found a b v : Bool} {i : ℕ} → Looking longest ws found i → i < 8 → a ≡ (rival_in (get_or ws i [])).held
      → b ≡ is_beyond longest (rival_in (get_or ws i [])) → v ≡ (found || (a && b)) → Looking longest ws v (i + 1)
  looking-next {found} {a} {b} {v} {i} s h e f g =
      let q : List ℕ → Bool = λ w. not ((rival_in w).held && is_beyond longest (rival_in w)) in
      rw add-one
      (record {
        long = s.long;
        done =
            g
            ∙ (λ j. s.done j || (e j && f j))
            ∙ either (list_all (λ (w : List ℕ). not ((rival_in w).held && is_beyond longest (rival_in w))) (take i ws))
            ((rival_in (get_or ws i [])).held && is_beyond longest (rival_in (get_or ws i [])))
            ∙ ap not
            (sym
            (ap (list_all (λ (w : List ℕ). not ((rival_in w).held && is_beyond longest (rival_in w))))
            (take-suc ws i [] (omega (arith, s.long)))
            ∙ every-snoc (λ (w : List ℕ). not ((rival_in w).held && is_beyond longest (rival_in w))) (take i ws) (get_or ws i [])));
      })

  pub looking-end : {found : Bool} {i : ℕ} → Looking longest ws found i → 8 ≤ i → found ≡ not (none_is (is_beyond longest) (rivals_of (field_in ws)))
  looking-end {found} {i} s h =
      s.done
      ∙ ap (λ (m : List (List ℕ)). not (list_all (λ (w : List ℕ). not ((rival_in w).held && is_beyond longest (rival_in w))) m))
      (take_all i ws (omega (arith, s.long)))
      ∙ ap not
      (sym (every_map ws) ∙ sym (none-keep (is_beyond longest) (λ (r : Rival). r.held) (field_in ws)))
    where
      every_map : (vs : List (List ℕ)) → list_all (λ r. not (r.held && is_beyond longest r)) (field_in vs)
          ≡ list_all (λ w. not ((rival_in w).held && is_beyond longest (rival_in w))) vs
      every_map [] = refl
      every_map (w ∷ vs) =
          on-flag (not ((rival_in w).held && is_beyond longest (rival_in w))) (λ k. rw k (every_map vs)) (λ k. rw k)

-- ---- whether one is not at its place

pub record Placing (ws : List (List ℕ)) (found : Bool) (i : ℕ) : Type 0 where
  pub long : length ws ≡ 8
  pub rest : placed 0 (field_in ws) ≡ cond found false (placed i (field_in (drop i ws)))

module _ {ws : List (List ℕ)} where
  pub placing-start : length ws ≡ 8 → Placing ws false 0
  placing-start h = record { long = h; rest = refl }

  pub placing-next : {found a v : Bool} {i : ℕ} → Placing ws found i → i < 8 → a ≡ at_place i (rival_in (get_or ws i []))
      → v ≡ (found || not a) → Placing ws v (i + 1)
  placing-next {found} {a} {v} {i} s h e g =
      let k : i < length ws = omega (arith, s.long) in
      rw add-one
      (record {
        long = s.long;
        rest =
            s.rest
            ∙ ap (λ (m : List (List ℕ)). cond found false (placed i (field_in m))) (drop-cons ws i [] k)
            ∙ joined found (at_place i (rival_in (get_or ws i []))) (placed (suc i) (field_in (drop (suc i) ws)))
            ∙ ap (λ (t : Bool). cond t false (placed (suc i) (field_in (drop (suc i) ws))))
            (ap (λ (t : Bool). found || not t) (sym e) ∙ sym g);
      })
    where
      joined : (x y z : Bool) → cond x false (cond y z false) ≡ cond (x || not y) false z
      joined true y z = refl
      joined false true z = refl
      joined false false z = refl

  pub placing-end : {found : Bool} {i : ℕ} → Placing ws found i → 8 ≤ i → found ≡ not (placed 0 (field_in ws))
  placing-end {found} {i} s h =
      let k : length ws ≤ i = omega (arith, s.long) in
      sym
      (ap not
      (s.rest ∙ ap (λ (m : List (List ℕ)). cond found false (placed i (field_in m))) (drop_of_length-le ws k))
      ∙ last found)
    where
      last : (x : Bool) → not (cond x false true) ≡ x
      last true = refl
      last false = refl
