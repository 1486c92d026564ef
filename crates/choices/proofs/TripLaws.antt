-- The pick where none has a score: known round trips first, the least of them, then the place.
-- Assumes nothing.
use Rattle.std.specs.Prelude.{Some}
use Prim.Native.Nat.{ℕ, ◌<◌, ◌≤◌}
use mathlib.Core.Path.{◌≡◌, refl, ap, sym, ◌∙◌}
use mathlib.Core.Bool.{Bool, true, false, not, cond, ◌&&◌, ◌||◌, beq}
use mathlib.Core.List.{List, map}
use native.Mathlib.Omega.{arith}
use borrow.Author.Tests.{lt-ltb, le-ltb, ne_eqb, eqb-true, leb-true}
use lib.Dec.{ltb, leb, eqb}
use lib.ListN.{length, get_or, length-map}
use Rattle.std.specs.List.{filter}
use Rattle.base.proofs.Cases.{on-flag, on-order, never}
use Rattle.base.proofs.ScanLaws.{every-at}
use Rattle.select.specs.Rivals.{no_rival, placed, by_trip}
use Rattle.select.specs.Choice.{first_by}
use Rattle.select.specs.declared.types.Rival.{Rival}
use Rattle.leads.specs.Keys.{off_key, is_top, wait_key, trip_key, are_words, least_lead}
use Rattle.leads.proofs.LoopLaws.{Found, least-found, map_at}
use Rattle.choices.specs.Steps.{soonest_of}
use Rattle.choices.proofs.KeyedLaws.{first-at}
use Rattle.choices.proofs.PickLaws.{index_at, top-held}

-- ---- the order by round trip, of two that are known, one or none

both-known : (s t : Bool) (a b i j : ℕ) → s ≡ true → t ≡ true
    → ((s && not t)
    || (beq s t && (ltb (cond s a 0) (cond t b 0) || (eqb (cond s a 0) (cond t b 0) && ltb i j))))
    ≡ (ltb a b || (eqb a b && ltb i j))
both-known s t a b i j e f = rw (e, f)

none-known : (s t : Bool) (a b i j : ℕ) → s ≡ false → t ≡ false
    → ((s && not t)
    || (beq s t && (ltb (cond s a 0) (cond t b 0) || (eqb (cond s a 0) (cond t b 0) && ltb i j)))) ≡ ltb i j
none-known s t a b i j e f = rw (e, f)

known-first : (s t : Bool) (a b i j : ℕ) → s ≡ true → t ≡ false
    → ((s && not t)
    || (beq s t && (ltb (cond s a 0) (cond t b 0) || (eqb (cond s a 0) (cond t b 0) && ltb i j)))) ≡ true
known-first s t a b i j e f = rw (e, f)

known-last : (s t : Bool) (a b i j : ℕ) → s ≡ false → t ≡ true
    → ((s && not t)
    || (beq s t && (ltb (cond s a 0) (cond t b 0) || (eqb (cond s a 0) (cond t b 0) && ltb i j)))) ≡ false
known-last s t a b i j e f = rw (e, f)

-- ---- keys

trip-known : (top : ℕ) (r : Rival) → is_top top r ≡ true → r.timed ≡ true → trip_key top r ≡ r.rtt
unfolding trip_key
trip-known top r e t = rw (e, t)

trip-on : (top : ℕ) (r : Rival) → eqb (trip_key top r) off_key ≡ false → (is_top top r ≡ true) × (r.timed ≡ true)
unfolding trip_key
trip-on top r e =
    on-flag (is_top top r)
    (λ h. on-flag r.timed (λ t. (h, t)) (λ t. never (rw (h, t)) e))
    (λ h. never (rw h) e)

wait-known : (top : ℕ) (r : Rival) → is_top top r ≡ true → r.timed ≡ true → wait_key top r ≡ 0
unfolding wait_key
wait-known top r e t = rw (e, t)

wait-not : (top : ℕ) (r : Rival) → is_top top r ≡ true → r.timed ≡ false → wait_key top r ≡ 1
unfolding wait_key
wait-not top r e t = rw (e, t)

wait-off : (top : ℕ) (r : Rival) → is_top top r ≡ false → wait_key top r ≡ off_key
unfolding wait_key
wait-off top r e = rw e

module _ (l : List Rival) (pl : placed 0 l ≡ true) (top : ℕ) (off : eqb top off_key ≡ false) (k : ℕ) (inside : k < length l)
    (there : is_top top (get_or l k no_rival) ≡ true) where
  abbrev trips : List ℕ
  trips = map (trip_key top) l

  abbrev waits : List ℕ
  waits = map (wait_key top) l

  trip-found : Found trips (least_lead trips)
  trip-found = least-found trips (omega (arith, length-map l (trip_key top)))

  wait-found : Found waits (least_lead waits)
  wait-found = least-found waits (omega (arith, length-map l (wait_key top)))

  abbrev at-trip : ℕ
  at-trip = (least_lead trips).at

  abbrev at-wait : ℕ
  at-wait = (least_lead waits).at

  trip-inside : at-trip < length l
  trip-inside = omega (arith, trip-found.place.inside, length-map l (trip_key top))

  wait-inside : at-wait < length l
  wait-inside = omega (arith, wait-found.place.inside, length-map l (wait_key top))

  trip-at : (j : ℕ) → j < length l → get_or trips j 0 ≡ trip_key top (get_or l j no_rival)
  trip-at j h = map_at (trip_key top) no_rival l j h

  wait-at : (j : ℕ) → j < length l → get_or waits j 0 ≡ wait_key top (get_or l j no_rival)
  wait-at j h = map_at (wait_key top) no_rival l j h

  place_of : (j : ℕ) → j < length l → is_top top (get_or l j no_rival) ≡ true → (get_or l j no_rival).index ≡ j
  place_of j h e = index_at l j pl h (top-held top (get_or l j no_rival) off e)

  -- equal to none before it
  not-before : (a b i j : ℕ) → b ≤ a → (i < j → b < a) → (ltb a b || (eqb a b && ltb i j)) ≡ false
  not-before a b i j h g =
      on-order i j
      (λ o. rw (le-ltb a b h, ne_eqb a b (omega (arith, g o))))
      (λ o. rw (le-ltb a b h, le-ltb i j o) (neither (eqb a b)))
    where
      neither : (x : Bool) → (x && false) ≡ false
      neither true = refl
      neither false = refl

  -- ---- the least known round trip

  module _ (on : eqb (least_lead trips).key off_key ≡ false) where
    abbrev one : Rival
    one = get_or l at-trip no_rival

    one_on : (is_top top one ≡ true) × (one.timed ≡ true)
    one_on = trip-on top one (ap (λ (n : ℕ). eqb n off_key) (sym (trip-found.key ∙ trip-at at-trip trip-inside)) ∙ on)

    one_key : get_or trips at-trip 0 ≡ one.rtt
    one_key = trip-at at-trip trip-inside ∙ trip-known top one one_on.0 one_on.1

    pub trip-first : first_by by_trip (filter (is_top top) l) ≡ Some one
    trip-first =
        first-at by_trip (is_top top) l at-trip trip-inside one_on.0
        (λ j m e.
        let y : Rival = get_or l j no_rival in
        on-flag y.timed
        (λ t.
        let q : get_or trips j 0 ≡ y.rtt = trip-at j m ∙ trip-known top y e t in
        both-known y.timed one.timed y.rtt one.rtt y.index one.index t one_on.1
        ∙ (λ i. ltb y.rtt one.rtt || (eqb y.rtt one.rtt && ltb (place_of j m e i)
        (place_of at-trip trip-inside one_on.0 i)))
        ∙ not-before y.rtt one.rtt j at-trip
        (omega (arith, q, one_key, trip-found.place.low j (omega (arith, length-map l (trip_key top)))))
        (λ o. omega (arith, q, one_key, trip-found.place.first j o)))
        (λ t. known-last y.timed one.timed y.rtt one.rtt y.index one.index t one_on.1))
        (λ j m e.
        let y : Rival = get_or l j no_rival in
        let h : j < length l = omega (arith, trip-inside) in
        on-flag y.timed
        (λ t.
        let q : get_or trips j 0 ≡ y.rtt = trip-at j h ∙ trip-known top y e t in
        let o : one.rtt < y.rtt = omega (arith, q, one_key, trip-found.place.first j m) in
        both-known one.timed y.timed one.rtt y.rtt one.index y.index one_on.1 t
        ∙ ap (λ (b : Bool). b || (eqb one.rtt y.rtt && ltb one.index y.index)) (lt-ltb one.rtt y.rtt o))
        (λ t. known-first one.timed y.timed one.rtt y.rtt one.index y.index one_on.1 t))

  -- ---- none below 2 ^ 64 - 1: the first known, else the first

  module _ (gone : eqb (least_lead trips).key off_key ≡ true) (words : are_words trips ≡ true) where
    abbrev first : Rival
    first = get_or l at-wait no_rival

    -- one of the highest rank waits 0 or 1
    wait-small : (r : Rival) → is_top top r ≡ true → wait_key top r ≤ 1
    wait-small r e =
        on-flag r.timed
        (λ t. let q : wait_key top r ≡ 0 = wait-known top r e t in omega arith)
        (λ t. let q : wait_key top r ≡ 1 = wait-not top r e t in omega arith)

    first-top : is_top top first ≡ true
    first-top =
        on-flag (is_top top first)
        (λ e. e)
        (λ e.
        let a : get_or waits at-wait 0 ≡ off_key = wait-at at-wait wait-inside ∙ wait-off top first e in
        let b : get_or waits k 0 ≤ 1 = rw (wait-at k inside) (wait-small (get_or l k no_rival) there) in
        let d : get_or waits at-wait 0 ≤ get_or waits k 0 =
        wait-found.place.low k (omega (arith, length-map l (wait_key top))) in
        absurd (omega arith))

    -- a known one's round trip is 2 ^ 64 - 1
    known-off : (j : ℕ) → j < length l → is_top top (get_or l j no_rival) ≡ true → (get_or l j no_rival).timed ≡ true
        → (get_or l j no_rival).rtt ≡ off_key
    known-off j h e t =
        let a : (least_lead trips).key ≡ off_key = eqb-true (least_lead trips).key off_key gone in
        let b : get_or trips at-trip 0 ≤ get_or trips j 0 =
        trip-found.place.low j (omega (arith, length-map l (trip_key top))) in
        let d : get_or trips j 0 ≤ off_key =
        leb-true (get_or trips j 0) off_key
        (every-at 0 (λ (n : ℕ). leb n off_key) trips j words (omega (arith, length-map l (trip_key top)))) in
        let q : get_or trips j 0 ≡ (get_or l j no_rival).rtt = trip-at j h ∙ trip-known top (get_or l j no_rival) e t in
        omega (arith, a, trip-found.key)

    pub wait-first : first_by by_trip (filter (is_top top) l) ≡ Some first
    wait-first =
        first-at by_trip (is_top top) l at-wait wait-inside first-top
        (λ j m e.
        let y : Rival = get_or l j no_rival in
        let low : get_or waits at-wait 0 ≤ get_or waits j 0 =
        wait-found.place.low j (omega (arith, length-map l (wait_key top))) in
        on-flag first.timed
        (λ t.
        on-flag y.timed
        (λ u.
        let a : y.rtt ≡ off_key = known-off j m e u in
        let b : first.rtt ≡ off_key = known-off at-wait wait-inside first-top t in
        let q : get_or waits j 0 ≡ 0 = wait-at j m ∙ wait-known top y e u in
        both-known y.timed first.timed y.rtt first.rtt y.index first.index u t
        ∙ (λ i. ltb y.rtt first.rtt || (eqb y.rtt first.rtt && ltb (place_of j m e i)
        (place_of at-wait wait-inside first-top i)))
        ∙ not-before y.rtt first.rtt j at-wait (omega arith)
        (λ o. absurd (omega (arith, q, wait-found.place.first j o))))
        (λ u. known-last y.timed first.timed y.rtt first.rtt y.index first.index u t))
        (λ t.
        let s : get_or waits at-wait 0 ≡ 1 = wait-at at-wait wait-inside ∙ wait-not top first first-top t in
        on-flag y.timed
        (λ u.
        let q : get_or waits j 0 ≡ 0 = wait-at j m ∙ wait-known top y e u in
        absurd (omega arith))
        (λ u.
        let q : get_or waits j 0 ≡ 1 = wait-at j m ∙ wait-not top y e u in
        none-known y.timed first.timed y.rtt first.rtt y.index first.index u t
        ∙ (λ i. ltb (place_of j m e i) (place_of at-wait wait-inside first-top i))
        ∙ le-ltb j at-wait
        (on-order j at-wait (λ o. absurd (omega (arith, wait-found.place.first j o))) (λ o. o)))))
        (λ j m e.
        let y : Rival = get_or l j no_rival in
        let h : j < length l = omega (arith, wait-inside) in
        let low : get_or waits at-wait 0 < get_or waits j 0 = wait-found.place.first j m in
        let up : get_or waits j 0 ≤ 1 = rw (wait-at j h) (wait-small y e) in
        on-flag first.timed
        (λ t.
        on-flag y.timed
        (λ u.
        let q : get_or waits j 0 ≡ 0 = wait-at j h ∙ wait-known top y e u in
        absurd (omega arith))
        (λ u. known-first first.timed y.timed first.rtt y.rtt first.index y.index t u))
        (λ t.
        let s : get_or waits at-wait 0 ≡ 1 = wait-at at-wait wait-inside ∙ wait-not top first first-top t in
        absurd (omega arith)))

  -- `soonest` finds the first by round trip
  pub soonest-right : are_words trips ≡ true
      → first_by by_trip (filter (is_top top) l) ≡ Some (get_or l (soonest_of l top) no_rival)
  unfolding soonest_of
  soonest-right words =
      on-flag (eqb (least_lead trips).key off_key)
      (λ e. rw e (wait-first e words))
      (λ e. rw e (trip-first e))
