-- Demand 3 of every list: record and books stay together from event to event, and each clause holds along the list.
-- Assumes nothing.
use Rattle.std.specs.Prelude.{Err}
use Prim.Native.Nat.{ℕ, zero, suc, ◌≤◌, ◌<◌, ◌^◌}
use mathlib.Core.Bool.{Bool, true, false, ◌&&◌, ◌||◌, cond}
use mathlib.Core.Path.{◌≡◌, refl, ap, sym, ◌∙◌, subst}
use mathlib.Core.List.{List, [], ◌∷◌}
use native.Mathlib.Omega.{arith}
use lib.Dec.{eqb, ltb}
use lib.ListN.{length, length-set, get_or, get_or-replicate, set, replicate}
use lib.Seq.{get_or-set_same, get_or-set_other}
use borrow.Author.Tests.{lt-ltb, eqb-true, eqb-false, eq-eqb}
use Rattle.base.specs.declared.types.Refusal.{Refusal}
use Rattle.base.specs.declared.types.Refusal.TheVariants as refusal
use Rattle.base.proofs.Cases.{on-flag, on-order, never, cond_cases}
use Rattle.base.proofs.BookLaws.{holds_kept}
use Rattle.base.proofs.RefusalLaws.{number-some}
use Rattle.ring.specs.Ring.{no_sent, is_used}
use Rattle.select.specs.Choice.{picked_of}
use Rattle.rules.specs.Event.{kind_number, is, number_of, value_of}
use Rattle.rules.specs.declared.types.Kind.{Kind}
use Rattle.rules.specs.declared.types.Kind.TheVariants.{Answer, Search, Judge, Choose}
use Rattle.rules.specs.Rules.{empty_slot, turn, on_slot}
use Rattle.rules.specs.Step.{Entry, fresh_record, allowed, slot_at, put, rivals_at, margin_of, choice_of, step, run, trace}
use Rattle.rules.specs.Book.{Book, Books, new_book, no_marks, noted, blanks, note, note_all, answer_says, judge_says}
use Rattle.rules.specs.Demand3.{Clause, Each, Accepted, Once, Polled, Sought, AtMost, Rested, Chosen, Settled, Few, FewDraws, Demand3, Demand3Holds}
use Rattle.rules.specs.declared.types.Settings.{Settings}
use Rattle.rules.specs.declared.types.Event.{Event}
use Rattle.rules.specs.declared.types.Reply.TheVariants as reply
use Rattle.rules.specs.declared.types.Slot.{Slot}
use Rattle.rules.specs.declared.types.Record.{Record}
use Rattle.rules.specs.declared.types.Turn.{Turn}
use Rattle.rules.specs.declared.types.Stepped.{Stepped}
use Rattle.rules.proofs.Laws.{and_second}
use Rattle.rules.proofs.Turns.{after, Next, by_number}
use Rattle.rules.proofs.Agree.{Inv, new-inv}
use Rattle.rules.proofs.Kept.{Proposed, Says, kept, said}
use Rattle.rules.proofs.Choosing.{picked-from, chooses}
use Rattle.rules.proofs.Clauses.{once-at, polled-at, twelve-at, sought-at, rested-at}

and_one : (a b : Bool) → b ≡ true → (a && b) ≡ a
and_one true b e = e
and_one false b e = refl

get_d_past : (l : List Slot) (k : ℕ) → length l ≤ k → get_or l k empty_slot ≡ empty_slot
get_d_past [] k h = refl
get_d_past (s ∷ l) zero h = absurd (omega arith)
get_d_past (s ∷ l) (suc k) h = get_d_past l k (omega arith)

-- a slot above 7 is refused
beyond : (t : Settings) (s : Slot) (e : Event) → ltb 7 e.slot ≡ true → (why : Refusal)
    × (on_slot t s e ≡ turn s s.path (Err why))
unfolding on_slot
beyond t s e q =
    cond_cases (λ (u : Turn). (why : Refusal) × (u ≡ turn s s.path (Err why)))
    (ltb e.kind 1 || ltb 15 e.kind) _ _
    (λ f. (refusal.Kind, refl))
    (λ f. cond_cases (λ (u : Turn). (why : Refusal) × (u ≡ turn s s.path (Err why))) (ltb 7 e.slot) _ _
    (λ g. (refusal.Slot, refl))
    (λ g. never q g))

-- ---- one event

-- record and books
pub record Good (t : Settings) (r : Record) (bs : Books) : Type 0 where
  pub same : r.settings ≡ t
  pub eight : length r.slots ≡ 8
  pub slots : (j : ℕ) → Inv t (slot_at r j) (bs j)

abbrev entry : Event → Stepped → Entry
entry e o = record { event = e; number = number_of o.reply; value = value_of o.reply }

-- what one event does
record Did (t : Settings) (r : Record) (bs : Books) (e : Event) (o : Stepped) : Type 0 where
  next : Few bs (entry e o) (note t bs (entry e o)) → Good t o.next (note t bs (entry e o))
  settled : Settled bs (entry e o) (note t bs (entry e o))
  chosen : Chosen bs (entry e o) (note t bs (entry e o))
  sought : (j : ℕ) → Accepted Search j (entry e o) → Proposed (bs j) e.now

module _ (t : Settings) (small : allowed t ≡ true) (r : Record) (bs : Books) (g : Good t r bs) (e : Event) where
  abbrev i : ℕ
  i = e.slot

  -- ---- a choose leaves record and books

  choose-noted : (b : Book) (v : ℕ) → is Choose e ≡ true → noted t b e v ≡ b
  unfolding noted
  choose-noted b v q = by_number (λ (x : Event). noted t b x v ≡ b) Choose e q refl

  choose-note : (o : Stepped) → is Choose e ≡ true → (j : ℕ) → note t bs (entry e o) j ≡ bs j
  choose-note o q j =
      cond_cases (λ (b : Book). b ≡ bs j) (eqb (number_of o.reply) 0 && eqb e.slot j) _ _
      (λ f. choose-noted (bs j) (value_of o.reply) q) (λ f. refl)

  not-both : {X : Type 0} (k l : Kind) → is k e ≡ true → is l e ≡ true → (kind_number k ≡ kind_number l → ⊥) → X
  not-both k l p q f = absurd (f (sym (eqb-true e.kind (kind_number k) p) ∙ eqb-true e.kind (kind_number l) q))

  choose-did : is Choose e ≡ true → Did t r bs e (choice_of r e)
  unfolding choice_of
  choose-did q =
      record {
        next = λ few. record {
          same = g.same;
          eight = g.eight;
          slots = λ j. subst (Inv t (slot_at r j)) (sym (choose-note (choice_of r e) q j)) (g.slots j);
        };
        settled = λ j. (
          λ a. not-both Answer Choose a.2 q (λ (z : 3 ≡ 15). omega arith),
          λ a. not-both Judge Choose a.2 q (λ (z : 9 ≡ 15). omega arith),
        );
        chosen = λ c m. rw m
            (chooses r bs (λ j. (g.slots j).agrees) (picked_of (rivals_at 0 r.slots) (margin_of e))
            (picked-from (rivals_at 0 r.slots) (margin_of e)));
        sought = λ j a. not-both Search Choose a.2 q (λ (z : 8 ≡ 15). omega arith);
      }

  -- ---- all other events do their work on one slot

  abbrev u : Turn
  u = on_slot r.settings (slot_at r i) e

  abbrev o : Stepped
  o = put r i u

  with-t : (P : Turn → Type 0) → P (on_slot t (slot_at r i) e) → P u
  with-t P h = subst (λ (x : Settings). P (on_slot x (slot_at r i) e)) (sym g.same) h

  note-own : note t bs (entry e o) i ≡ after t (bs i) e u
  note-own =
      ap (λ (f : Bool). cond f (noted t (bs i) e (value_of u.reply)) (bs i))
      (and_one (eqb (number_of u.reply) 0) (eqb i i) (eq-eqb i i refl))

  note-other : (j : ℕ) → eqb i j ≡ false → note t bs (entry e o) j ≡ bs j
  note-other j q =
      ap (λ (f : Bool). cond f (noted t (bs j) e (value_of u.reply)) (bs j))
      (and_second (eqb (number_of u.reply) 0) (eqb i j) q)

  -- the slot of the event, one of the eight
  own_held : i < 8 → (note t bs (entry e o) i).probes.drawn < 2 ^ 32
      → Inv t (slot_at o.next i) (note t bs (entry e o) i)
  own_held h few =
      let q : slot_at o.next i ≡ u.slot = get_or-set_same r.slots i u.slot empty_slot (omega (arith, g.eight)) in
      let k : Next (Inv t) t (bs i) e u =
      with-t (Next (Inv t) t (bs i) e) (kept t small (slot_at r i) (bs i) (g.slots i) e) in
      subst (Inv t (slot_at o.next i)) (sym note-own)
      (subst (λ (x : Slot). Inv t x (after t (bs i) e u)) (sym q)
      (k (subst (λ (b : Book). b.probes.drawn < 2 ^ 32) note-own few)))

  -- or beyond them: refused
  own-beyond : 8 ≤ i → Inv t (slot_at o.next i) (note t bs (entry e o) i)
  own-beyond h =
      let past : slot_at o.next i ≡ empty_slot =
      get_d_past (set r.slots i u.slot) i (omega (arith, length-set r.slots i u.slot, g.eight)) in
      let q : slot_at o.next i ≡ slot_at r i = past ∙ sym (get_d_past r.slots i (omega (arith, g.eight))) in
      let w = beyond t (slot_at r i) e (lt-ltb 7 i h) in
      let n : after t (bs i) e u ≡ bs i =
      with-t (λ (x : Turn). after t (bs i) e x ≡ bs i)
      (subst (λ (x : Turn). after t (bs i) e x ≡ bs i) (sym w.1)
      (ap (λ (f : Bool). cond f (noted t (bs i) e 0) (bs i)) (number-some w.0))) in
      subst (Inv t (slot_at o.next i)) (sym (note-own ∙ n))
      (subst (λ (x : Slot). Inv t x (bs i)) (sym q) (g.slots i))

  -- any other slot
  other : (j : ℕ) → eqb i j ≡ false → Inv t (slot_at o.next j) (note t bs (entry e o) j)
  other j q =
      let k : slot_at o.next j ≡ slot_at r j =
      get_or-set_other r.slots i j u.slot empty_slot (λ z. eqb-false i j q (sym z)) in
      subst (Inv t (slot_at o.next j)) (sym (note-other j q))
      (subst (λ (x : Slot). Inv t x (bs j)) (sym k) (g.slots j))

  slot-did : is Choose e ≡ false → Did t r bs e o
  slot-did c =
      let w : Says (bs i) e u = with-t (Says (bs i) e) (said t small (slot_at r i) (bs i) (g.slots i) e) in
      record {
        next = λ few. record {
          same = g.same;
          eight = length-set r.slots i u.slot ∙ g.eight;
          slots = λ j.
              on-flag (eqb i j)
              (λ q.
              subst (λ (n : ℕ). Inv t (slot_at o.next n) (note t bs (entry e o) n)) (eqb-true i j q)
              (on-order i 8 (λ h. own_held h (few i)) own-beyond))
              (λ q. other j q);
        };
        settled = λ j. (
          λ a. subst (λ (n : ℕ). value_of u.reply ≡ answer_says (bs n) e) a.1 ((w a.0).0 a.2),
          λ a. subst (λ (n : ℕ). value_of u.reply ≡ judge_says (bs n) e) a.1 ((w a.0).1 a.2),
        );
        chosen = λ q m. never q c;
        sought = λ j a. subst (λ (n : ℕ). Proposed (bs n) e.now) a.1 ((w a.0).2 a.2);
      }

  did : Did t r bs e (step r e)
  unfolding step
  did = cond_cases (Did t r bs e) (is Choose e) (choice_of r e) (put r i u) choose-did slot-did

-- ---- the list

module _ (t : Settings) (small : allowed t ≡ true) where
  -- a clause that holds at each event
  along : (P : Clause)
      → ((r : Record) (bs : Books) (g : Good t r bs) (e : Event)
      → Good t (step r e).next (note t bs (entry e (step r e)))
      → P bs (entry e (step r e)) (note t bs (entry e (step r e))))
      → (es : List Event) (r : Record) (bs : Books) → Good t r bs → Each t Few bs (trace r es)
      → Each t P bs (trace r es)
  along P f [] r bs g few = tt
  along P f (e ∷ es) r bs g few =
      let n = (did t small r bs g e).next few.0 in
      (f r bs g e n, along P f es (step r e).next (note t bs (entry e (step r e))) n few.1)

  last : (es : List Event) (r : Record) (bs : Books) → Good t r bs → Each t Few bs (trace r es)
      → Good t (run r es) (note_all t bs (trace r es))
  last [] r bs g few = g
  last (e ∷ es) r bs g few =
      last es (step r e).next (note t bs (entry e (step r e))) ((did t small r bs g e).next few.0) few.1

  start : Good t (fresh_record t) blanks
  start =
      record {
        same = refl;
        eight = refl;
        slots = λ j.
            let q : slot_at (fresh_record t) j ≡ empty_slot =
            on-order j 8 (λ h. get_or-replicate 8 j empty_slot empty_slot h) (λ h. get_d_past (replicate 8 empty_slot) j h) in
            subst (λ (s : Slot). Inv t s (new_book no_marks)) (sym q)
            (new-inv t empty_slot no_marks refl refl (omega arith));
      }

  -- record and books after a list
  pub good-after : (es : List Event) → FewDraws t es
      → Good t (run (fresh_record t) es) (note_all t blanks (trace (fresh_record t) es))
  good-after es few = last es (fresh_record t) blanks start few

  module _ (r : Record) (bs : Books) (g : Good t r bs) (e : Event)
      (n : Good t (step r e).next (note t bs (entry e (step r e)))) where
    abbrev At : Clause → Type 0
    At P = P bs (entry e (step r e)) (note t bs (entry e (step r e)))

    abbrev before : ℕ → Slot
    before j = slot_at r j

    abbrev behind : ℕ → Slot
    behind j = slot_at (step r e).next j

    once : At Once
    once = once-at t before behind bs (entry e (step r e)) g.slots n.slots (did t small r bs g e).settled

    polls : At (Polled t)
    polls = polled-at t before behind bs (entry e (step r e)) g.slots n.slots (did t small r bs g e).settled

    twelve : At (AtMost 12)
    twelve = twelve-at t before behind bs (entry e (step r e)) g.slots n.slots (did t small r bs g e).settled

    sought : At Sought
    sought = sought-at t before behind bs (entry e (step r e)) g.slots n.slots (did t small r bs g e).settled
        (did t small r bs g e).sought

    rests : At Rested
    rests = rested-at t before behind bs (entry e (step r e)) g.slots n.slots (did t small r bs g e).settled

  holds : (es : List Event) → FewDraws t es → Demand3 t es
  holds es few =
      let g : Good t (run (fresh_record t) es) (note_all t blanks (trace (fresh_record t) es)) = good-after es few in
      record {
        sums = λ j. (g.slots j).line.sum;
        rings = λ j. holds_kept is_used no_sent refl (g.slots j).line.ring;
        once = along Once once es (fresh_record t) blanks start few;
        polls = along (Polled t) polls es (fresh_record t) blanks start few;
        twelve = along (AtMost 12) twelve es (fresh_record t) blanks start few;
        sought = along Sought sought es (fresh_record t) blanks start few;
        rests = along Rested rests es (fresh_record t) blanks start few;
        chosen = along Chosen (λ r bs g e n. (did t small r bs g e).chosen) es (fresh_record t) blanks start few;
        settled = along Settled (λ r bs g e n. (did t small r bs g e).settled) es (fresh_record t) blanks start few;
        agrees = λ j. (g.slots j).agrees;
      }

pub demand3 : Demand3Holds
demand3 t es small few = holds t small es few
