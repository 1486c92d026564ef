-- No probe of the record is due before it was sent: 23 is tried, and the book takes only what was accepted.
-- Assumes nothing.
use Rattle.std.specs.Prelude.{Result, Err}
use Rattle.base.specs.declared.types.Refusal.{Refusal}
use Prim.Native.Nat.{ℕ, ◌≤◌, ◌<◌}
use mathlib.Core.Bool.{true, false, ◌&&◌}
use mathlib.Core.Path.{◌≡◌, ap}
use mathlib.Core.List.{List, [], ◌∷◌}
use lib.Dec.{eqb}
use borrow.Author.Tests.{ltb-false, lt-ltb, le-ltb, eqb-true, eqb-false}
use Rattle.base.specs.Limits.{is_overlong}
use Rattle.base.specs.Refusals.{refusal_number}
use Rattle.base.specs.declared.types.Refusal.TheVariants as refusal
use Rattle.base.proofs.Cases.{on-flag, cond_cases}
use Rattle.base.proofs.RefusalLaws.{number-some}
use Rattle.ring.specs.Lapse.{is_passed, defer_of}
use Rattle.rules.specs.Event.{is, bit, number_of, value_of}
use Rattle.rules.specs.declared.types.Kind.TheVariants.{Open, Probe, Answer, Poll, Sweep, Close}
use Rattle.rules.specs.Rules.{refusals, on_slot}
use Rattle.rules.specs.Step.{Entry, fresh_record, slot_at, step, trace}
use Rattle.rules.specs.Book.{Book, Books, no_marks, new_book, waiting_after, noted, blanks, note, note_all}
use Rattle.rules.specs.Demand3.{Each, Every}
use Rattle.rules.specs.Dues.{Punctual, Ahead, Refuses, DuesHold}
use Rattle.rules.specs.declared.types.Settings.{Settings}
use Rattle.rules.specs.declared.types.Event.{Event}
use Rattle.rules.specs.declared.types.Record.{Record}
use Rattle.rules.specs.declared.types.Reply.{Reply}
use Rattle.rules.specs.declared.types.Reply.TheVariants as reply
use Rattle.rules.specs.declared.types.Turn.{Turn}
use Rattle.rules.proofs.Laws.{refused-or, Every-snoc, Every-keep}
use Rattle.rules.proofs.Turns.{with_kind, by_number}
use Rattle.rules.proofs.Passing.{pass-every}
use Rattle.rules.proofs.Left.{refused-left}

-- ---- one event

abbrev entry : Record → Event → Entry
entry r e = record { event = e; number = number_of (step r e).reply; value = value_of (step r e).reply }

-- an accepted probe has passed 23
probe-ahead : (r : Record) (e : Event) → number_of (step r (with_kind e 2)).reply ≡ 0 → e.now ≤ e.span
unfolding step on_slot
probe-ahead r e =
    let s = slot_at r e.slot in
    refused-or (λ (u : Turn). number_of u.reply ≡ 0 → e.now ≤ e.span)
    (refusals r.settings s.used (with_kind e 2)) s _
    (λ why n. absurd (eqb-false (refusal_number why) 0 (number-some why) n))
    (λ ok n. ltb-false e.span e.now ok.1.1.1.1.1.1.1.0)

accepted-ahead : (r : Record) (e : Event) → number_of (step r e).reply ≡ 0 → is Probe e ≡ true → e.now ≤ e.span
accepted-ahead r e n q =
    by_number (λ (x : Event). number_of (step r x).reply ≡ 0 → x.now ≤ x.span) Probe e q (probe-ahead r e) n

-- 23, where no refusal before it applies
probe-refused : (r : Record) (e : Event) → e.slot ≤ 7 → (slot_at r e.slot).used ≡ true → is_overlong e.len ≡ false
    → e.span < e.now → (step r (with_kind e 2)).reply ≡ Err refusal.Due
unfolding step on_slot
probe-refused r e s u l d = rw (le-ltb 7 e.slot s, u, l, lt-ltb e.span e.now d)

refuses : (r : Record) (e : Event) → Refuses r e
refuses r e q =
    by_number (λ (x : Event). x.slot ≤ 7 → (slot_at r x.slot).used ≡ true → is_overlong x.len ≡ false
    → x.span < x.now → step r x ≡ record { next = r; reply = Err refusal.Due }) Probe e q
    (λ s u l d.
    let x = with_kind e 2 in
    let z : (step r x).reply ≡ Err refusal.Due = probe-refused r e s u l d in
    let n : (step r x).next ≡ r = refused-left r x (ap (λ (y : Result Reply Refusal). eqb (number_of y) 0) z) in
    λ i. record { next = n i; reply = z i })

-- ---- the probes that wait

abbrev AllAhead : Books → Type 0
AllAhead bs = (j : ℕ) → Every Ahead (bs j).probes.waiting

abbrev Aheads : Book → Type 0
Aheads b = Every Ahead b.probes.waiting

module _ (t : Settings) where
  waiting-ahead : (b : Book) (e : Event) (v : ℕ) → (is Probe e ≡ true → e.now ≤ e.span) → Aheads b
      → Every Ahead (waiting_after t b.probes e v)
  waiting-ahead b e v f h =
      let l = b.probes.waiting in
      cond_cases (Every Ahead) (is Probe e) _ _ (λ q. Every-snoc Ahead l _ h (f q))
      (λ p. cond_cases (Every Ahead) (is Answer e) _ _ (λ q. Every-keep Ahead _ l h)
      (λ a. cond_cases (Every Ahead) (is Poll e) _ _ (λ q. pass-every (is_passed e.now (bit 1 e)) (defer_of b.probes.heard t.cap e.now (bit 1 e)) Ahead Ahead
      (λ x n k. k) (λ x u n k. k) l h)
      (λ c. cond_cases (Every Ahead) (is Sweep e) [] l (λ q. tt) (λ q. h))))

  noted-ahead : (b : Book) (e : Event) (v : ℕ) → (is Probe e ≡ true → e.now ≤ e.span) → Aheads b
      → Aheads (noted t b e v)
  unfolding noted
  noted-ahead b e v f h =
      cond_cases Aheads (is Open e) _ _ (λ q. tt)
      (λ o. cond_cases Aheads (is Close e) (new_book no_marks) _ (λ q. tt) (λ q. waiting-ahead b e v f h))

  note-ahead : (bs : Books) (x : Entry) → (x.number ≡ 0 → is Probe x.event ≡ true → x.event.now ≤ x.event.span)
      → AllAhead bs → AllAhead (note t bs x)
  note-ahead bs x f h j =
      on-flag (eqb x.number 0)
      (λ n. cond_cases Aheads (eqb x.number 0 && eqb x.event.slot j) _ (bs j)
      (λ q. noted-ahead (bs j) x.event x.value (f (eqb-true x.number 0 n)) (h j)) (λ q. h j))
      (λ n. rw n (h j))

  -- ---- the list

  all-punctual : (es : List Event) (r : Record) (bs : Books) → Each t Punctual bs (trace r es)
  all-punctual [] r bs = tt
  all-punctual (e ∷ es) r bs =
      (λ j a. accepted-ahead r e a.0 a.2, all-punctual es (step r e).next (note t bs (entry r e)))

  all-ahead : (es : List Event) (r : Record) (bs : Books) → AllAhead bs → AllAhead (note_all t bs (trace r es))
  all-ahead [] r bs h = h
  all-ahead (e ∷ es) r bs h =
      all-ahead es (step r e).next (note t bs (entry r e)) (note-ahead bs (entry r e) (accepted-ahead r e) h)

pub dues-hold : DuesHold
dues-hold = (
  λ t es. record {
    sent = all-punctual t es (fresh_record t) blanks;
    waits = all-ahead t es (fresh_record t) blanks (λ j. tt);
  },
  refuses,
)
