-- The clauses of demand 3 at one event, of books that agreed with the slots before it and do so after it.
-- Assumes nothing.
use Rattle.std.specs.Prelude.{Some}
use Prim.Native.Nat.{ℕ, suc, ◌+◌, ◌≤◌}
use mathlib.Core.Bool.{Bool, true, false, not, ◌&&◌, cond}
use mathlib.Core.Logic.{◌⊎◌, inl, inr}
use mathlib.Core.Path.{◌≡◌, refl, ap, sym, ◌∙◌, subst}
use mathlib.Core.List.{◌∷◌}
use native.Mathlib.Omega.{arith}
use lib.Dec.{eqb}
use borrow.Author.Tests.{eq-eqb}
use Rattle.base.proofs.Cases.{on-flag}
use Rattle.rules.specs.Event.{is, bit}
use Rattle.rules.specs.declared.types.Kind.TheVariants.{Answer, Poll, Search, Judge}
use Rattle.rules.specs.Step.{Entry}
use Rattle.rules.specs.Book.{Acked, Lost, Book, Books, waits, out_size, is_ack, is_loss, answer_says, judge_says, clears, waiting_at, noted, note}
use Rattle.rules.specs.Demand3.{Every, Accepted, Once, Stays, Polled, Sought, AtMost, Carries, Rest, Rested, Settled}
use Rattle.rules.specs.declared.types.Settings.{Settings}
use Rattle.rules.specs.declared.types.Event.{Event}
use Rattle.rules.specs.declared.types.Slot.{Slot}
use Rattle.rules.proofs.Turns.{by_number}
use Rattle.rules.proofs.Passing.{stays}
use Rattle.rules.proofs.Line.{lane_of, out_count}
use Rattle.rules.proofs.Agree.{Inv, and-true}
use Rattle.rules.proofs.Kept.{Proposed}
use Rattle.halving.specs.Need.{span}
use Rattle.halving.specs.Moves as size
use Rattle.halving.specs.Moves.{move, proposed, clearing}
use Rattle.halving.proofs.Limit.{close-limit}
use Rattle.halving.proofs.Moves.{most-of, clearing-limit}

-- ---- what the book notes of one event

module _ (t : Settings) (b : Book) (e : Event) (v : ℕ) where
  word-acked : is Answer e ≡ true → v ≡ 3
      → (noted t b e v).sizing.words ≡ Acked (out_size b) e.acked ∷ b.sizing.words
  unfolding noted
  word-acked q f =
      by_number (λ (x : Event). (noted t b x v).sizing.words ≡ Acked (out_size b) x.acked ∷ b.sizing.words) Answer
      e q
      (rw (eq-eqb v 3 f))

  word-lost : is Judge e ≡ true → v ≡ 1 → (noted t b e v).sizing.words ≡ Lost (out_size b) ∷ b.sizing.words
  unfolding noted
  word-lost q f =
      by_number (λ (x : Event). (noted t b x v).sizing.words ≡ Lost (out_size b) ∷ b.sizing.words) Judge e q
      (rw (eq-eqb v 1 f))

  poll-waiting : is Poll e ≡ true → (noted t b e v).probes.waiting ≡ waiting_at t b.probes e.now (bit 1 e)
  unfolding noted
  poll-waiting q =
      by_number (λ (x : Event). (noted t b x v).probes.waiting ≡ waiting_at t b.probes x.now (bit 1 x)) Poll e q
      refl

  abbrev moved : size.Move → size.Tally
  moved m = move b.marks.full b.sizing.tally m

  tally-acked : is Answer e ≡ true → is_ack b e ≡ true → (noted t b e v).sizing.tally ≡ moved (size.Answer e.acked)
  unfolding noted
  tally-acked q f =
      by_number (λ (x : Event). is_ack b x ≡ true → (noted t b x v).sizing.tally ≡ moved (size.Answer x.acked))
      Answer e q (λ f. rw f) f

  tally-lost : is Judge e ≡ true → is_loss b e ≡ true → (noted t b e v).sizing.tally ≡ moved size.Judge
  unfolding noted
  tally-lost q f =
      by_number (λ (x : Event). is_loss b x ≡ true → (noted t b x v).sizing.tally ≡ moved size.Judge) Judge e q
      (λ f. rw f) f

  -- the size out after a search is the one proposed
  sought-out : is Search e ≡ true → (w : Proposed b e.now) → w.0 ≡ out_size (noted t b e v)
  unfolding noted
  sought-out q w = by_number (λ (x : Event). w.0 ≡ out_size (noted t b x v)) Search e q (rw w.1)

  pub sought-noted : is Search e ≡ true → Proposed b e.now
      → proposed b.marks.full b.sizing.tally.search ≡ Some (out_size (noted t b e v))
  sought-noted q w = w.1 ∙ ap (λ (n : ℕ). Some n) (sought-out q w)

  -- ---- a clearing, where the link carries just the sizes up to L

  module _ (s : Slot) (h : Inv t s b) (L n : ℕ) (w : Every (Carries L) (noted t b e v).sizing.words)
      (proven : (noted t b e v).sizing.tally.search.proven ≡ Some n) where
    cleared-ack : (is Answer e ≡ true → v ≡ answer_says b e) → is_ack b e ≡ true
        → clearing b.sizing.tally.search (size.Answer e.acked) ≡ true → L ≤ n + 31
    cleared-ack fa q c =
        let parts = and-true (is Answer e && not (eqb (out_size b) 0)) (eqb b.sizing.probe e.id) q in
        let head = and-true (is Answer e) (not (eqb (out_size b) 0)) parts.0 in
        let three : v ≡ 3 =
        fa head.0 ∙ ap (λ (f : Bool). cond f 3 (cond (waits e.id b.probes.waiting) 1 2)) q in
        let words : Every (Carries L) (Acked (out_size b) e.acked ∷ b.sizing.words) =
        subst (Every (Carries L)) (word-acked head.0 three) w in
        clearing-limit L b.marks.full b.sizing.tally (size.Answer e.acked) n (h.limit L words.1)
        (λ y. words.0) c
        (sym (ap (λ (x : size.Tally). x.search.proven) (tally-acked head.0 q)) ∙ proven)

    cleared-loss : (is Judge e ≡ true → v ≡ judge_says b e) → is_loss b e ≡ true
        → clearing b.sizing.tally.search size.Judge ≡ true
        → L ≤ n + 31
    cleared-loss fl q c =
        let parts = and-true (is Judge e) (not (eqb (out_size b) 0))
        (and-true (is Judge e && not (eqb (out_size b) 0)) _ q).0 in
        let words : Every (Carries L) (Lost (out_size b) ∷ b.sizing.words) =
        subst (Every (Carries L)) (word-lost parts.0 (fl parts.0 ∙ ap (λ (f : Bool). cond f 1 0) q)) w in
        clearing-limit L b.marks.full b.sizing.tally size.Judge n (h.limit L words.1) (λ y. words.0) c
        (sym (ap (λ (x : size.Tally). x.search.proven) (tally-lost parts.0 q)) ∙ proven)

    pub cleared-rest : (is Answer e ≡ true → v ≡ answer_says b e) → (is Judge e ≡ true → v ≡ judge_says b e)
        → clears b e ≡ true → L ≤ n + 31
    cleared-rest fa fl c =
        on-flag (is_ack b e) (λ q. cleared-ack fa q (by-ack q ∙ c))
        (λ q.
        let both = and-true (is_loss b e) (clearing b.sizing.tally.search size.Judge) (by-loss q ∙ c) in
        cleared-loss fl both.0 both.1)
      where
        by-ack : is_ack b e ≡ true → clearing b.sizing.tally.search (size.Answer e.acked) ≡ clears b e
        by-ack q = rw q

        by-loss : is_ack b e ≡ false → (is_loss b e && clearing b.sizing.tally.search size.Judge) ≡ clears b e
        by-loss q = rw q

-- ---- the clauses

-- before and after hold the slots that the books agree with
module _ (t : Settings) (before after : ℕ → Slot) (bs : Books) (x : Entry) (g : (j : ℕ) → Inv t (before j) (bs j))
    (n : (j : ℕ) → Inv t (after j) (note t bs x j)) (says : Settled bs x (note t bs x)) where
  noted-at : (j : ℕ) → x.number ≡ 0 → x.event.slot ≡ j → note t bs x j ≡ noted t (bs j) x.event x.value
  noted-at j q z = rw (eq-eqb x.number 0 q, eq-eqb x.event.slot j z)

  pub once-at : Once bs x (note t bs x)
  once-at j id = omega (arith, (n j).line.one id)

  pub polled-at : Polled t bs x (note t bs x)
  polled-at j a =
      let w : (note t bs x j).probes.waiting ≡ waiting_at t (bs j).probes x.event.now (bit 1 x.event) =
      ap (λ (b : Book). b.probes.waiting) (noted-at j a.0 a.1)
      ∙ poll-waiting t (bs j) x.event x.value a.2 in
      subst (Every (Stays t x.event.now (bit 1 x.event))) (sym w)
      (stays t (lane_of (before j).path) (bs j).probes (out_count (before j).path.sizes) x.event.now
      (bit 1 x.event) (g j).line)

  -- for any bound that the full sizes allow
  pub few-at : (k : ℕ) → ((j : ℕ) → (note t bs x j).marks.full ≤ 27 + span k) → AtMost (suc k) bs x (note t bs x)
  few-at k w j = most-of (note t bs x j).marks.full k (note t bs x j).sizing.tally ((n j).sizing k (w j))

  pub twelve-at : AtMost 12 bs x (note t bs x)
  twelve-at = few-at 11 (λ j. omega (arith, (n j).whole))

  pub sought-at : ((j : ℕ) → Accepted Search j x → Proposed (bs j) x.event.now) → Sought bs x (note t bs x)
  sought-at w j a = (
    (w j a).2,
    subst (λ (b : Book). proposed (bs j).marks.full (bs j).sizing.tally.search ≡ Some (out_size b))
        (sym (noted-at j a.0 a.1))
        (sought-noted t (bs j) x.event x.value a.2 (w j a)),
  )

  pub rested-at : Rested bs x (note t bs x)
  rested-at L j m w pm rest = (((n j).limit L w).0 m pm, go rest)
    where
      go : Rest j (bs j) x (note t bs x j) m → ((note t bs x j).marks.full ≤ m) ⊎ (L ≤ m + 31)
      go (inl q) = inl q.1
      go (inr (inl q)) =
          let same : note t bs x j ≡ noted t (bs j) x.event x.value = noted-at j q.0 q.1 in
          inr (cleared-rest t (bs j) x.event x.value (before j) (g j) L m
          (subst (λ (b : Book). Every (Carries L) b.sizing.words) same w)
          (sym (ap (λ (b : Book). b.sizing.tally.search.proven) same) ∙ pm)
          (λ a. (says j).0 (q.0, q.1, a)) (λ a. (says j).1 (q.0, q.1, a)) q.2)
      go (inr (inr q)) = inr (close-limit L (note t bs x j).sizing.tally.search.lost m ((n j).limit L w).1 q.1)
