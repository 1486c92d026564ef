-- One event on a record in words, by choose, a slot of the record, or one that is none.
-- Assumes nothing.
use Rattle.std.specs.Prelude.{Result}
use Rattle.base.specs.declared.types.Refusal.{Refusal}
use Prim.Native.Nat.{ℕ, ◌^◌, ◌/◌, ◌%◌, ◌<◌, ◌≤◌}
use mathlib.Core.Path.{◌≡◌, refl, ap, sym, subst, ◌∙◌}
use mathlib.Core.Bool.{true, false, ◌||◌}
use mathlib.Core.List.{List, [], map}
use native.Mathlib.Omega.{arith}
use borrow.Author.Tests.{lt-ltb, eqb-true}
use lib.Dec.{eqb, ltb}
use lib.ListN.{length, set, get_or, length-map, get_or-map}
use lib.Seq.{set-get_or, get_or-set_other}
use Rattle.base.proofs.Cases.{on-flag, never}
use Rattle.rules.specs.Event.{number_of, value_of}
use Rattle.rules.specs.Rules.{empty_slot, refusals, on_slot}
use Rattle.rules.specs.Step.{put, step}
use Rattle.rules.specs.declared.types.Event.{Event}
use Rattle.rules.specs.declared.types.Reply.{Reply}
use Rattle.rules.specs.declared.types.Settings.{Settings}
use Rattle.rules.specs.declared.types.Slot.{Slot}
use Rattle.rules.specs.declared.types.Stepped.{Stepped}
use Rattle.rules.specs.declared.types.Turn.{Turn}
use Rattle.queries.specs.Choosing.{chosen_of}
use Rattle.queries.proofs.BelowLaws.{chosen-below}
use Rattle.refusals.specs.Refusals.{verdict_of, word_of, is_chosen}
use Rattle.refusals.proofs.ReplyLaws.{slot-unchosen}
use Rattle.peer.proofs.EventLaws.{get_d_any, step-choose, step_in, step-out}
use Rattle.cells.specs.Cells.{settings_in}
use Rattle.rows.specs.View.{slot_in}
use Rattle.rows.specs.Encode.{slot_rows}
use Rattle.rows.specs.Says.{Turns}
use Rattle.rows.proofs.BlockLaws.{map-set}
use Rattle.peer.specs.Record.{record_in, beyond_of, Steps, Tells}

-- nothing stored
still : (t : List ℕ) (a : List (List (List ℕ))) (e : Event) {x : Result Reply Refusal} (y : Result Reply Refusal) → x ≡ y
    → step (record_in t a) e ≡ record { next = record_in t a; reply = y } → Steps t a a x e
still t a e {x} y q f =
    record {
      answer = q ∙ sym (ap (λ (z : Stepped). z.reply) f);
      next = sym (ap (λ (z : Stepped). z.next) f);
      others = λ j n. refl;
      chosen = λ c. refl;
      coded = λ c. c;
      left = λ g. refl;
    }

-- the answer to an event whose slot is none
beyond : (t : Settings) (e : Event) → 7 < e.slot
    → beyond_of (verdict_of (refusals t false e)) ≡ (on_slot t empty_slot e).reply
unfolding on_slot
beyond t e h =
    let k : ltb 7 e.slot ≡ true = lt-ltb 7 e.slot h in
    on-flag (ltb e.kind 1 || ltb 15 e.kind) (λ q. rw q) (λ q. rw (q, k))

module _ (t : List ℕ) (a : List (List (List ℕ))) (e : Event) where
  pub steps-choose : {x : Result Reply Refusal} → e.kind ≡ 15 → x ≡ chosen_of (map slot_in a) e.span
      → Steps t a a x e
  steps-choose k q = still t a e (chosen_of (map slot_in a) e.span) q (step-choose (record_in t a) e k)

  pub steps-out : {x : Result Reply Refusal} → length a ≡ 8 → eqb e.kind 15 ≡ false → 7 < e.slot
      → x ≡ beyond_of (verdict_of (refusals (settings_in t) false e)) → Steps t a a x e
  steps-out {x} n k h q =
      let o : length (map slot_in a) ≤ e.slot = omega (arith, length-map a slot_in) in
      still t a e (on_slot (settings_in t) empty_slot e).reply (q ∙ beyond (settings_in t) e h) (step-out (record_in t a) e k o)

  pub steps-in : {q : List (List ℕ)} {x : Result Reply Refusal} → length a ≡ 8 → eqb e.kind 15 ≡ false → e.slot ≤ 7
      → Turns (get_or a e.slot []) q x (on_slot (settings_in t) (slot_in (get_or a e.slot [])) e)
      → Steps t a (set a e.slot q) x e
  steps-in {q} {x} n k h u =
      let i : ℕ = e.slot in
      let o : i < length a = omega (arith, n) in
      let p : i < length (map slot_in a) = omega (arith, n, length-map a slot_in) in
      let v : Turn = on_slot (settings_in t) (slot_in (get_or a i [])) e in
      let f : step (record_in t a) e ≡ put (record_in t a) i v =
      step_in (record_in t a) e (slot_in []) k p
      ∙ (λ j. put (record_in t a) i (on_slot (settings_in t) (get_or-map slot_in a i [] j) e)) in
      record {
        answer = u.answer ∙ sym (ap (λ (z : Stepped). z.reply) f);
        next =
            (λ j. record { settings = settings_in t; slots = map-set slot_in a i q j })
            ∙ (λ j. record { settings = settings_in t; slots = set (map slot_in a) i (u.slot j) })
            ∙ sym (ap (λ (z : Stepped). z.next) f);
        others = λ j m. get_or-set_other a i j q [] m;
        chosen = λ c. never c k;
        coded =
            λ c.
            let w : slot_rows (slot_in (get_or a i [])) ≡ get_or a i [] =
            sym (get_or-map slot_rows (map slot_in a) i (slot_in []) ∙ ap slot_rows (get_or-map slot_in a i []))
            ∙ ap (λ (z : List (List (List ℕ))). get_or z i (slot_rows (slot_in []))) c
            ∙ get_d_any a i (slot_rows (slot_in [])) [] o in
            ap (map slot_rows) (map-set slot_in a i q)
            ∙ map-set slot_rows (map slot_in a) i (slot_in q)
            ∙ (λ j. set (c j) i (u.coded w j));
        left = λ r. ap (λ (z : List (List ℕ)). set a i z) (u.left r) ∙ set-get_or a i [];
      }

-- ---- an answer in one word

module _ {t : List ℕ} {a b : List (List (List ℕ))} (e : Event) {x : Result Reply Refusal} (h : Steps t a b x e) where
  -- the value of a choice is a slot's number; any other answer's is below 2^32 by its type
  value-small : length a ≡ 8 → (is_chosen x ≡ false → value_of x < 2 ^ 32) → value_of x < 2 ^ 32
  unfolding step
  value-small n small =
      on-flag (eqb e.kind 15)
      (λ k.
      let q : value_of x ≡ value_of (chosen_of (map slot_in a) e.span) =
      ap value_of (h.answer ∙ ap (λ (z : Stepped). z.reply) (step-choose (record_in t a) e (eqb-true _ _ k))) in
      omega (arith, n, length-map a slot_in, chosen-below (map slot_in a) e.span))
      (λ k.
      let s : Slot = get_or (map slot_in a) e.slot empty_slot in
      let q : (step (record_in t a) e).reply ≡ (on_slot (settings_in t) s e).reply = rw k in
      small (ap is_chosen (h.answer ∙ q) ∙ slot-unchosen (settings_in t) s e))

  pub tells : {w : ℕ} → length a ≡ 8 → (w ≡ word_of x) × (is_chosen x ≡ false → value_of x < 2 ^ 32)
      → Tells t a b w e
  tells {w} n g =
      let v : value_of x < 2 ^ 32 = value-small n g.1 in
      let word : w ≡ word_of x = g.0 in (
        (let d : w / 2 ^ 32 ≡ number_of x = omega arith in d ∙ ap number_of h.answer),
        (let d : w % 2 ^ 32 ≡ value_of x = omega arith in d ∙ ap value_of h.answer),
        subst (λ (y : Result Reply Refusal). Steps t a b y e) h.answer h,
      )

-- the same of an event by another name
pub tells_as : (t : List ℕ) (a b : List (List (List ℕ))) (w : ℕ) {e f : Event} → e ≡ f
    → Tells t a b w e → Tells t a b w f
tells_as t a b w q h = subst (λ (e : Event). Tells t a b w e) q h
