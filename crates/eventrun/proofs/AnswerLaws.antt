-- The pass that writes the answers: each behind the one before it, as many as fit.
-- Assumes nothing.
use Prim.Native.Nat.{ℕ, zero, suc, ◌+◌, ◌-◌, ◌/◌, ◌%◌, ◌^◌, ◌≤◌, ◌<◌}
use mathlib.Core.Path.{◌≡◌, refl, sym, ap, ◌∙◌}
use mathlib.Core.List.{List, [], ◌∷◌, ◌++◌, append_assoc, append-nil}
use native.Mathlib.Omega.{arith}
use borrow.Rule.Slice.PartMut.{mid_of, put_mid}
use lib.ListN.{length, take}
use Rattle.octets.specs.Octets.{le, flat, words_of, over}
use Rattle.octets.proofs.Fill.{Filled, nothing, fill, filled-over, filled-length, flat-length, le-length}
use Rattle.base.specs.declared.types.Refusal.{Refusal}
use Rattle.rules.specs.Event.{number_of, value_of}
use Rattle.rules.specs.Step.{step, run, trace}
use Rattle.rules.specs.declared.types.Event.{Event}
use Rattle.rules.specs.declared.types.Record.{Record}
use Rattle.peer.specs.Record.{record_in, AreCoded, Tells}
use Rattle.peer.proofs.StepLaws.{tells_as}
use Rattle.eventfile.specs.File.{parse_of, events_from, events_of}
use Rattle.eventfile.specs.declared.types.Parse.{Parse}
use Rattle.eventfile.specs.declared.types.Parse.TheVariants as parse
use Rattle.eventfile.proofs.FileLaws.{events-end, events-event, events-refused}
use Rattle.eventrun.specs.Runs.{entry_bytes, Leaves}

pub words-two : (a b : ℕ) → length (words_of (a ∷ b ∷ [])) ≡ 16
words-two a b = flat-length (le 8) 8 (le-length 8) (a ∷ b ∷ [])

take_none : (k : ℕ) → take {A = Event} k [] ≡ []
take_none zero = refl
take_none (suc k) = refl

-- the events whose answers fit
abbrev pub fitting : List ℕ → ℕ → List Event
fitting l lent = take (lent / 16) (events_of l)

-- all that is to be written
abbrev pub answers_in : List ℕ → Record → ℕ → List ℕ
answers_in l r lent = flat entry_bytes (trace r (fitting l lent))

-- of the file l the answers before `from` stand at the front of out, and the words are a
pub record Answering (l t : List ℕ) (a₀ : List (List (List ℕ))) (l₀ out : List ℕ) (a : List (List (List ℕ)))
    (from at : ℕ) : Type 0 where
  pub narrow : length l₀ < 2 ^ 64
  pub front : List ℕ
  pub filled : Filled l₀ front out at
  pub is : front ++ flat entry_bytes (trace (record_in t a) (take ((length l₀ - at) / 16) (events_from (length l) l from)))
      ≡ answers_in l (record_in t a₀) (length l₀)
  pub runs : run (record_in t a) (take ((length l₀ - at) / 16) (events_from (length l) l from))
      ≡ run (record_in t a₀) (fitting l (length l₀))
  pub coded : AreCoded a₀ → AreCoded a

pub answering-start : (l t : List ℕ) (a : List (List (List ℕ))) (l₀ : List ℕ) → length l₀ < 2 ^ 64
    → Answering l t a l₀ l₀ a 32 0
unfolding events_of
answering-start l t a l₀ h =
    let z : length l₀ - 0 ≡ length l₀ = omega arith in
    record {
      narrow = h;
      front = [];
      filled = nothing l₀;
      is = λ i. flat entry_bytes (trace (record_in t a) (take (z i / 16) (events_from (length l) l 32)));
      runs = λ i. run (record_in t a) (take (z i / 16) (events_from (length l) l 32));
      coded = λ q. q;
    }

module _ {l t : List ℕ} {a₀ : List (List (List ℕ))} {l₀ out : List ℕ} {a : List (List (List ℕ))} {from at : ℕ}
    (s : Answering l t a₀ l₀ out a from at) where
  enough : length l ≤ from + length l
  enough = omega arith

  pub answering-inside : at ≤ length out
  answering-inside = omega (arith, filled-length s.filled, s.filled.room)

  -- nothing is left to write
  ended : take ((length l₀ - at) / 16) (events_from (length l) l from) ≡ []
      → (out ≡ over (answers_in l (record_in t a₀) (length l₀)) l₀) × Leaves t a₀ a (fitting l (length l₀))
  unfolding flat
  ended e = (
    filled-over s.filled
        ∙ ap (λ (z : List ℕ). over z l₀)
        (sym (append-nil s.front) ∙ (λ i. s.front ++ flat entry_bytes (trace (record_in t a) (sym e i))) ∙ s.is),
    record { says = (λ i. run (record_in t a) (sym e i)) ∙ s.runs; coded = s.coded },
  )

  answering-end : {p : Parse} → p ≡ parse_of l from → p ≡ parse.End
      → (out ≡ over (answers_in l (record_in t a₀) (length l₀)) l₀) × Leaves t a₀ a (fitting l (length l₀))
  answering-end {p} h b =
      let e = events-end (length l) l from enough (sym h ∙ b) in
      ended ((λ i. take ((length l₀ - at) / 16) (e i)) ∙ take_none ((length l₀ - at) / 16))

  answering-refused : {p : Parse} {why : Refusal} {kind : ℕ} → p ≡ parse_of l from → p ≡ parse.Refused why kind
      → (out ≡ over (answers_in l (record_in t a₀) (length l₀)) l₀) × Leaves t a₀ a (fitting l (length l₀))
  answering-refused {p} h b =
      let e = events-refused (length l) l from enough (sym h ∙ b) in
      ended ((λ i. take ((length l₀ - at) / 16) (e i)) ∙ take_none ((length l₀ - at) / 16))

  pub answering-stop : {p : Parse} → p ≡ parse_of l from → ((e : Event) (next : ℕ) → p ≡ parse.Event e next → ⊥)
      → (out ≡ over (answers_in l (record_in t a₀) (length l₀)) l₀) × Leaves t a₀ a (fitting l (length l₀))
  answering-stop {p} h n = go p h n
    where
      go : (p : Parse) → p ≡ parse_of l from → ((e : Event) (next : ℕ) → p ≡ parse.Event e next → ⊥)
          → (out ≡ over (answers_in l (record_in t a₀) (length l₀)) l₀) × Leaves t a₀ a (fitting l (length l₀))
      go parse.End h n = answering-end h refl
      go (parse.Refused why kind) h n = answering-refused h refl
      go (parse.Event e next) h n = absurd (n e next refl)

  pub answering-full : length out - at < 16
      → (out ≡ over (answers_in l (record_in t a₀) (length l₀)) l₀) × Leaves t a₀ a (fitting l (length l₀))
  answering-full h =
      let z : (length l₀ - at) / 16 ≡ 0 = omega (arith, filled-length s.filled) in
      ended (λ i. take (z i) (events_from (length l) l from))

  pub answering-next : 16 ≤ length out - at
      → (w : ℕ) {p : Parse} {e f : Event} {next : ℕ} {b : List (List (List ℕ))} {m : List ℕ}
      → p ≡ parse_of l from → p ≡ parse.Event e next → f ≡ e → Tells t a b w f
      → m ≡ over (words_of (w / 2 ^ 32 ∷ w % 2 ^ 32 ∷ [])) (mid_of at (length out - at) out)
      → Answering l t a₀ l₀ (put_mid at (length out - at) out m) b next (at + 16)
  unfolding flat
  answering-next h word {p} {e} {f} {next} {b} {m} c g same told o =
      let d = tells_as t a b word same told in
      let w = words_of (word / 2 ^ 32 ∷ word % 2 ^ 32 ∷ []) in
      let z : length w ≡ 16 = words-two (word / 2 ^ 32) (word % 2 ^ 32) in
      let n = filled-length s.filled in
      let k : (length l₀ - at) / 16 ≡ suc ((length l₀ - (at + 16)) / 16) = omega (arith, n, h) in
      let v = events-event (length l) l from enough (sym c ∙ g) in
      let es = take ((length l₀ - (at + 16)) / 16) (events_from (length l) l next) in
      let more : Record → List ℕ = λ (q : Record). flat entry_bytes (trace q es) in
      let r = record_in t a in
      let u : words_of (number_of (step r e).reply ∷ value_of (step r e).reply ∷ []) ≡ w =
      λ i. words_of (sym d.0 i ∷ sym d.1 i ∷ []) in
      record {
        narrow = s.narrow;
        front = s.front ++ w;
        filled = rw (sym z) (fill w s.filled (omega (arith, z, n, h)) o);
        is =
            append_assoc s.front w (more (record_in t b))
            ∙ (λ i. s.front ++ (sym u i ++ more (d.2.next i)))
            ∙ (λ i. s.front ++ flat entry_bytes (trace r (take (sym k i) (sym v i))))
            ∙ s.is;
        runs = (λ i. run (d.2.next i) es) ∙ (λ i. run r (take (sym k i) (sym v i))) ∙ s.runs;
        coded = λ q. d.2.coded (s.coded q);
      }
