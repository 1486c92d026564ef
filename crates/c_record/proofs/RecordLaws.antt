-- A record in lent words over C: from what peer's functions leave to what C is told.
-- Assumes nothing.
use Prim.Native.Nat.{ℕ, ◌^◌, ◌/◌, ◌%◌}
use mathlib.Core.Path.{◌≡◌, refl, sym, ap, subst, ◌∙◌}
use mathlib.Core.List.{List}
use Rattle.base.specs.declared.types.Refusal.{Refusal}
use Rattle.base.specs.declared.types.Refusal.TheVariants.{Cut}
use Rattle.rules.specs.declared.types.Event.{Event}
use Rattle.eventfile.specs.declared.types.Parse.{Parse}
use Rattle.eventfile.specs.declared.types.Parse.TheVariants as parse
use Rattle.peer.specs.Record.{record_in, Tells}
use Rattle.peer.proofs.StepLaws.{tells_as}
use Rattle.c_record.specs.Record.{split_reply, StepsHere, none_taken, taken_by, TakenHere}
use Rattle.c_reply.specs.declared.Reply.{Reply}
use Rattle.c_record.specs.declared.Taken.{Taken}

-- an event, its answer as C has it
pub steps-here : (t : List ℕ) (a b : List (List (List ℕ))) (w : ℕ) {r : Reply} {e f : Event} → e ≡ f → r ≡ split_reply w
    → Tells t a b w e → StepsHere t a b r f
steps-here t a b w {r} {e} {f} q h p =
    subst (λ (x : Event). StepsHere t a b r x) q (h ∙ (λ j. record { number = p.0 j; value = p.1 j }), p.2)

-- no bytes
pub taken_none : (t : List ℕ) (a : List (List (List ℕ))) (p : Parse) (r : Taken) → p ≡ parse.End → r ≡ none_taken Cut
    → (r ≡ taken_by (record_in t a) p) × TakenHere t a a p
taken_none t a p r e h = (h ∙ sym (ap (taken_by (record_in t a)) e), subst (TakenHere t a a) (sym e) refl)

-- bytes that no event can be read from
pub taken-bad : (t : List ℕ) (a : List (List (List ℕ))) (p : Parse) (r : Taken) (why : Refusal) (kind : ℕ)
    → p ≡ parse.Refused why kind → r ≡ none_taken why → (r ≡ taken_by (record_in t a) p) × TakenHere t a a p
taken-bad t a p r why kind e h = (h ∙ sym (ap (taken_by (record_in t a)) e), subst (TakenHere t a a) (sym e) refl)

-- a number, a value and a count of bytes
abbrev taken_with : ℕ → ℕ → ℕ → Taken
taken_with n v size = record { number = n; value = v; read = size }

-- an event that was read
pub taken-event : (t : List ℕ) (a b : List (List (List ℕ))) (p : Parse) (e : Event) (size : ℕ) (w : ℕ) {f : Event}
    → f ≡ e → p ≡ parse.Event e size → Tells t a b w f
    → (taken_with (w / 2 ^ 32) (w % 2 ^ 32) size ≡ taken_by (record_in t a) p) × TakenHere t a b p
taken-event t a b p e size w k h q₀ =
    let q : Tells t a b w e = tells_as t a b w k q₀ in
    let same : taken_with (w / 2 ^ 32) (w % 2 ^ 32) size ≡ taken_by (record_in t a) (parse.Event e size) =
    λ k. taken_with (q.0 k) (q.1 k) size in (
      same ∙ sym (ap (taken_by (record_in t a)) h),
      subst (TakenHere t a b) (sym h) q.2,
    )
