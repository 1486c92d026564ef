-- The record that lent words say, the encoder's words for a record, and what an event on them leaves. t are the four
-- words of the settings, a the eight slots before and b those after.
use Rattle.base.specs.declared.types.Refusal.{Refusal}
use Rattle.std.specs.Prelude.{ℕ, ◌^◌, ◌/◌, ◌%◌, ◌≡◌, true, List, [], map, get_or, Result, Ok, Err}
use Rattle.base.specs.declared.types.Refusal.TheVariants as refusal
use Rattle.rules.specs.Event.{is, number_of, value_of}
use Rattle.rules.specs.declared.types.Kind.TheVariants.{Choose}
use Rattle.rules.specs.Step.{step}
use Rattle.rules.specs.declared.types.Event.{Event}
use Rattle.rules.specs.declared.types.Record.{Record}
use Rattle.rules.specs.declared.types.Reply.{Reply}
use Rattle.rules.specs.declared.types.Reply.TheVariants as reply
use Rattle.cells.specs.Cells.{settings_in}
use Rattle.rows.specs.View.{slot_in}
use Rattle.rows.specs.Encode.{slot_rows}
use Rattle.rows.specs.Says.{is_refused}

-- what any words say
abbrev pub record_in : List ℕ → List (List (List ℕ)) → Record
record_in t a = record { settings = settings_in t; slots = map slot_in a }

-- the encoder's words for the slots of a record; those of its settings are `settings_row`
abbrev pub record_rows : Record → List (List (List ℕ))
record_rows r = map slot_rows r.slots

-- the slots' words are the encoder's, to the last bit
abbrev pub AreCoded : List (List (List ℕ)) → Type 0
AreCoded a = map slot_rows (map slot_in a) ≡ a

-- an event: its answer x and the record after it are those of the rules' step. Of any words at all these are fixed:
-- every word of every other slot is left, and every word by a choose and by a refusal; of the event's own slot every bit
-- that is read, since the words after it say the step's record, and no row has a word to spare. What is not fixed of any
-- words is a bit of that slot that is not read: behind a mark that does not say it is there, above a number's width, of a
-- mark beside what is read of it, of a NaN's pattern. Where the words were the encoder's, they are the encoder's after it,
-- and such a bit is fixed too
pub record Steps (t : List ℕ) (a b : List (List (List ℕ))) (x : Result Reply Refusal) (e : Event) : Type 0 where
  pub answer : x ≡ (step (record_in t a) e).reply
  pub next : record_in t b ≡ (step (record_in t a) e).next
  pub others : (j : ℕ) → (j ≡ e.slot → ⊥) → get_or b j [] ≡ get_or a j []
  pub chosen : is Choose e ≡ true → b ≡ a
  pub coded : AreCoded a → AreCoded b
  pub left : is_refused x ≡ true → b ≡ a

-- an event whose answer is one word: its upper half is the refusal number, its lower half the value; and the words of
-- the slots are as `Steps` has them
abbrev pub Tells : List ℕ → List (List (List ℕ)) → List (List (List ℕ)) → ℕ → Event → Type 0
Tells t a b w e =
    let x = (step (record_in t a) e).reply in
    (w / 2 ^ 32 ≡ number_of x) × (w % 2 ^ 32 ≡ value_of x) × Steps t a b x e

-- the answer to an event whose slot is none, by the first refusal: 15, else 1
abbrev pub beyond_of : Result Unit Refusal → Result Reply Refusal
beyond_of (Err why) = Err why
beyond_of (Ok tt) = Err refusal.Slot
