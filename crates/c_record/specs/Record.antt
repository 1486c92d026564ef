-- What the functions on a record in lent words reply, and what they leave there: peer's definitions, with an answer
-- as its number and its value. t are the four words of the settings, a the eight slots before and b those after.
use Rattle.std.specs.Prelude.{ℕ, ◌+◌, ◌*◌, ◌^◌, ◌/◌, ◌%◌, ◌≡◌, List, Result}
use Rattle.base.specs.Refusals.{refusal_number}
use Rattle.base.specs.declared.types.Refusal.{Refusal}
use Rattle.base.specs.declared.types.Refusal.TheVariants.{Cut}
use Rattle.rules.specs.Event.{number_of, value_of}
use Rattle.rules.specs.Step.{step}
use Rattle.rules.specs.declared.types.Event.{Event}
use Rattle.rules.specs.declared.types.Record.{Record}
use Rattle.rules.specs.declared.types.Settings.{Settings}
use Rattle.rules.specs.declared.types.Reply as rules
use Rattle.eventfile.specs.declared.types.Parse.{Parse}
use Rattle.eventfile.specs.declared.types.Parse.TheVariants as parse
use Rattle.standing.specs.Standing.{written_number, written_value}
use Rattle.rows.specs.Places.{row_count}
use Rattle.peer.specs.Record.{record_in, Steps}
use Rattle.c_reply.specs.declared.Reply.{Reply}
use Rattle.c_record.specs.declared.Taken.{Taken}

-- words of eight bytes: four of settings, and eight slots of rows of four
abbrev pub kept_bytes : ℕ
kept_bytes = 8 * (4 + 8 * (row_count * 4))

-- arguments, by name
abbrev pub settings_with : ℕ → ℕ → ℕ → ℕ → Settings
settings_with cap gap window horizon = record { cap = cap; gap = gap; window = window; horizon = horizon }

-- an event by its numbers, in C's order
abbrev pub event_with : ℕ → ℕ → ℕ → ℕ → ℕ → ℕ → ℕ → ℕ → Event
event_with kind slot flags at span id len acked =
    record {
      now = at;
      span = span;
      id = id;
      len = len;
      acked = acked;
      kind = kind;
      slot = slot;
      flags = flags;
    }

-- an answer of the record, over C
abbrev pub answer_reply : Result rules.Reply Refusal → Reply
answer_reply x = record { number = number_of x; value = value_of x }

-- an answer in one word: its upper half is the number, its lower half the value
abbrev pub split_reply : ℕ → Reply
split_reply w = record { number = w / 2 ^ 32; value = w % 2 ^ 32 }

-- an event: what C gets is the answer of the rules' step, and the words are as peer's contract has them
abbrev pub StepsHere : List ℕ → List (List (List ℕ)) → List (List (List ℕ)) → Reply → Event → Type 0
StepsHere t a b r e =
    let s = step (record_in t a) e in
    (r ≡ answer_reply s.reply) × Steps t a b s.reply e

-- no event could be read
abbrev pub none_taken : Refusal → Taken
none_taken why = record { number = refusal_number why; value = 0; read = 0 }

-- what is said of the record that bytes begin with: 13 where there are no bytes
abbrev pub taken_by : Record → Parse → Taken
taken_by r parse.End = none_taken Cut
taken_by r (parse.Event e size) =
    record { number = number_of (step r e).reply; value = value_of (step r e).reply; read = size }
taken_by r (parse.Refused why kind) = none_taken why

-- and the words after it
abbrev pub TakenHere : List ℕ → List (List (List ℕ)) → List (List (List ℕ)) → Parse → Type 0
TakenHere t a b parse.End = b ≡ a
TakenHere t a b (parse.Event e size) = Steps t a b (step (record_in t a) e).reply e
TakenHere t a b (parse.Refused why kind) = b ≡ a

-- how many bytes were written, or the refusal number
abbrev pub written_reply : Result ℕ Refusal → Reply
written_reply w = record { number = written_number w; value = written_value w }
