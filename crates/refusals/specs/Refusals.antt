-- The first refusal of a list, and an answer by its number and value: apart, and in one word.
use Rattle.std.specs.Prelude.{ℕ, ◌+◌, ◌*◌, ◌^◌, ◌%◌, Bool, true, false, cond, List, [], ◌∷◌, Result, Ok, Err}
use Rattle.base.specs.declared.types.Refusal.{Refusal}
use Rattle.rules.specs.Event.{kind_number, number_of, value_of}
use Rattle.rules.specs.declared.types.Event.{Event}
use Rattle.rules.specs.declared.types.Kind.{Kind}
use Rattle.rules.specs.declared.types.Reply.{Reply}
use Rattle.rules.specs.declared.types.Reply.TheVariants as reply
use Rattle.refusals.specs.declared.reply.Said.{Said}

-- the first refusal whose condition holds, or none
abbrev pub verdict_of : List (Refusal × Bool) → Result Unit Refusal
verdict_of [] = Ok tt
verdict_of (x ∷ l) = cond x.1 (Err x.0) (verdict_of l)

-- the event with the number of this kind
abbrev pub at_kind : Kind → Event → Event
at_kind k e =
    record {
      now = e.now;
      span = e.span;
      id = e.id;
      len = e.len;
      acked = e.acked;
      kind = kind_number k;
      slot = e.slot;
      flags = e.flags;
    }

-- an answer by its refusal number and its value
abbrev pub said_of : Result Reply Refusal → Said
said_of x = record { number = number_of x; value = value_of x }

-- an answer in one word: the refusal number times 2^32, and the value below it; values are below 2^32 (`value-small`)
abbrev pub word_of : Result Reply Refusal → ℕ
word_of x = number_of x * 2 ^ 32 + value_of x % 2 ^ 32

-- the answer of a choice
abbrev pub is_chosen : Result Reply Refusal → Bool
is_chosen (Ok (reply.Id id)) = false
is_chosen (Ok reply.InTime) = false
is_chosen (Ok reply.Late) = false
is_chosen (Ok reply.Search) = false
is_chosen (Ok (reply.Count n)) = false
is_chosen (Ok reply.Lost) = false
is_chosen (Ok reply.Waits) = false
is_chosen (Ok (reply.Chosen slot)) = true
is_chosen (Ok reply.Nothing) = false
is_chosen (Err why) = false
