-- The answer of a choice over slots: what the rules' `choice_of` answers, which reads a record's slots and the margin.
use Rattle.base.specs.declared.types.Refusal.{Refusal}
use Rattle.std.specs.Prelude.{ℕ, cond, List, Result, Ok, Err}
use Rattle.std.specs.Float.{binary64}
use Rattle.std.specs.Float.Ieee.{of_bits}
use Rattle.base.specs.declared.types.Refusal.TheVariants as refusal
use Rattle.select.specs.Choice.{picked_of}
use Rattle.rules.specs.Step.{rivals_at, is_margin, choice_reply}
use Rattle.rules.specs.declared.types.Slot.{Slot}
use Rattle.rules.specs.declared.types.Reply.{Reply}
use Rattle.rules.specs.declared.types.Reply.TheVariants as reply

-- the slot that a choice takes, or its refusal
abbrev pub slot_reply : Result ℕ Refusal → Result Reply Refusal
slot_reply (Ok n) = Ok (reply.Chosen n)
slot_reply (Err why) = Err why

-- "7: margin not finite or below 1"; else the slot that is picked of all eight, "11: no path open"
unfoldable pub chosen_of : List Slot → ℕ → Result Reply Refusal
chosen_of slots span =
    cond (is_margin (of_bits binary64 span))
    (choice_reply (picked_of (rivals_at 0 slots) (of_bits binary64 span)))
    (Err refusal.Margin)
