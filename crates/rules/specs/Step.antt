-- The record, one event on it, and a list of events (document 01, "Peer record": "each event gets the record that the
-- last one returned or, refused, left").
use Rattle.base.specs.declared.types.Refusal.{Refusal}
use Rattle.std.specs.Prelude.{ℕ, suc, Bool, false, not, cond, List, [], ◌∷◌, Float, get_or, set, replicate, Option, None, Some, Result, Ok, Err, is_some, unwrap_or}
use Rattle.std.specs.Float.{nan, inf, fin, binary64}
use Rattle.std.specs.Float.Ieee.{of_bits, le}
use Rattle.base.specs.Limits.{is_endless}
use Rattle.std.specs.List.{list_all}
use Rattle.base.specs.declared.types.Refusal.TheVariants as refusal
use Rattle.rtt.specs.Spans.{base_rtt}
use Rattle.scores.specs.Scores.{path_score, path_steady, score_in}
use Rattle.select.specs.Media.{tier_of}
use Rattle.select.specs.Choice.{picked_of}
use Rattle.select.specs.declared.types.Rival.{Rival}
use Rattle.rules.specs.Event.{is, number_of, value_of}
use Rattle.rules.specs.declared.types.Kind.TheVariants.{Choose}
use Rattle.rules.specs.Rules.{empty_slot, on_slot}
use Rattle.rules.specs.declared.types.Settings.{Settings}
use Rattle.rules.specs.declared.types.Event.{Event}
use Rattle.rules.specs.declared.types.Reply.{Reply}
use Rattle.rules.specs.declared.types.Reply.TheVariants as reply
use Rattle.rules.specs.declared.types.Slot.{Slot}
use Rattle.rules.specs.declared.types.Record.{Record}
use Rattle.rules.specs.declared.types.Turn.{Turn}
use Rattle.rules.specs.declared.types.Stepped.{Stepped}

-- "Settings: cap, gap, window, horizon; with one of 2^62 or more, no record is made (6)"
abbrev pub allowed : Settings → Bool
allowed t = list_all (λ d. not (is_endless d)) (t.cap ∷ t.gap ∷ t.window ∷ t.horizon ∷ [])

-- eight empty slots
abbrev pub fresh_record : Settings → Record
fresh_record t = record { settings = t; slots = replicate 8 empty_slot }

unfoldable pub record_of : Settings → Stepped
record_of t = record { next = fresh_record t; reply = cond (allowed t) (Ok reply.Nothing) (Err refusal.Duration) }

-- the slot with a number, of a list of slots and of a record, and the record with that slot changed
abbrev pub slot_with : List Slot → ℕ → Slot
slot_with l i = get_or l i empty_slot

abbrev pub slot_at : Record → ℕ → Slot
slot_at r i = slot_with r.slots i

abbrev pub put : Record → ℕ → Turn → Stepped
put r i t = record { next = record { settings = r.settings; slots = set r.slots i t.slot }; reply = t.reply }

-- a slot as a rival, under its number
abbrev pub rival_of : ℕ → Slot → Rival
rival_of i s =
    record {
      score = score_in (path_score s.path);
      steady = score_in (path_steady s.path);
      rtt = unwrap_or s.path.rtts.rtt 0;
      base = unwrap_or (base_rtt s.path.rtts.spans) 0;
      index = i;
      tier = tier_of s.label.role;
      held = s.used;
      scored = is_some (path_score s.path);
      steadied = is_some (path_steady s.path);
      timed = is_some s.path.rtts.rtt;
      based = is_some (base_rtt s.path.rtts.spans);
      preferred = s.label.preferred;
      pinned = s.label.pinned;
      fits = s.label.fits;
      medium = s.label.medium;
    }

-- the slots from number i on
abbrev pub rivals_at : ℕ → List Slot → List Rival
rivals_at i [] = []
rivals_at i (s ∷ l) = rival_of i s ∷ rivals_at (suc i) l

-- "7: margin not finite or below 1"
abbrev pub is_margin : Float → Bool
is_margin nan = false
is_margin (inf s) = false
is_margin (fin s m e) = le (of_bits binary64 0x3ff0_0000_0000_0000) (fin s m e)

abbrev pub margin_of : Event → Float
margin_of e = of_bits binary64 e.span

-- the slot that the choice takes; "11: no path open"
abbrev pub choice_reply : Option Rival → Result Reply Refusal
choice_reply (Some r) = Ok (reply.Chosen r.index)
choice_reply None = Err refusal.NoPath

unfoldable pub choice_of : Record → Event → Stepped
choice_of r e =
    record {
      next = r;
      reply = cond (is_margin (margin_of e))
          (choice_reply (picked_of (rivals_at 0 r.slots) (margin_of e))) (Err refusal.Margin);
    }

-- one event: "Choose reads no slot"; all others do their work on one
unfoldable pub step : Record → Event → Stepped
step r e = cond (is Choose e) (choice_of r e) (put r e.slot (on_slot r.settings (slot_at r e.slot) e))

-- the record after a list of events
abbrev pub run : Record → List Event → Record
run r [] = r
run r (e ∷ es) = run (step r e).next es

-- an event with its answer: the refusal number and the value
pub record Entry : Type 0 where
  pub event : Event
  pub number : ℕ
  pub value : ℕ

-- the events with their answers
abbrev pub trace : Record → List Event → List Entry
trace r [] = []
trace r (e ∷ es) =
    record { event = e; number = number_of (step r e).reply; value = value_of (step r e).reply } ∷ trace
    (step r e).next es
