-- Any list of events through the function on lent words, from a new record on: what a caller sees, and demand 3 of it.
use Rattle.base.specs.declared.types.Refusal.{Refusal}
use Rattle.std.specs.Prelude.{ℕ, ◌≡◌, true, List, [], ◌∷◌, map, Result}
use Rattle.rules.specs.Event.{number_of, value_of}
use Rattle.rules.specs.Step.{Entry, allowed, fresh_record, run, trace}
use Rattle.rules.specs.Demand3.{FewDraws, Demand3}
use Rattle.rules.specs.declared.types.Event.{Event}
use Rattle.rules.specs.declared.types.Reply.{Reply}
use Rattle.cells.specs.Cells.{settings_in}
use Rattle.peer.specs.Record.{record_in, record_rows, Steps}

-- a call, as its caller sees it: the event and the answer
pub record Exchange : Type 0 where
  pub event : Event
  pub reply : Result Reply Refusal

-- the calls c on one record, each on the words that the one before it left, lead from the words a to the words d: of
-- each only its contract is known
abbrev pub Calls : List ℕ → List (List (List ℕ)) → List Exchange → List (List (List ℕ)) → Type 0
Calls t a [] d = a ≡ d
Calls t a (x ∷ c) d =
    (b : List (List (List ℕ))) × Steps t a b x.reply x.event × Calls t b c d

-- the events of the calls, and what was answered, as the rules' trace has it
abbrev pub events_in : List Exchange → List Event
events_in c = map (λ x. x.event) c

abbrev pub entries_in : List Exchange → List Entry
entries_in c = map (λ x. record { event = x.event; number = number_of x.reply; value = value_of x.reply }) c

-- what is claimed of calls from the words of a new record on: the answers are those of `trace`, the words are the
-- encoder's for the record that `run` gives, and demand 3 holds of the events
pub record Lasting (t : List ℕ) (c : List Exchange) (d : List (List (List ℕ))) : Type 0 where
  pub answers : entries_in c ≡ trace (fresh_record (settings_in t)) (events_in c)
  pub says : record_in t d ≡ run (fresh_record (settings_in t)) (events_in c)
  pub words : d ≡ record_rows (run (fresh_record (settings_in t)) (events_in c))
  pub demand : FewDraws (settings_in t) (events_in c) → Demand3 (settings_in t) (events_in c)

-- the claim, for every list of calls
abbrev pub CallsHold : Type 0
CallsHold =
    (t : List ℕ) (c : List Exchange) (d : List (List (List ℕ))) → allowed (settings_in t) ≡ true
    → Calls t (record_rows (fresh_record (settings_in t))) c d → Lasting t c d
