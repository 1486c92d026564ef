-- Any list of calls from a new record on.
-- Assumes nothing.
use Prim.Native.Nat.{ℕ}
use mathlib.Core.Path.{◌≡◌, refl, ap, sym, subst, ◌∙◌}
use mathlib.Core.List.{List, [], ◌∷◌}
use Rattle.rules.specs.Event.{number_of, value_of}
use Rattle.rules.specs.Step.{Entry, fresh_record, step, run, trace}
use Rattle.rules.specs.declared.types.Record.{Record}
use Rattle.rules.proofs.Whole.{demand3}
use Rattle.cells.specs.Cells.{settings_in}
use Rattle.peer.specs.Record.{record_in, record_rows, AreCoded, Steps}
use Rattle.peer.specs.Calls.{Exchange, Calls, events_in, entries_in, CallsHold}
use Rattle.peer.proofs.FreshLaws.{fresh-says, fresh-coded}

-- a call with its answer, as the trace has it
abbrev entry : Exchange → Entry
entry x = record { event = x.event; number = number_of x.reply; value = value_of x.reply }

-- the answers of calls are those of the trace
answers : (t : List ℕ) (c : List Exchange) (a d : List (List (List ℕ))) → Calls t a c d
    → entries_in c ≡ trace (record_in t a) (events_in c)
answers t [] a d h = refl
answers t (x ∷ c) a d h =
    let s : Steps t a h.0 x.reply x.event = h.1 in
    (λ k. record { event = x.event; number = number_of (s.answer k); value = value_of (s.answer k) } ∷ entries_in c)
    ∙ ap (λ (z : List Entry). record {
      event = x.event;
      number = number_of (step (record_in t a) x.event).reply;
      value = value_of (step (record_in t a) x.event).reply;
    } ∷ z)
    (answers t c h.0 d h.2 ∙ ap (λ (r : Record). trace r (events_in c)) s.next)

-- the record that the words say after them is that of `run`
says : (t : List ℕ) (c : List Exchange) (a d : List (List (List ℕ))) → Calls t a c d
    → record_in t d ≡ run (record_in t a) (events_in c)
says t [] a d h = ap (record_in t) (sym h)
says t (x ∷ c) a d h =
    let s : Steps t a h.0 x.reply x.event = h.1 in
    says t c h.0 d h.2 ∙ ap (λ (r : Record). run r (events_in c)) s.next

-- and the words are the encoder's if the first were
coded : (t : List ℕ) (c : List Exchange) (a d : List (List (List ℕ))) → Calls t a c d → AreCoded a → AreCoded d
coded t [] a d h e = subst AreCoded h e
coded t (x ∷ c) a d h e =
    let s : Steps t a h.0 x.reply x.event = h.1 in
    coded t c h.0 d h.2 (s.coded e)

pub calls-hold : CallsHold
calls-hold t c d ok h =
    let a = record_rows (fresh_record (settings_in t)) in
    let q : record_in t d ≡ run (fresh_record (settings_in t)) (events_in c) =
    says t c a d h ∙ ap (λ (r : Record). run r (events_in c)) (fresh-says t) in
    record {
      answers = answers t c a d h ∙ ap (λ (r : Record). trace r (events_in c)) (fresh-says t);
      says = q;
      words = sym (coded t c a d h (fresh-coded t)) ∙ ap record_rows q;
      demand = λ few. demand3 (settings_in t) (events_in c) ok few;
    }
