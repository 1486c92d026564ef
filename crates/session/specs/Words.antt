-- A session whose record lies in lent words: what they and a mark say, and what a call leaves. t are the four words of
-- the settings, a the eight slots.
use Rattle.std.specs.Prelude.{◌≡◌, ℕ, ◌+◌, Bool, false, List, drop}
use Rattle.octets.specs.Octets.{over}
use Rattle.rules.specs.Step.{fresh_record}
use Rattle.eventfile.specs.declared.types.Parse.{Parse}
use Rattle.lines.specs.Text.{written}
use Rattle.cells.specs.Cells.{settings_in}
use Rattle.cells.specs.Code.{settings_row}
use Rattle.peer.specs.Record.{record_in, record_rows, AreCoded}
use Rattle.session.specs.Sessions.{Session, no_settings, session_of, begun, Run, Ran, stop_line, stop_phase}
use Rattle.session.specs.declared.types.Phase.{Phase}
use Rattle.session.specs.declared.types.Mark.{Mark}
use Rattle.session.specs.declared.types.Call.{Call}

-- the session that words and a mark say, and what they and a call's answer say that it leaves
abbrev pub session_in : List ℕ → List (List (List ℕ)) → Mark → Session
session_in t a m = session_of m.phase (record_in t a) m.number

abbrev pub run_in : List ℕ → List (List (List ℕ)) → Call → Run
run_in t a c = record { session = session_in t a c.mark; place = c.place; wrote = c.wrote; full = c.full }

-- a session that is begun: whatever the words were, they are the encoder's for a new record, and say it with the mark
pub record Begins (t : List ℕ) (a : List (List (List ℕ))) (m : Mark) : Type 0 where
  pub says : session_in t a m ≡ begun
  pub row : t ≡ settings_row no_settings
  pub words : a ≡ record_rows (fresh_record no_settings)

-- the four words of the settings are the encoder's; `AreCoded` says it of the slots'
abbrev pub IsRow : List ℕ → Type 0
IsRow t = settings_row (settings_in t) ≡ t

-- a call on the words t and a, which are u and b after it, and on lent bytes o, which are m after it: it leaves and
-- writes what x has; and what was the encoder's is the encoder's
pub record Runs (t u : List ℕ) (a b : List (List (List ℕ))) (c : Call) (o m : List ℕ) (x : Ran) : Type 0 where
  pub leaves : run_in u b c ≡ x.run
  pub writes : m ≡ over x.text o
  pub row : IsRow t → IsRow u
  pub coded : AreCoded a → AreCoded b

-- where a run stands
abbrev pub call_at : ℕ → Phase → ℕ → ℕ → Bool → Call
call_at n p place wrote full =
    record { mark = record { number = n; phase = p }; place = place; wrote = wrote; full = full }

-- a run that stops before what stands at a place, with `at` bytes written before
abbrev pub stopped_at : ℕ → Parse → ℕ → List ℕ → ℕ → Call
stopped_at n x place out at = call_at n (stop_phase x) place (at + written (stop_line x n) (drop at out)) false

-- a call that reads and writes nothing
abbrev pub stayed_at : Mark → Bool → Call
stayed_at m full = record { mark = m; place = 0; wrote = 0; full = full }
