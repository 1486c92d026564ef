-- A session reads the input portion by portion: what a call on the bytes held writes, and where it leaves the session.
use Rattle.base.specs.declared.types.Refusal.{Refusal}
use Rattle.std.specs.Prelude.{ℕ, zero, suc, ◌-◌, ◌/◌, Bool, true, false, cond, List, [], ◌++◌, length, take, drop, ◌==◌, nat_lt, Result}
use Rattle.base.specs.Refusals.{refusal_number}
use Rattle.octets.specs.Octets.{over}
use Rattle.rules.specs.Event.{number_of, value_of}
use Rattle.rules.specs.Step.{step, allowed, fresh_record}
use Rattle.rules.specs.declared.types.Settings.{Settings}
use Rattle.rules.specs.declared.types.Event.{Event}
use Rattle.rules.specs.declared.types.Record.{Record}
use Rattle.rules.specs.declared.types.Reply.{Reply}
use Rattle.eventfile.specs.File.{settings_of, parse_of}
use Rattle.eventfile.specs.declared.types.Parse.{Parse}
use Rattle.eventfile.specs.declared.types.Parse.TheVariants as parse
use Rattle.lines.specs.Text.{line_of}
use Rattle.session.specs.Lines.{number_after}
use Rattle.session.specs.declared.types.Phase.{Phase}
use Rattle.session.specs.declared.types.Phase.TheVariants as phase

-- ---- a session

-- what is known between two portions of a file: the record, the number of the file's next record, and the phase
pub record Session : Type 0 where
  pub rec : Record
  pub number : ℕ
  pub phase : Phase

-- a session before its first byte; the record and the number count from the settings on
abbrev pub no_settings : Settings
no_settings = record { cap = 0; gap = 0; window = 0; horizon = 0 }

abbrev pub session_of : Phase → Record → ℕ → Session
session_of p rec n = record { rec = rec; number = n; phase = p }

unfoldable pub begun : Session
begun = session_of phase.Settings (fresh_record no_settings) 1

-- a session that writes no more
abbrev pub over_of : Session → Session
over_of s = session_of phase.Over s.rec s.number

-- ---- a call

-- what a call leaves: the session, how many bytes it read and wrote, and whether it stopped for want of room
pub record Run : Type 0 where
  pub session : Session
  pub place : ℕ
  pub wrote : ℕ
  pub full : Bool

-- what a call writes, and what it leaves
pub record Ran : Type 0 where
  pub text : List ℕ
  pub run : Run

-- a call ends: with this text, in this session, with so many bytes read, and for want of room or not
abbrev pub call_end : List ℕ → Session → ℕ → Bool → Ran
call_end text s at full =
    record { text = text; run = record { session = s; place = at; wrote = length text; full = full } }

-- the line of an event
abbrev pub event_line : ℕ → Event → Result Reply Refusal → List ℕ
event_line n e r = line_of n e.kind (number_of r) (value_of r)

-- "After 13, 14 or 15 it stops": a record that can't be read ends the session with its line, but one that is cut short
-- (13) waits for more bytes
abbrev pub stop_line : Parse → ℕ → List ℕ
stop_line parse.End n = []
stop_line (parse.Event e next) n = []
stop_line (parse.Refused why k) n = cond (refusal_number why == 13) [] (line_of n k (refusal_number why) 0)

abbrev pub stop_phase : Parse → Phase
stop_phase parse.End = phase.Running
stop_phase (parse.Event e next) = phase.Running
stop_phase (parse.Refused why k) = cond (refusal_number why == 13) phase.Running phase.Over

abbrev pub stopped : Parse → List ℕ → Record → ℕ → ℕ → Ran
stopped x text rec n at = call_end (text ++ stop_line x n) (session_of (stop_phase x) rec n) at false

-- what stands at a place, after the text so far; by `more` come the records after an event
abbrev pub ran_by : Parse → (List ℕ → Record → ℕ → ℕ → Ran) → List ℕ → Record → ℕ → ℕ → Ran
ran_by parse.End more text rec n at = stopped parse.End text rec n at
ran_by (parse.Refused why k) more text rec n at = stopped (parse.Refused why k) text rec n at
ran_by (parse.Event e next) more text rec n at =
    more (text ++ event_line n e (step rec e).reply) (step rec e).next (number_after n) next

-- at most f records, from a place on
unfoldable pub ran_from : ℕ → List ℕ → List ℕ → Record → ℕ → ℕ → Ran
ran_from zero l text rec n at = call_end text (session_of phase.Running rec n) at true
ran_from (suc f) l text rec n at = ran_by (parse_of l at) (ran_from f l) text rec n at

-- the settings, once their 32 bytes are there, and the records after them
abbrev pub ran_settings : ℕ → Session → List ℕ → Ran
ran_settings f s l =
    cond (nat_lt (length l) 32) (call_end [] s 0 false)
    (cond (allowed (settings_of l)) (ran_from f l [] (fresh_record (settings_of l)) 1 32)
    (call_end (line_of 0 0 6 0) (over_of s) 0 false))

abbrev pub ran_in : Phase → ℕ → Session → List ℕ → Ran
ran_in phase.Settings f s l = ran_settings f s l
ran_in phase.Running f s l = ran_from f l [] s.rec s.number 0
ran_in phase.Over f s l = call_end [] s 0 false

-- a call on the bytes held, which writes at most f lines
unfoldable pub ran_of : ℕ → Session → List ℕ → Ran
ran_of f s l = cond (f == 0) (call_end [] s 0 true) (ran_in s.phase f s l)

-- a line has at most 84 bytes: four numbers of at most 20 places, a byte behind each
abbrev pub lines_in : List ℕ → ℕ
lines_in out = length out / 84

-- ---- the end of the input

-- a record that can't be read gives its line
abbrev pub last_by : Parse → ℕ → List ℕ
last_by parse.End n = []
last_by (parse.Refused why k) n = line_of n k (refusal_number why) 0
last_by (parse.Event e next) n = []

abbrev pub last_in : Phase → ℕ → List ℕ → List ℕ
last_in phase.Settings n l = line_of 0 0 13 0
last_in phase.Running n l = last_by (parse_of l 0) n
last_in phase.Over n l = []

-- the last line, if there is one, by the bytes that are left when the input ends
unfoldable pub last_of : Session → List ℕ → List ℕ
last_of s l = last_in s.phase s.number l

-- ---- lent bytes

-- a line over lent bytes, behind the first `at` of them
abbrev pub laid_at : ℕ → List ℕ → List ℕ → List ℕ
laid_at at line l = take at l ++ over line (drop at l)

-- the bytes from a place on and before another
abbrev pub part_of : ℕ → ℕ → List ℕ → List ℕ
part_of from to l = take (to - from) (drop from l)
