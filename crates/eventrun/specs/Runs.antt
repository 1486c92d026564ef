-- What a file of events gives to a caller: the answer of each event, then the standings of the paths that are open at
-- the end (document 01, "Files and tail"; "calls ours as C functions on numbers and bytes").
use Rattle.std.specs.Prelude.{ℕ, suc, ◌+◌, ◌≡◌, Bool, true, not, ◌&&◌, cond, List, [], ◌∷◌, ◌++◌, ltb, length, Result, Ok, Err}
use Rattle.base.specs.declared.types.Refusal.{Refusal}
use Rattle.base.specs.declared.types.Refusal.TheVariants as refusal
use Rattle.octets.specs.Octets.{le, flat, words_of, over}
use Rattle.rules.specs.Step.{Entry, allowed, fresh_record, run, trace}
use Rattle.rules.specs.declared.types.Slot.{Slot}
use Rattle.rules.specs.declared.types.Event.{Event}
use Rattle.standing.specs.Standing.{standing_of, standing_bytes, fit}
use Rattle.eventfile.specs.File.{settings_of, events_of, Ending, Whole, Bad, ending_of}
use Rattle.cells.specs.Code.{settings_row}
use Rattle.peer.specs.Record.{record_in, record_rows, AreCoded}
use Rattle.eventrun.specs.declared.types.Scan.{Scan}

-- ---- bytes

-- an answer: its refusal number and its value, u64 each
abbrev pub entry_bytes : Entry → List ℕ
entry_bytes x = words_of (x.number ∷ x.value ∷ [])

-- an open slot: its number, u8, and its path's standing; an empty one gives nothing
unfoldable pub slot_bytes : ℕ → Slot → List ℕ
slot_bytes i s = cond s.used (le 1 i ++ standing_bytes (standing_of s.path)) []

-- how many bytes that is, whatever the number
abbrev pub slot_size : Slot → ℕ
slot_size s = cond s.used (1 + length (standing_bytes (standing_of s.path))) 0

-- the slots from number i on
unfoldable pub standings_from : ℕ → List Slot → List ℕ
standings_from i [] = []
standings_from i (s ∷ l) = slot_bytes i s ++ standings_from (suc i) l

abbrev pub standings_of : List Slot → List ℕ
standings_of l = standings_from 0 l

-- the answers of a file's events on a fresh record with its settings, then the standings
unfoldable pub output_of : List ℕ → List ℕ
output_of file =
    flat entry_bytes (trace (fresh_record (settings_of file)) (events_of file))
    ++ standings_of (run (fresh_record (settings_of file)) (events_of file)).slots

-- ---- refusals

-- a record that cannot be read refuses the file
abbrev pub end_verdict : Ending → Result Unit Refusal
end_verdict Whole = Ok tt
end_verdict (Bad why kind) = Err why

abbrev pub ended_by : Result Unit Refusal → Result ℕ Refusal → Result ℕ Refusal
ended_by (Ok tt) w = w
ended_by (Err why) w = Err why

-- 13 where the settings are cut short, 6 where one is too large, then the first record that cannot be read, then 16
unfoldable pub file_written : List ℕ → ℕ → Result ℕ Refusal
file_written file lent =
    cond (ltb (length file) 32) (Err refusal.Cut)
    (cond (allowed (settings_of file)) (ended_by (end_verdict (ending_of file)) (fit (output_of file) lent))
    (Err refusal.Duration))

-- a refusal writes nothing
abbrev pub out_by : Result ℕ Refusal → List ℕ → List ℕ → List ℕ
out_by (Ok n) new old = new
out_by (Err why) new old = old

unfoldable pub out_of : List ℕ → List ℕ → List ℕ
out_of file l = out_by (file_written file (length l)) (over (output_of file) l) l

-- ---- the words of a record that runs

-- the words a say a record, on which these events are run, and b say what it is after them; where a were the encoder's,
-- b are
pub record Leaves (t : List ℕ) (a b : List (List (List ℕ))) (es : List Event) : Type 0 where
  pub says : record_in t b ≡ run (record_in t a) es
  pub coded : AreCoded a → AreCoded b

-- how many events a file has, and how its records end
unfoldable pub pass_of : List ℕ → Scan
pass_of file = record { count = length (events_of file); end = end_verdict (ending_of file) }

-- where no record is made
abbrev pub not_run : Refusal → Scan
not_run why = record { count = 0; end = Err why }

unfoldable pub plan_of : List ℕ → Scan
plan_of file =
    cond (ltb (length file) 32) (not_run refusal.Cut)
    (cond (allowed (settings_of file)) (pass_of file) (not_run refusal.Duration))

-- the words after it: where a record is made, the encoder's for its settings and for the record that the events leave
abbrev pub is_made : List ℕ → Bool
is_made file = not (ltb (length file) 32) && allowed (settings_of file)

unfoldable pub planned_row : List ℕ → List ℕ → List ℕ
planned_row file t = cond (is_made file) (settings_row (settings_of file)) t

unfoldable pub planned_rows : List ℕ → List (List (List ℕ)) → List (List (List ℕ))
planned_rows file a = cond (is_made file) (record_rows (run (fresh_record (settings_of file)) (events_of file))) a

-- the words t and a are u and b after it: so, and they say that record
pub record Plans (file t u : List ℕ) (a b : List (List (List ℕ))) : Type 0 where
  pub row : u ≡ planned_row file t
  pub words : b ≡ planned_rows file a
  pub says : is_made file ≡ true → record_in u b ≡ run (fresh_record (settings_of file)) (events_of file)
