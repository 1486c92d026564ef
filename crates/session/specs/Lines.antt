-- All that `pathlog` writes for all that it reads (document 01, "Files and tail").
use Rattle.std.specs.Prelude.{ℕ, ◌+◌, ◌%◌, ◌^◌, cond, List, [], ◌∷◌, ◌++◌, length, nat_lt}
use Rattle.base.specs.Refusals.{refusal_number}
use Rattle.rules.specs.Step.{Entry, allowed, fresh_record, trace}
use Rattle.eventfile.specs.File.{Ending, Whole, Bad, settings_of, events_of, ending_of}
use Rattle.lines.specs.Text.{line_of}

-- "Each line: record number, kind, refusal or 0, value."
abbrev pub entry_line : ℕ → Entry → List ℕ
entry_line n x = line_of n x.event.kind x.number x.value

-- the number of the record after record n; it is a u64, so 0 follows 2^64 - 1
abbrev pub number_after : ℕ → ℕ
number_after n = (n + 1) % 2 ^ 64

-- "After 13, 14 or 15 it stops; kind is 0 if unread.": the last line, of a record that can't be read
abbrev pub end_line : ℕ → Ending → List ℕ
end_line n Whole = []
end_line n (Bad why kind) = line_of n kind (refusal_number why) 0

-- the lines of events with their answers, the first of them record n of the file, and of what follows them
abbrev pub lines_from : ℕ → List Entry → Ending → List ℕ
lines_from n [] end = end_line n end
lines_from n (x ∷ l) end = entry_line n x ++ lines_from (number_after n) l end

-- the output for an input: "Settings cut short (13) or too large (6) give one line with record number and kind 0.";
-- else the lines of the list's answers from a fresh record on, by `trace`
unfoldable pub lines_of : List ℕ → List ℕ
lines_of l =
    cond (nat_lt (length l) 32) (line_of 0 0 13 0)
    (cond (allowed (settings_of l))
    (lines_from 1 (trace (fresh_record (settings_of l)) (events_of l)) (ending_of l)) (line_of 0 0 6 0))
