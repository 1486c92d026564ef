-- A whole file in lent bytes: its lines. They are those of `trace`, so that demand 3 of the file's events
-- (eventfile/specs/Claim.antt) speaks of them.
use Rattle.base.specs.declared.types.Refusal.{Refusal}
use Rattle.std.specs.Prelude.{ℕ, ◌/◌, Bool, cond, List, [], length, nat_lt, Result, Ok, Err}
use Rattle.base.specs.declared.types.Refusal.TheVariants as refusal
use Rattle.session.specs.Lines.{lines_of}
use Rattle.session.specs.Sessions.{lines_in}

-- there is room for a line of 84 bytes for each three bytes of the file, which is a record at least, and one more
abbrev pub has_room : List ℕ → List ℕ → Bool
has_room l out = nat_lt (length l / 3) (lines_in out)

-- the lines of the file and how many bytes they are; "16: fewer lent bytes", with nothing written. The answer's number
-- and value are the `written_number` and `written_value` of every writer (standing/specs/Standing.antt)
abbrev pub file_text : List ℕ → List ℕ → List ℕ
file_text l out = cond (has_room l out) (lines_of l) []

abbrev pub file_reply : List ℕ → List ℕ → Result ℕ Refusal
file_reply l out = cond (has_room l out) (Ok (length (lines_of l))) (Err refusal.Lent)
