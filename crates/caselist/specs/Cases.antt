-- A list of cases. A case is two parts: the bytes of an event file and those of its lines, or a list of events in words
-- and the standings after it. A part is a length of four little-endian bytes, and so many bytes.
use Rattle.std.specs.Prelude.{ℕ, ◌+◌, ◌/◌, List, Bool, false, cond, ltb, leb, length, take, drop}
use Rattle.octets.specs.Octets.{read_at}
use Rattle.session.specs.Lines.{lines_of}
use Rattle.replay.specs.Replay.{alike}
use Rattle.caselist.specs.Lists.{list_agrees}

-- how many bytes the part at a place has behind its length, which these are, and the place after them
abbrev pub part_length : List ℕ → ℕ → ℕ
part_length s at = read_at at 4 s

abbrev pub part_text : List ℕ → ℕ → List ℕ
part_text s at = take (part_length s at) (drop (at + 4) s)

abbrev pub part_end : List ℕ → ℕ → ℕ
part_end s at = at + 4 + part_length s at

-- both parts of the case at a place lie within the bytes
abbrev pub is_whole : List ℕ → ℕ → Bool
is_whole s at = leb (part_end s (part_end s at)) (length s)

-- A file gives just these lines. Their room is 65,536 bytes, 84 for each three bytes of the file and one line more; a
-- file for which this is too little (2,340 bytes or more) does not agree
unfoldable pub file_agrees : List ℕ → List ℕ → Bool
file_agrees file lines = cond (ltb (length file / 3) (65536 / 84)) (alike (lines_of file) lines) false

-- two parts agree: a list in words with its standings, or a file with its lines
abbrev pub parts_agree : Bool → List ℕ → List ℕ → Bool
parts_agree listed told given = cond listed (list_agrees told given) (file_agrees told given)

-- the case at a place is whole, and its parts agree
unfoldable pub case_agrees : Bool → List ℕ → ℕ → Bool
case_agrees listed s at = cond (is_whole s at) (parts_agree listed (part_text s at) (part_text s (part_end s at))) false

-- the place after a case; of one that is cut short, the end of the bytes
unfoldable pub case_end : List ℕ → ℕ → ℕ
case_end s at = cond (is_whole s at) (part_end s (part_end s at)) (length s)
