-- The standing of a path and its bytes (document 01, "Files and tail": "Standing of a path: map u8, then last, least
-- and base RTT (u64), proven u16, answered u32, quiet u64 where their bits 0 to 5 stand, then ETX bits u64, misses
-- u32").
use Rattle.base.specs.declared.types.Refusal.{Refusal}
use Rattle.std.specs.Prelude.{ℕ, ◌+◌, ◌*◌, Bool, not, cond, ◌||◌, List, [], ◌∷◌, ◌++◌, map, leb, ltb, length, Option, Some, is_some, unwrap_or, Result, Ok, Err}
use Rattle.base.specs.Refusals.{refusal_number}
use Rattle.base.specs.Seq.{flag_of}
use Rattle.base.specs.declared.types.Refusal.TheVariants as refusal
use Rattle.octets.specs.Octets.{le, flat, over}
use Rattle.rtt.specs.Samples.{min_rtt}
use Rattle.rtt.specs.Spans.{base_rtt}
use Rattle.live.specs.declared.types.Liveness.{Liveness}
use Rattle.total.specs.Patterns.{etx_bits}
use Rattle.rules.specs.Step.{slot_with}
use Rattle.rules.specs.declared.types.Slot.{Slot}
use Rattle.standing.specs.declared.types.Standing.{Standing}
use Rattle.standing.specs.declared.types.Field.{Field}

-- what is told of a path: the last RTT, the least of the window's samples, the least over the horizon's spans, the
-- proven size, the newest identifier answered in time, the first send's instant, the ETX and the misses
abbrev pub standing_of : Liveness → Standing
standing_of p =
    record {
      last = p.rtts.rtt;
      least = min_rtt p.rtts.samples;
      base = base_rtt p.rtts.spans;
      quiet = p.silence.quiet;
      etx = p.etx;
      answered = p.ids.answered;
      misses = p.misses;
      proven = p.sizes.proven;
    }

-- ---- fields

-- a field of w bytes that is there
abbrev pub whole_field : ℕ → ℕ → Field
whole_field w x = record { value = Some x; width = w }

-- an RTT or an instant: u64
abbrev pub time_field : Option ℕ → Field
time_field x = record { value = x; width = 8 }

-- answered: u32
abbrev pub id_field : Option ℕ → Field
id_field x = record { value = x; width = 4 }

-- proven: u16
abbrev pub len_field : Option ℕ → Field
len_field x = record { value = x; width = 2 }

-- "last, least and base RTT (u64), proven u16, answered u32, quiet u64"
abbrev pub fields_of : Standing → List Field
fields_of s =
    time_field s.last ∷ time_field s.least ∷ time_field s.base ∷ len_field s.proven ∷ id_field s.answered
    ∷ time_field s.quiet ∷ []

-- "where their bits 0 to 5 stand": the first field has the lowest bit
abbrev pub map_of : List Bool → ℕ
map_of [] = 0
map_of (on ∷ l) = flag_of on + 2 * map_of l

-- "map u8, then .., then ETX bits u64, misses u32"
abbrev pub parts_of : Standing → List Field
parts_of s =
    whole_field 1 (map_of (map (λ f. is_some f.value) (fields_of s)))
    ∷ (fields_of s ++ (whole_field 8 (etx_bits s.etx) ∷ whole_field 4 s.misses ∷ []))

-- ---- bytes

-- the bytes of a field: its width, or none where it is missing
abbrev pub width_of : Field → ℕ
width_of f = cond (is_some f.value) f.width 0

-- and which, the lowest first
abbrev pub bytes_in : Field → List ℕ
bytes_in f = le (width_of f) (unwrap_or f.value 0)

-- "Each field is written into the part of the lent bytes that starts after the field before it."
unfoldable pub standing_bytes : Standing → List ℕ
standing_bytes s = flat bytes_in (parts_of s)

-- ---- what a writer says

-- "For each case of an enum answer, a definition gives this paper's number and values.": 0 or the refusal number, and
-- the count of bytes; "A refusal gives its number and value 0."
abbrev pub written_number : Result ℕ Refusal → ℕ
written_number (Ok n) = 0
written_number (Err why) = refusal_number why

abbrev pub written_value : Result ℕ Refusal → ℕ
written_value (Ok n) = n
written_value (Err why) = 0

-- "16: fewer lent bytes than the standing needs"; "The count written is returned"
abbrev pub fit : List ℕ → ℕ → Result ℕ Refusal
fit bytes lent = cond (leb (length bytes) lent) (Ok (length bytes)) (Err refusal.Lent)

-- "bytes past it are unchanged", and all of them on a refusal: the lent bytes l are then `over (standing_bytes s) l`
unfoldable pub written_of : Standing → ℕ → Result ℕ Refusal
written_of s lent = fit (standing_bytes s) lent

-- of a slot of a record, by its slots: 1 above 7, 2 where it is empty, then 16
unfoldable pub slot_written : List Slot → ℕ → ℕ → Result ℕ Refusal
slot_written s i lent =
    cond (ltb 7 i) (Err refusal.Slot)
    (cond (slot_with s i).used (written_of (standing_of (slot_with s i).path) lent) (Err refusal.Empty))

-- a refusal leaves the lent bytes as they are
unfoldable pub slot_out : List Slot → ℕ → List ℕ → List ℕ
slot_out s i l = cond (ltb 7 i || not (slot_with s i).used) l (over (standing_bytes (standing_of (slot_with s i).path)) l)
