-- The encoder: the rows of a slot, in the order of specs/Places.antt.
use Rattle.std.specs.Prelude.{ℕ, List, [], ◌∷◌, ◌++◌, map, ◌≡◌, replicate}
use Rattle.rules.specs.declared.types.Slot.{Slot}
use Rattle.rows.specs.View.{slot_in}
use Rattle.cells.specs.Code.{sent_row, ids_row, clocks_row, stop_row, trips_row, search_row, arrivals_row, marks_row}
use Rattle.cells.specs.Code.{sample_rows, span_row}
use Rattle.rows.specs.Places.{row_count}

-- the rows from that of the identifiers to that of the marks
abbrev pub middle_rows : Slot → List (List ℕ)
middle_rows s =
    let p = s.path in
    ids_row p.ids ∷ clocks_row p.silence.quiet p.sizes.seek.at ∷ stop_row p.silence.stop
    ∷ trips_row p.silence.stop p.etx p.rtts.rtt ∷ search_row p.sizes p.ladder ∷ arrivals_row p.traffic
    ∷ marks_row p.traffic p.rtts.samples s.used s.label p.misses ∷ []

-- all rows of a slot
unfoldable pub slot_rows : Slot → List (List ℕ)
slot_rows s =
    map sent_row s.path.ring
    ++ (map sent_row s.path.late
    ++ (middle_rows s
    ++ (sample_rows s.path.rtts.samples ++ map span_row s.path.rtts.spans)))

-- rows of words that are all 0
unfoldable pub empty_rows : List (List ℕ)
empty_rows = replicate row_count (replicate 4 0)

-- the rows are the encoder's, to the last bit
abbrev pub IsCoded : List (List ℕ) → Type 0
IsCoded p = slot_rows (slot_in p) ≡ p
