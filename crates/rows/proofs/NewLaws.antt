-- The rows of a slot whose path has done nothing: all 0 but for the ETX and the marks.
-- Assumes nothing.
use Prim.Native.Nat.{ℕ}
use mathlib.Core.Path.{◌≡◌, refl, ap, sym, ◌∙◌}
use mathlib.Core.Bool.{Bool, false}
use mathlib.Core.List.{List, [], ◌∷◌}
use lib.Ieee.{Float, binary64, of_bits, fits}
use lib.ListN.{set}
use native.Mathlib.Omega.{arith}
use Rattle.live.specs.New.{new_liveness}
use Rattle.live.specs.Path.{with_etx}
use Rattle.rules.specs.Rules.{no_label, empty_slot}
use Rattle.rules.specs.declared.types.Label.{Label}
use Rattle.rules.specs.declared.types.Slot.{Slot}
use Rattle.total.specs.Patterns.{etx_bits}
use Rattle.cells.specs.Cells.{sent_in, ids_in, stop_in, sizes_in, ladder_in, traffic_in, misses_in, etx_in, span_in, label_from, label_in}
use Rattle.cells.specs.Cells.{used_in}
use Rattle.cells.specs.Code.{sent_row, ids_row, clocks_row, stop_row, until_word, trips_row, search_word, search_row, ladder_word}
use Rattle.cells.specs.Code.{arrivals_row, count_word, label_word, marks_row, span_row}
use Rattle.cells.proofs.RowLaws.{etx-says, label-says}
use Rattle.rows.specs.Places.{trips_at, marks_at}
use Rattle.rows.specs.View.{ring_in, late_in, samples_in, spans_in, path_in, slot_in}
use Rattle.rows.specs.Encode.{slot_rows, empty_rows}

-- the ETX of a path that has done nothing
abbrev pub one : Float
one = of_bits binary64 0x3ff0_0000_0000_0000

-- a slot with such a path
abbrev pub new_slot : Bool → Label → Slot
new_slot used l = record { path = new_liveness; label = l; used = used }

-- its rows that are not 0
abbrev etx_row : ℕ → List ℕ
etx_row w = 0 ∷ w ∷ 0 ∷ 0 ∷ []

abbrev label_row : ℕ → List ℕ
label_row w = 0 ∷ 0 ∷ w ∷ 0 ∷ []

-- the words
new-words : (used : Bool) (l : Label)
    → set (set empty_rows trips_at (etx_row (etx_bits one))) marks_at (label_row (label_word used l)) ≡ slot_rows (new_slot used l)
unfolding slot_rows empty_rows sent_row ids_row clocks_row stop_row until_word trips_row search_word search_row ladder_word arrivals_row count_word marks_row span_row
new-words used l = refl

-- what they say
new-says : (e m : ℕ) → slot_in (set (set empty_rows trips_at (etx_row e)) marks_at (label_row m))
    ≡ record { path = with_etx new_liveness (etx_in e); label = label_in m; used = used_in m }
unfolding path_in ring_in late_in samples_in spans_in empty_rows sent_in ids_in stop_in sizes_in ladder_in traffic_in misses_in span_in
new-says e m = refl

-- both, of rows that were made so
pub new-made : (used : Bool) (l : Label) {p : List (List ℕ)} {e m : ℕ} → p ≡ empty_rows → (e ≡ etx_bits one) × (etx_in e ≡ one)
    → (m ≡ label_word used l) × (used_in m ≡ used) × (label_in m ≡ l)
    → (set (set p trips_at (etx_row e)) marks_at (label_row m) ≡ slot_rows (new_slot used l))
    × (slot_in (set (set p trips_at (etx_row e)) marks_at (label_row m)) ≡ new_slot used l)
new-made used l {p} {e} {m} a b c = (
  (λ k. set (set (a k) trips_at (etx_row (b.0 k))) marks_at (label_row (c.0 k))) ∙ new-words used l,
  (λ k. slot_in (set (set (a k) trips_at (etx_row e)) marks_at (label_row m))) ∙ new-says e m
      ∙ (λ k. record { path = with_etx new_liveness (b.1 k); label = c.2 k; used = c.1 k }),
)

-- the rows of an empty slot say it
pub empty-says : slot_in (slot_rows empty_slot) ≡ empty_slot
unfolding fits of_bits
empty-says =
    let w = label-says false no_label (omega arith) in
    ap slot_in (sym (new-words false no_label)) ∙ new-says (etx_bits one) (label_word false no_label)
    ∙ (λ k. record { path = with_etx new_liveness (etx-says one tt k); label = w.1 k; used = w.0 k })

-- a new slot whose label is that of zeros is empty
pub empty-made : {l : Label} {p : List (List ℕ)} → l ≡ label_in 0
    → (p ≡ slot_rows (new_slot false l)) × (slot_in p ≡ new_slot false l) → (p ≡ slot_rows empty_slot) × (slot_in p ≡ empty_slot)
unfolding label_from
empty-made e f =
    (f.0 ∙ ap (λ (x : Label). slot_rows (new_slot false x)) e, f.1 ∙ ap (λ (x : Label). new_slot false x) e)
