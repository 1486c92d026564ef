-- What the rows of a slot say, whatever words they hold; specs/Places.antt has which row holds what.
use Rattle.std.specs.Prelude.{ℕ, Bool, List, [], map, get_or, set, take, drop}
use Rattle.ring.specs.declared.types.Sent.{Sent}
use Rattle.rtt.specs.declared.types.Sample.{Sample}
use Rattle.rtt.specs.declared.types.Span.{Span}
use Rattle.live.specs.declared.types.Liveness.{Liveness}
use Rattle.rules.specs.declared.types.Label.{Label}
use Rattle.rules.specs.declared.types.Slot.{Slot}
use Rattle.cells.specs.Cells.{word, with_word, instant_in, sent_in, ids_in, stop_in, sizes_in, ladder_in, traffic_in, misses_in, etx_in}
use Rattle.cells.specs.Cells.{samples_from, span_in, label_in, used_in}
use Rattle.rows.specs.Places.{ring_at, lates_at, ids_at, clocks_at, stop_at, trips_at, search_at, arrivals_at, marks_at}
use Rattle.rows.specs.Places.{samples_at, spans_at}

-- a row, by its number
abbrev pub row : List (List ℕ) → ℕ → List ℕ
row p k = get_or p k []

-- a word of a row
abbrev pub cell : List (List ℕ) → ℕ → ℕ → ℕ
cell p k j = word (row p k) j

-- the rows with a word of one of them anew
abbrev pub with_cell : List (List ℕ) → ℕ → ℕ → ℕ → List (List ℕ)
with_cell p k j w = set p k (with_word (row p k) j w)

-- what the n rows from o on say, each by itself
abbrev pub block : {A : Type 0} → (List ℕ → A) → ℕ → ℕ → List (List ℕ) → List A
block f o n p = map f (take n (drop o p))

-- the ring
unfoldable pub ring_in : List (List ℕ) → List Sent
ring_in p = block sent_in ring_at 8 p

-- the late list
unfoldable pub late_in : List (List ℕ) → List Sent
late_in p = block sent_in lates_at 4 p

-- the samples, by their rows and the bits of their marks
unfoldable pub samples_in : List (List ℕ) → List Sample
samples_in p = samples_from (cell p marks_at 1) (take 16 (drop samples_at p))

-- the spans
unfoldable pub spans_in : List (List ℕ) → List Span
spans_in p = block span_in spans_at 8 p

-- the path
unfoldable pub path_in : List (List ℕ) → Liveness
path_in p =
    record {
      rtts = record { samples = samples_in p; spans = spans_in p; rtt = instant_in (cell p trips_at 2) (cell p trips_at 3) };
      ring = ring_in p;
      late = late_in p;
      silence =
          record {
            stop = stop_in (row p stop_at) (cell p trips_at 0);
            quiet = instant_in (cell p clocks_at 0) (cell p clocks_at 1);
          };
      ids = ids_in (row p ids_at);
      sizes =
          sizes_in (cell p clocks_at 2) (cell p clocks_at 3) (cell p search_at 0) (cell p search_at 1) (cell p search_at 2);
      ladder = ladder_in (cell p search_at 3);
      traffic = traffic_in (row p arrivals_at) (cell p marks_at 0);
      etx = etx_in (cell p trips_at 1);
      misses = misses_in (cell p marks_at 3);
    }

-- the marks of the slot: whether it holds a path, and what its open said
abbrev pub marks_in : List (List ℕ) → Bool × Label
marks_in p = (used_in (cell p marks_at 2), label_in (cell p marks_at 2))

-- the slot
abbrev pub slot_in : List (List ℕ) → Slot
slot_in p = record { path = path_in p; label = label_in (cell p marks_at 2); used = used_in (cell p marks_at 2) }
