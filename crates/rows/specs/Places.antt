-- Which row of a slot holds what.
use Rattle.std.specs.Prelude.{ℕ}

-- the rows of a slot
abbrev pub row_count : ℕ
row_count = 43

-- the ring, eight rows
abbrev pub ring_at : ℕ
ring_at = 0

-- the late list, four rows
abbrev pub lates_at : ℕ
lates_at = 8

-- the identifiers: next, answered, epoch, since
abbrev pub ids_at : ℕ
ids_at = 12

-- the silence clock, its mark before it; the search's instant, its mark before it
abbrev pub clocks_at : ℕ
clocks_at = 13

-- the stop: its mark, free, gap, used
abbrev pub stop_at : ℕ
stop_at = 14

-- the stop's until; the ETX; the latest round trip, its mark before it
abbrev pub trips_at : ℕ
trips_at = 15

-- the search's identifier and length; the lost size; the proven size; the ladder
abbrev pub search_at : ℕ
search_at = 16

-- the last frame and the last session datagram, each one's mark before it
abbrev pub arrivals_at : ℕ
arrivals_at = 17

-- frames and bytes; which samples are used, a bit each; the slot's marks; the misses
abbrev pub marks_at : ℕ
marks_at = 18

-- the samples, two to a row, sixteen rows
abbrev pub samples_at : ℕ
samples_at = 19

-- the spans, eight rows
abbrev pub spans_at : ℕ
spans_at = 35
