-- What the path becomes where one row is stored: one law for each part.
-- Assumes nothing.
use Prim.Native.Nat.{ℕ, ◌+◌, ◌-◌, ◌/◌, ◌%◌, ◌<◌, ◌≤◌}
use mathlib.Core.Path.{◌≡◌, refl, ap, sym, ◌∙◌}
use mathlib.Core.List.{List, []}
use mathlib.Core.Bool.{true, false}
use native.Mathlib.Omega.{arith}
use native.Mathlib.Nat.{zero-add}
use borrow.Author.Tests.{ne_eqb, leb-true, ltb-true, lt-ltb, le-leb}
use lib.Dec.{eqb, leb, ltb}
use lib.ListN.{length, set, get_or, take, drop, length-map, length-drop, length-set, get_or-eq_default}
use lib.Seq.{length-take-le, get_or-take, get_or-drop, drop-set-lt, drop-set-add, take-set-le, take-set-lt}
use Rattle.ring.specs.declared.types.Sent.{Sent}
use Rattle.ring.specs.declared.types.Ids.{Ids}
use Rattle.ring.specs.Ring.{no_sent}
use Rattle.rtt.specs.Samples.{no_sample}
use Rattle.rtt.specs.Spans.{no_span}
use Rattle.rtt.specs.declared.types.Sample.{Sample}
use Rattle.rtt.specs.declared.types.Span.{Span}
use Rattle.live.specs.Path.{with_ring, with_late, with_ids, with_sizes, with_traffic, with_ladder, with_misses, with_etx}
use Rattle.cells.specs.Cells.{instant_in, length_in, sent_in, ids_in, ladder_in, misses_in, span_in, sizes_in, traffic_in, etx_in}
use Rattle.cells.specs.Cells.{stop_in, word, with_word, with_half, bit_in, with_bit, sample_in, samples_from}
use Rattle.cells.proofs.SampleLaws.{is_last, samples-at, samples-count, samples-set}
use Rattle.rows.specs.Places.{row_count, lates_at, ids_at, clocks_at, stop_at, trips_at, search_at, arrivals_at, marks_at, samples_at, spans_at}
use Rattle.rows.specs.Parts.{with_quiet, with_stop, with_proven, with_seek_in, with_samples, with_spans, with_trip}
use Rattle.rows.specs.View.{row, cell, ring_in, late_in, samples_in, spans_in, path_in}
use Rattle.rows.proofs.BlockLaws.{block_at, block-before, block-after, block_in, row_other, row_same}

module _ (p : List (List ℕ)) where
  -- what a place says
  pub ring-at : (i : ℕ) → i < 8 → sent_in (row p i) ≡ get_or (path_in p).ring i no_sent
  unfolding path_in ring_in sent_in
  ring-at i h = sym (rw zero-add at (block_at sent_in p 0 8 i h))

  pub late-at : (i : ℕ) → i < 4 → sent_in (row p (lates_at + i)) ≡ get_or (path_in p).late i no_sent
  unfolding path_in late_in sent_in
  late-at i h = sym (block_at sent_in p lates_at 4 i h)

  -- the rows of the samples
  samples-rows : length p ≡ row_count → length (take 16 (drop samples_at p)) ≡ 16
  samples-rows h = length-take-le 16 (drop samples_at p) (rw length-drop (omega arith))

  pub sample-at : length p ≡ row_count → (i : ℕ) → i < 32
      → sample_in (row p (samples_at + i / 2)) (is_last i) (bit_in (cell p marks_at 1) (i % 64)) ≡ get_or (path_in p).rtts.samples i no_sample
  unfolding path_in samples_in
  sample-at n i h =
      let k : i / 2 < 16 = omega arith in
      let e : i % 64 ≡ i = omega arith in
      ap (λ (x : ℕ). sample_in (row p (samples_at + i / 2)) (is_last i) (bit_in (cell p marks_at 1) x)) e
      ∙ sym (samples-at (cell p marks_at 1) (take 16 (drop samples_at p)) i (omega (arith, samples-rows n))
      ∙ ap (λ (r : List ℕ). sample_in r (is_last i) (bit_in (cell p marks_at 1) i))
      (get_or-take 16 (drop samples_at p) (i / 2) [] k ∙ get_or-drop samples_at p (i / 2) []))

  pub span-at : (i : ℕ) → i < 8 → span_in (row p (spans_at + i)) ≡ get_or (path_in p).rtts.spans i no_span
  unfolding path_in spans_in span_in
  span-at i h = sym (block_at span_in p spans_at 8 i h)

  pub samples-length : length p ≡ row_count → length (path_in p).rtts.samples ≡ 32
  unfolding path_in samples_in
  samples-length h = samples-count (cell p marks_at 1) (take 16 (drop samples_at p)) ∙ omega (arith, samples-rows h)

  pub spans-length : length p ≡ row_count → length (path_in p).rtts.spans ≡ 8
  unfolding path_in spans_in
  spans-length h = length-map (take 8 (drop spans_at p)) span_in ∙ length-take-le 8 (drop spans_at p) (rw length-drop (omega arith))

  pub ring-length : length p ≡ row_count → length (path_in p).ring ≡ 8
  unfolding path_in ring_in
  ring-length h = length-map (take 8 p) sent_in ∙ length-take-le 8 p (omega arith)

  pub late-length : length p ≡ row_count → length (path_in p).late ≡ 4
  unfolding path_in late_in
  late-length h = length-map (take 4 (drop 8 p)) sent_in ∙ length-take-le 4 (drop 8 p) (rw length-drop (omega arith))

-- a place that is not there
module _ (p : List (List ℕ)) (n : length p ≡ row_count) {i : ℕ} where
  pub ring-past : {x : Sent} → 8 ≤ i → x ≡ no_sent → x ≡ get_or (path_in p).ring i no_sent
  ring-past h e =
      let k : length (path_in p).ring ≤ i = omega (arith, ring-length p n) in
      e ∙ sym (get_or-eq_default (path_in p).ring no_sent k)

  pub late-past : {x : Sent} → 4 ≤ i → x ≡ no_sent → x ≡ get_or (path_in p).late i no_sent
  late-past h e =
      let k : length (path_in p).late ≤ i = omega (arith, late-length p n) in
      e ∙ sym (get_or-eq_default (path_in p).late no_sent k)

  pub sample-past : {x : Sample} → 32 ≤ i → x ≡ no_sample → x ≡ get_or (path_in p).rtts.samples i no_sample
  sample-past h e =
      let k : length (path_in p).rtts.samples ≤ i = omega (arith, samples-length p n) in
      e ∙ sym (get_or-eq_default (path_in p).rtts.samples no_sample k)

  pub span-past : {x : Span} → 8 ≤ i → x ≡ no_span → x ≡ get_or (path_in p).rtts.spans i no_span
  span-past h e =
      let k : length (path_in p).rtts.spans ≤ i = omega (arith, spans-length p n) in
      e ∙ sym (get_or-eq_default (path_in p).rtts.spans no_span k)

module _ (p : List (List ℕ)) (i : ℕ) (r : List ℕ) where
  ring_in_lem : i < 8 → ring_in (set p i r) ≡ set (ring_in p) i (sent_in r)
  unfolding ring_in
  ring_in_lem h = rw zero-add at (block_in sent_in p i r 0 8 h)

  ring_out : leb 8 i ≡ true → ring_in (set p i r) ≡ ring_in p
  unfolding ring_in
  ring_out h = block-after sent_in p i r 0 8 h

  late-in : i < 4 → late_in (set p (8 + i) r) ≡ set (late_in p) i (sent_in r)
  unfolding late_in
  late-in h = block_in sent_in p i r 8 4 h

  late-low : ltb i 8 ≡ true → late_in (set p i r) ≡ late_in p
  unfolding late_in
  late-low h = block-before sent_in p i r 8 4 h

  late-high : leb 12 i ≡ true → late_in (set p i r) ≡ late_in p
  unfolding late_in
  late-high h = block-after sent_in p i r 8 4 h

  samples-low : ltb i samples_at ≡ true → eqb marks_at i ≡ false → samples_in (set p i r) ≡ samples_in p
  unfolding samples_in
  samples-low h k =
      λ j. samples_from (word (row_other p i r marks_at k j) 1) (take 16 (drop-set-lt samples_at p i r (ltb-true i samples_at h) j))

  samples-high : leb spans_at i ≡ true → samples_in (set p i r) ≡ samples_in p
  unfolding samples_in
  samples-high h =
      let g : spans_at ≤ i = leb-true spans_at i h in
      let e : i ≡ samples_at + (i - samples_at) = omega arith in
      let k : eqb marks_at i ≡ false = ne_eqb marks_at i (λ f. absurd (omega arith)) in
      (λ j. samples_from (word (row_other p i r marks_at k j) 1) (take 16 (drop samples_at (set p (e j) r))))
      ∙ ap (λ (q : List (List ℕ)). samples_from (cell p marks_at 1) (take 16 q)) (drop-set-add samples_at p (i - samples_at) r)
      ∙ ap (samples_from (cell p marks_at 1)) (take-set-le 16 (drop samples_at p) (i - samples_at) r (omega arith))

  spans-low : ltb i spans_at ≡ true → spans_in (set p i r) ≡ spans_in p
  unfolding spans_in
  spans-low h = block-before span_in p i r spans_at 8 h

  spans-in : i < 8 → spans_in (set p (spans_at + i) r) ≡ set (spans_in p) i (span_in r)
  unfolding spans_in
  spans-in h = block_in span_in p i r spans_at 8 h

-- a sample stored, with its mark
abbrev pub store_sample : List (List ℕ) → ℕ → Sample → List (List ℕ)
store_sample p i s =
    set
    (set p (samples_at + i / 2) (with_half (row p (samples_at + i / 2)) (is_last i) s.at s.rtt))
    marks_at
    (with_word (row p marks_at) 1 (with_bit (cell p marks_at 1) i s.used))

module _ (p : List (List ℕ)) (n : length p ≡ row_count) (i : ℕ) (s : Sample) (h : i < 32) where
  samples-in : samples_in (store_sample p i s) ≡ set (samples_in p) i s
  unfolding samples_in
  samples-in =
      let k : i / 2 < 16 = omega arith in
      let m : ℕ = cell p marks_at 1 in
      let u : List ℕ = with_half (row p (samples_at + i / 2)) (is_last i) s.at s.rtt in
      let q : List (List ℕ) = set p (samples_at + i / 2) u in
      let v : List ℕ = with_word (row p marks_at) 1 (with_bit m i s.used) in
      let a : row (set q marks_at v) marks_at ≡ v =
      row_same q marks_at v (omega (arith, length-set p (samples_at + i / 2) u)) in
      let b : take 16 (drop samples_at (set q marks_at v)) ≡ set (take 16 (drop samples_at p)) (i / 2) u =
      ap (take 16) (drop-set-lt samples_at q marks_at v (omega arith) ∙ drop-set-add samples_at p (i / 2) u)
      ∙ take-set-lt 16 (drop samples_at p) (i / 2) u k in
      let d : row p (samples_at + i / 2) ≡ get_or (take 16 (drop samples_at p)) (i / 2) [] =
      sym (get_or-take 16 (drop samples_at p) (i / 2) [] k ∙ get_or-drop samples_at p (i / 2) []) in
      (λ j. samples_from (word (a j) 1) (b j))
      ∙ ap (λ (r : List ℕ). samples_from (with_bit m i s.used) (set (take 16 (drop samples_at p)) (i / 2) (with_half r (is_last i) s.at s.rtt))) d
      ∙ samples-set m (take 16 (drop samples_at p)) i s (omega (arith, samples-rows p n))

  pub view-sample : path_in (store_sample p i s) ≡ with_samples (path_in p) (set (path_in p).rtts.samples i s)
  unfolding path_in
  view-sample =
      let z : ℕ = samples_at + i / 2 in
      let u : List ℕ = with_half (row p z) (is_last i) s.at s.rtt in
      let v : List ℕ = with_word (row p marks_at) 1 (with_bit (cell p marks_at 1) i s.used) in
      let near : (k : ℕ) → ltb k samples_at ≡ true → eqb k z ≡ false = λ k e. ne_eqb k z (λ f. let y = ltb-true k samples_at e in absurd (omega arith)) in
      simp (samples-in, ring_out, late-high, le-leb 8 z (omega arith), le-leb 12 z (omega arith), spans-low, lt-ltb z spans_at (omega arith), row_same (set p z u) marks_at v (omega (arith, length-set p z u)), row_other, near)

module _ (p : List (List ℕ)) (r : List ℕ) where
  pub view-ring : {i : ℕ} {s : Sent} → i < 8 → sent_in r ≡ s → path_in (set p i r) ≡ with_ring (path_in p) (set (path_in p).ring i s)
  unfolding path_in
  view-ring {i} {s} h q =
      let far : (k : ℕ) → leb 8 k ≡ true → eqb k i ≡ false = λ k e. ne_eqb k i (λ f. let z = leb-true 8 k e in absurd (omega arith)) in
      simp (ring_in_lem p i r h, late-low p i r (lt-ltb i 8 h), samples-low p i r (lt-ltb i samples_at (omega arith)) (far marks_at refl), spans-low p i r (lt-ltb i spans_at (omega arith)), row_other, far, q)

  pub view-late : {i : ℕ} {s : Sent} → i < 4 → sent_in r ≡ s → path_in (set p (lates_at + i) r) ≡ with_late (path_in p) (set (path_in p).late i s)
  unfolding path_in
  view-late {i} {s} h q =
      let far : (k : ℕ) → leb 12 k ≡ true → eqb k (8 + i) ≡ false = λ k e. ne_eqb k (8 + i) (λ f. let z = leb-true 12 k e in absurd (omega arith)) in
      simp (ring_out p (8 + i) r (le-leb 8 (8 + i) (omega arith)), late-in p i r h, samples-low p (8 + i) r (lt-ltb (8 + i) samples_at (omega arith)) (far marks_at refl), spans-low p (8 + i) r (lt-ltb (8 + i) spans_at (omega arith)), row_other, far, q)

  pub view-span : {i : ℕ} {s : Span} → i < 8 → span_in r ≡ s → path_in (set p (spans_at + i) r) ≡ with_spans (path_in p) (set (path_in p).rtts.spans i s)
  unfolding path_in
  view-span {i} {s} h q =
      let z : ℕ = spans_at + i in
      let near : (k : ℕ) → ltb k samples_at ≡ true → eqb k z ≡ false = λ k e. ne_eqb k z (λ f. let y = ltb-true k samples_at e in absurd (omega arith)) in
      simp (ring_out p z r (le-leb 8 z (omega arith)), late-high p z r (le-leb 12 z (omega arith)), samples-high p z r (le-leb spans_at z (omega arith)), spans-in p i r h, row_other, near, q)

-- the samples where the word of their marks stays
samples-marks : (p : List (List ℕ)) (v : List ℕ) → length p ≡ row_count → word v 1 ≡ cell p marks_at 1
    → samples_in (set p marks_at v) ≡ samples_in p
unfolding samples_in
samples-marks p v n e =
    let a : cell (set p marks_at v) marks_at 1 ≡ cell p marks_at 1 =
    ap (λ (r : List ℕ). word r 1) (row_same p marks_at v (omega arith)) ∙ e in
    λ j. samples_from (a j) (take 16 (drop-set-lt samples_at p marks_at v (omega arith) j))

-- stores to the middle rows
module _ (p : List (List ℕ)) (n : length p ≡ row_count) where
  pub view-ids : (r : List ℕ) {m : Ids} → ids_in r ≡ m → path_in (set p ids_at r) ≡ with_ids (path_in p) m
  unfolding path_in
  view-ids r q = simp (ring_out, late-high, samples-low, spans-low, row_other, row_same p ids_at r (omega arith), q)

  pub view-quiet : (a b : ℕ) → path_in (set p clocks_at (with_half (row p clocks_at) false a b)) ≡ with_quiet (path_in p) (instant_in a b)
  unfolding path_in
  view-quiet a b =
      simp (ring_out, late-high, samples-low, spans-low, row_other, row_same p clocks_at (with_half (row p clocks_at) false a b) (omega arith))

  pub view-trip : (a b : ℕ) → path_in (set p trips_at (with_half (row p trips_at) true a b)) ≡ with_trip (path_in p) (instant_in a b)
  unfolding path_in
  view-trip a b =
      simp (ring_out, late-high, samples-low, spans-low, row_other, row_same p trips_at (with_half (row p trips_at) true a b) (omega arith))

  pub view-etx : (w : ℕ) → path_in (set p trips_at (with_word (row p trips_at) 1 w)) ≡ with_etx (path_in p) (etx_in w)
  unfolding path_in
  view-etx w =
      simp (ring_out, late-high, samples-low, spans-low, row_other, row_same p trips_at (with_word (row p trips_at) 1 w) (omega arith))

  pub view-ladder : (w : ℕ) → path_in (set p search_at (with_word (row p search_at) 3 w)) ≡ with_ladder (path_in p) (ladder_in w)
  unfolding path_in
  view-ladder w =
      simp (ring_out, late-high, samples-low, spans-low, row_other, row_same p search_at (with_word (row p search_at) 3 w) (omega arith))

  pub view-proven : (w : ℕ) → path_in (set p search_at (with_word (row p search_at) 2 w)) ≡ with_proven (path_in p) (length_in w)
  unfolding path_in sizes_in
  view-proven w =
      simp (ring_out, late-high, samples-low, spans-low, row_other, row_same p search_at (with_word (row p search_at) 2 w) (omega arith))

  pub view-misses : (w : ℕ) → path_in (set p marks_at (with_word (row p marks_at) 3 w)) ≡ with_misses (path_in p) (misses_in w)
  unfolding path_in
  view-misses w =
      let v : List ℕ = with_word (row p marks_at) 3 w in
      simp (ring_out, late-high, samples-marks p v n refl, spans-low, row_other, row_same p marks_at v (omega arith))

  pub view-sizes : (a b c d e : ℕ)
      → path_in (set (set p clocks_at (with_half (row p clocks_at) true a b)) search_at (with_word (with_half (row p search_at) false c d) 2 e))
      ≡ with_sizes (path_in p) (sizes_in a b c d e)
  unfolding path_in
  view-sizes a b c d e =
      let u : List ℕ = with_half (row p clocks_at) true a b in
      let v : List ℕ = with_word (with_half (row p search_at) false c d) 2 e in
      simp (ring_out, late-high, samples-low, spans-low, row_other, row_same p clocks_at u (omega arith), row_same (set p clocks_at u) search_at v (omega (arith, length-set p clocks_at u)))

  pub view-seek : (a b c d : ℕ)
      → path_in (set (set p clocks_at (with_half (row p clocks_at) true a b)) search_at (with_half (row p search_at) false c d))
      ≡ with_seek_in (path_in p) (sizes_in a b c d 0).seek
  unfolding path_in sizes_in
  view-seek a b c d =
      let u : List ℕ = with_half (row p clocks_at) true a b in
      let v : List ℕ = with_half (row p search_at) false c d in
      simp (ring_out, late-high, samples-low, spans-low, row_other, row_same p clocks_at u (omega arith), row_same (set p clocks_at u) search_at v (omega (arith, length-set p clocks_at u)))

  pub view-stop : (r : List ℕ) (w : ℕ)
      → path_in (set (set p stop_at r) trips_at (with_word (row p trips_at) 0 w)) ≡ with_stop (path_in p) (stop_in r w)
  unfolding path_in
  view-stop r w =
      let v : List ℕ = with_word (row p trips_at) 0 w in
      simp (ring_out, late-high, samples-low, spans-low, row_other, row_same p stop_at r (omega arith), row_same (set p stop_at r) trips_at v (omega (arith, length-set p stop_at r)))

  pub view-traffic : (r : List ℕ) (w : ℕ)
      → path_in (set (set p arrivals_at r) marks_at (with_word (row p marks_at) 0 w)) ≡ with_traffic (path_in p) (traffic_in r w)
  unfolding path_in
  view-traffic r w =
      let v : List ℕ = with_word (row p marks_at) 0 w in
      let l : length (set p arrivals_at r) ≡ row_count = length-set p arrivals_at r ∙ n in
      let e : cell p marks_at 1 ≡ cell (set p arrivals_at r) marks_at 1 =
      ap (λ (x : List ℕ). word x 1) (sym (row_other p arrivals_at r marks_at refl)) in
      simp (ring_out, late-high, samples-marks (set p arrivals_at r) v l e, samples-low, spans-low, row_other, row_same p arrivals_at r (omega arith), row_same (set p arrivals_at r) marks_at v (omega arith))
