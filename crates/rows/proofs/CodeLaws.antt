-- What the encoder's rows become where one part of the path changes: the part's own rows, and no other.
-- Assumes nothing.
use Rattle.stop.specs.declared.types.Stop.{Stop}
use Rattle.std.specs.Prelude.{Option, unwrap_or}
use Prim.Native.Nat.{ℕ, ◌+◌, ◌/◌, ◌<◌}
use mathlib.Core.Path.{◌≡◌, refl, ap, sym, ◌∙◌}
use mathlib.Core.Bool.{true, false}
use mathlib.Core.List.{List, [], ◌∷◌, ◌++◌, map}
use native.Mathlib.Omega.{arith}
use native.Mathlib.Nat.{zero-add, suc-add}
use lib.Ieee.{Float}
use lib.ListN.{length, get_or, set, length-map, get_or-append}
use lib.Seq.{set-append_left}
use Rattle.ring.specs.declared.types.Sent.{Sent}
use Rattle.ring.specs.declared.types.Ids.{Ids}
use Rattle.rtt.specs.declared.types.Sample.{Sample}
use Rattle.rtt.specs.declared.types.Span.{Span}
use Rattle.seek.specs.declared.types.Ladder.{Ladder}
use Rattle.seek.specs.declared.types.Seek.{Seek}
use Rattle.seek.specs.declared.types.Sizes.{Sizes}
use Rattle.live.specs.Path.{with_ring, with_late, with_ids, with_sizes, with_traffic, with_ladder, with_misses, with_etx}
use Rattle.live.specs.declared.types.Liveness.{Liveness}
use Rattle.live.specs.declared.types.Traffic.{Traffic}
use Rattle.rules.specs.declared.types.Slot.{Slot}
use Rattle.base.specs.Missing.{tag}
use Rattle.total.specs.Patterns.{etx_bits}
use Rattle.cells.specs.Cells.{word, with_word, with_half, with_bit}
use Rattle.cells.specs.Code.{len_word, sent_row, ids_row, clocks_row, stop_row, until_word, trips_row, search_word, search_row, ladder_word}
use Rattle.cells.specs.Code.{arrivals_row, count_word, marks_row, sample_rows, sample_bits, span_row}
use Rattle.cells.proofs.SampleLaws.{is_last, rows-set, bits-set, rows-count}
use Rattle.rows.specs.Places.{ids_at, clocks_at, stop_at, trips_at, search_at, arrivals_at, marks_at, samples_at, spans_at}
use Rattle.rows.specs.View.{row}
use Rattle.rows.specs.Parts.{with_quiet, with_stop, with_proven, with_seek_in, with_samples, with_spans, with_trip}
use Rattle.rows.specs.Encode.{middle_rows, slot_rows}
use Rattle.rows.proofs.BlockLaws.{map-set}
use Rattle.rows.proofs.ViewLaws.{store_sample}

-- a slot with another path
abbrev pub on_path : Slot → Liveness → Slot
on_path s p = record { path = p; label = s.label; used = s.used }

-- a store behind the first n
set-right : {A : Type 0} (a b : List A) (n k : ℕ) (x : A) → length a ≡ n → set (a ++ b) (n + k) x ≡ a ++ set b k x
set-right a b n k x h = ap (λ (m : ℕ). set (a ++ b) (m + k) x) (sym h) ∙ behind a
  where
    behind : (a : List _) → set (a ++ b) (length a + k) x ≡ a ++ set b k x
    behind [] = ap (λ (m : ℕ). set b m x) (zero-add k)
    behind (y ∷ a) = ap (λ (m : ℕ). set (y ∷ (a ++ b)) m x) (suc-add (length a) k) ∙ ap (λ (l : List _). y ∷ l) (behind a)

-- a list's element stored in its rows
set-map : {A B : Type 0} (f : A → B) (l : List A) (r : List B) (i : ℕ) (x : A) → i < length l
    → set (map f l ++ r) i (f x) ≡ map f (set l i x) ++ r
set-map f l r i x h =
    set-append_left (map f l) r i (f x) (rw (length-map l f) h) ∙ ap (λ (m : List _). m ++ r) (sym (map-set f l i x))

-- the same of a list by itself
set-map' : {A B : Type 0} (f : A → B) (l : List A) (i : ℕ) (x : A) → set (map f l) i (f x) ≡ map f (set l i x)
set-map' f l i x = sym (map-set f l i x)

-- an element behind the first n
get-right : {A : Type 0} (a b : List A) (n k : ℕ) (d : A) → length a ≡ n → get_or (a ++ b) (n + k) d ≡ get_or b k d
get-right a b n k d h = ap (λ (m : ℕ). get_or (a ++ b) (m + k) d) (sym h) ∙ behind a
  where
    behind : (a : List _) → get_or (a ++ b) (length a + k) d ≡ get_or b k d
    behind [] = ap (λ (m : ℕ). get_or b m d) (zero-add k)
    behind (y ∷ a) = ap (λ (m : ℕ). get_or (y ∷ (a ++ b)) m d) (suc-add (length a) k) ∙ behind a

-- the path's lists are as long as the rows make them
pub record Long (p : Liveness) : Type 0 where
  pub ring : length p.ring ≡ 8
  pub late : length p.late ≡ 4
  pub samples : length p.rtts.samples ≡ 32
  pub spans : length p.rtts.spans ≡ 8

module _ (s : Slot) (n : Long s.path) where
  ring_long : length (map sent_row s.path.ring) ≡ 8
  ring_long = length-map s.path.ring sent_row ∙ n.ring

  late-long : length (map sent_row s.path.late) ≡ 4
  late-long = length-map s.path.late sent_row ∙ n.late

  samples-long : length (sample_rows s.path.rtts.samples) ≡ 16
  samples-long = rows-count s.path.rtts.samples ∙ omega (arith, n.samples)

  -- the rows behind the middle
  abbrev tail : List (List ℕ)
  tail = sample_rows s.path.rtts.samples ++ map span_row s.path.rtts.spans

  -- the rows before the middle, then l
  abbrev before : List (List ℕ) → List (List ℕ)
  before l = map sent_row s.path.ring ++ (map sent_row s.path.late ++ l)

  -- a store behind the late list
  at-middle : (l : List (List ℕ)) (k : ℕ) (r : List ℕ) → set (before l) (12 + k) r ≡ before (set l k r)
  at-middle l k r =
      let e : 12 + k ≡ 8 + (4 + k) = omega arith in
      ap (λ (m : ℕ). set (before l) m r) e
      ∙ set-right (map sent_row s.path.ring) (map sent_row s.path.late ++ l) 8 (4 + k) r ring_long
      ∙ ap (λ (z : List (List ℕ)). map sent_row s.path.ring ++ z)
      (set-right (map sent_row s.path.late) l 4 k r late-long)

  -- a row behind the late list
  in-middle : (l : List (List ℕ)) (k : ℕ) → row (before l) (12 + k) ≡ row l k
  in-middle l k =
      let e : 12 + k ≡ 8 + (4 + k) = omega arith in
      ap (row (before l)) e
      ∙ get-right (map sent_row s.path.ring) (map sent_row s.path.late ++ l) 8 (4 + k) [] ring_long
      ∙ get-right (map sent_row s.path.late) l 4 k [] late-long

  -- a store behind the middle
  at_tail : (t : List (List ℕ)) (k : ℕ) (r : List ℕ) → set (before (middle_rows s ++ t)) (samples_at + k) r ≡ before (middle_rows s ++ set t k r)
  at_tail t k r =
      let e : samples_at + k ≡ 12 + (7 + k) = omega arith in
      ap (λ (m : ℕ). set (before (middle_rows s ++ t)) m r) e
      ∙ at-middle (middle_rows s ++ t) (7 + k) r
      ∙ ap before (set-right (middle_rows s) t 7 k r refl)

  -- a row behind the middle
  in_tail : (t : List (List ℕ)) (k : ℕ) → row (before (middle_rows s ++ t)) (samples_at + k) ≡ row t k
  in_tail t k =
      let e : samples_at + k ≡ 12 + (7 + k) = omega arith in
      ap (row (before (middle_rows s ++ t))) e
      ∙ in-middle (middle_rows s ++ t) (7 + k)
      ∙ get-right (middle_rows s) t 7 k [] refl

  pub code-ring : (i : ℕ) (x : Sent) → i < 8
      → set (slot_rows s) i (sent_row x) ≡ slot_rows (on_path s (with_ring s.path (set s.path.ring i x)))
  unfolding slot_rows
  code-ring i x h = set-map sent_row s.path.ring _ i x (omega (arith, n.ring))

  pub code-late : (i : ℕ) (x : Sent) → i < 4
      → set (slot_rows s) (8 + i) (sent_row x) ≡ slot_rows (on_path s (with_late s.path (set s.path.late i x)))
  unfolding slot_rows
  code-late i x h =
      set-right (map sent_row s.path.ring) _ 8 i (sent_row x) ring_long
      ∙ ap (λ (l : List (List ℕ)). map sent_row s.path.ring ++ l)
      (set-map sent_row s.path.late _ i x (omega (arith, n.late)))

  pub code-sample : (i : ℕ) (x : Sample) → i < 32
      → store_sample (slot_rows s) i x ≡ slot_rows (on_path s (with_samples s.path (set s.path.rtts.samples i x)))
  unfolding slot_rows marks_row
  code-sample i x h =
      let l : List Sample = s.path.rtts.samples in
      let z : List (List ℕ) = map span_row s.path.rtts.spans in
      let k : i / 2 < length (sample_rows l) = omega (arith, samples-long) in
      let a : row (slot_rows s) (samples_at + i / 2) ≡ row (sample_rows l) (i / 2) =
      in_tail (sample_rows l ++ z) (i / 2) ∙ get_or-append (sample_rows l) z [] (i / 2) k in
      let b : set (slot_rows s) (samples_at + i / 2) (with_half (row (slot_rows s) (samples_at + i / 2)) (is_last i) x.at x.rtt)
      ≡ before (middle_rows s ++ (sample_rows (set l i x) ++ z)) =
      ap (λ (r : List ℕ). set (slot_rows s) (samples_at + i / 2) (with_half r (is_last i) x.at x.rtt)) a
      ∙ at_tail (sample_rows l ++ z) (i / 2) (with_half (row (sample_rows l) (i / 2)) (is_last i) x.at x.rtt)
      ∙ ap (λ (y : List (List ℕ)). before (middle_rows s ++ y))
      (set-append_left (sample_rows l) z (i / 2) (with_half (row (sample_rows l) (i / 2)) (is_last i) x.at x.rtt) k
      ∙ ap (λ (y : List (List ℕ)). y ++ z) (rows-set l i x (omega (arith, n.samples)))) in
      let c : row (slot_rows s) marks_at ≡ marks_row s.path.traffic l s.used s.label s.path.misses = in-middle (middle_rows s ++ tail) 6 in
      let m : List (List ℕ) = middle_rows s ++ (sample_rows (set l i x) ++ z) in
      (λ j. set (b j) marks_at (with_word (c j) 1 (with_bit (word (c j) 1) i x.used)))
      ∙ at-middle m 6 (with_word (marks_row s.path.traffic l s.used s.label s.path.misses) 1 (with_bit (sample_bits l) i x.used))
      ∙ (λ j. before (set m 6
      (with_word (marks_row s.path.traffic l s.used s.label s.path.misses) 1 (bits-set l i x (omega (arith, n.samples)) j))))

  pub code-span : (i : ℕ) (x : Span) → i < 8
      → set (slot_rows s) (spans_at + i) (span_row x)
      ≡ slot_rows (on_path s (with_spans s.path (set s.path.rtts.spans i x)))
  unfolding slot_rows
  code-span i x h =
      let e : spans_at + i ≡ samples_at + (16 + i) = omega arith in
      ap (λ (m : ℕ). set (slot_rows s) m (span_row x)) e
      ∙ at_tail tail (16 + i) (span_row x)
      ∙ ap (λ (l : List (List ℕ)). before (middle_rows s ++ l))
      (set-right (sample_rows s.path.rtts.samples) _ 16 i (span_row x) samples-long
      ∙ ap (λ (l : List (List ℕ)). sample_rows s.path.rtts.samples ++ l)
      (set-map' span_row s.path.rtts.spans i x))

  -- the rows from the middle on
  abbrev rest : List (List ℕ)
  rest = middle_rows s ++ tail

  -- a row of the middle changed
  store-one : (j : ℕ) (f : List ℕ → List ℕ) → set (slot_rows s) (12 + j) (f (row (slot_rows s) (12 + j))) ≡ before (set rest j (f (row rest j)))
  unfolding slot_rows
  store-one j f =
      ap (λ (r : List ℕ). set (slot_rows s) (12 + j) (f r)) (in-middle rest j) ∙ at-middle rest j (f (row rest j))

  -- two of them
  store_two : (j k : ℕ) (f g : List ℕ → List ℕ)
      → set (set (slot_rows s) (12 + j) (f (row (slot_rows s) (12 + j)))) (12 + k) (g (row (slot_rows s) (12 + k)))
      ≡ before (set (set rest j (f (row rest j))) k (g (row rest k)))
  unfolding slot_rows
  store_two j k f g =
      (λ i. set (store-one j f i) (12 + k) (g (in-middle rest k i)))
      ∙ at-middle (set rest j (f (row rest j))) k (g (row rest k))

  pub code-ids : (m : Ids) → set (slot_rows s) ids_at (ids_row m) ≡ slot_rows (on_path s (with_ids s.path m))
  unfolding slot_rows
  code-ids m = at-middle rest 0 (ids_row m)

  pub code-quiet : (m : Option ℕ)
      → set (slot_rows s) clocks_at (with_half (row (slot_rows s) clocks_at) false (tag m) (unwrap_or m 0))
      ≡ slot_rows (on_path s (with_quiet s.path m))
  unfolding slot_rows clocks_row
  code-quiet m = store-one 1 (λ r. with_half r false (tag m) (unwrap_or m 0))

  pub code-trip : (m : Option ℕ)
      → set (slot_rows s) trips_at (with_half (row (slot_rows s) trips_at) true (tag m) (unwrap_or m 0))
      ≡ slot_rows (on_path s (with_trip s.path m))
  unfolding slot_rows trips_row
  code-trip m = store-one 3 (λ r. with_half r true (tag m) (unwrap_or m 0))

  pub code-etx : (x : Float)
      → set (slot_rows s) trips_at (with_word (row (slot_rows s) trips_at) 1 (etx_bits x)) ≡ slot_rows (on_path s (with_etx s.path x))
  unfolding slot_rows trips_row
  code-etx x = store-one 3 (λ r. with_word r 1 (etx_bits x))

  pub code-ladder : (l : Ladder)
      → set (slot_rows s) search_at (with_word (row (slot_rows s) search_at) 3 (ladder_word l)) ≡ slot_rows (on_path s (with_ladder s.path l))
  unfolding slot_rows search_row
  code-ladder l = store-one 4 (λ r. with_word r 3 (ladder_word l))

  pub code-proven : (m : Option ℕ)
      → set (slot_rows s) search_at (with_word (row (slot_rows s) search_at) 2 (len_word m)) ≡ slot_rows (on_path s (with_proven s.path m))
  unfolding slot_rows search_row
  code-proven m = store-one 4 (λ r. with_word r 2 (len_word m))

  pub code-misses : (n : ℕ)
      → set (slot_rows s) marks_at (with_word (row (slot_rows s) marks_at) 3 n) ≡ slot_rows (on_path s (with_misses s.path n))
  unfolding slot_rows marks_row
  code-misses n = store-one 6 (λ r. with_word r 3 n)

  pub code-sizes : (x : Sizes)
      → set
      (set (slot_rows s) clocks_at (with_half (row (slot_rows s) clocks_at) true (tag x.seek.at) (unwrap_or x.seek.at 0)))
      search_at
      (with_word (with_half (row (slot_rows s) search_at) false (search_word x.seek) x.seek.lost) 2 (len_word x.proven))
      ≡ slot_rows (on_path s (with_sizes s.path x))
  unfolding slot_rows clocks_row search_row
  code-sizes x =
      store_two 1 4 (λ r. with_half r true (tag x.seek.at) (unwrap_or x.seek.at 0))
      (λ r. with_word (with_half r false (search_word x.seek) x.seek.lost) 2 (len_word x.proven))

  pub code-seek : (x : Seek)
      → set
      (set (slot_rows s) clocks_at (with_half (row (slot_rows s) clocks_at) true (tag x.at) (unwrap_or x.at 0)))
      search_at
      (with_half (row (slot_rows s) search_at) false (search_word x) x.lost)
      ≡ slot_rows (on_path s (with_seek_in s.path x))
  unfolding slot_rows clocks_row search_row
  code-seek x =
      store_two 1 4 (λ r. with_half r true (tag x.at) (unwrap_or x.at 0))
      (λ r. with_half r false (search_word x) x.lost)

  pub code-stop : (m : Option Stop)
      → set (set (slot_rows s) stop_at (stop_row m)) trips_at (with_word (row (slot_rows s) trips_at) 0 (until_word m))
      ≡ slot_rows (on_path s (with_stop s.path m))
  unfolding slot_rows trips_row
  code-stop m = store_two 2 3 (λ r. stop_row m) (λ r. with_word r 0 (until_word m))

  pub code-traffic : (t : Traffic)
      → set (set (slot_rows s) arrivals_at (arrivals_row t)) marks_at (with_word (row (slot_rows s) marks_at) 0 (count_word t))
      ≡ slot_rows (on_path s (with_traffic s.path t))
  unfolding slot_rows marks_row
  code-traffic t = store_two 5 6 (λ r. arrivals_row t) (λ r. with_word r 0 (count_word t))
