-- What a store leaves, of each part; and stores one after the other.
-- Assumes nothing.
use Rattle.stop.specs.declared.types.Stop.{Stop}
use Rattle.std.specs.Prelude.{Option, None, Result, unwrap_or}
use Rattle.base.specs.declared.types.Refusal.{Refusal}
use Prim.Native.Nat.{ℕ, ◌+◌, ◌/◌, ◌%◌, ◌^◌, ◌<◌, ◌≤◌}
use mathlib.Core.Path.{◌≡◌, refl, ap, sym, ◌∙◌, subst}
use mathlib.Core.Bool.{Bool, true, false}
use mathlib.Core.List.{List}
use native.Mathlib.Omega.{arith}
use borrow.Author.Tests.{ne_eqb}
use lib.Dec.{eqb}
use lib.Ieee.{Float}
use lib.ListN.{length, set, get_or, length-set}
use lib.Seq.{set_out, set-get_or}
use Rattle.base.proofs.Cases.{never}
use Rattle.ring.specs.Ring.{no_sent}
use Rattle.ring.specs.declared.types.Sent.{Sent}
use Rattle.ring.specs.declared.types.Ids.{Ids}
use Rattle.rtt.specs.declared.types.Sample.{Sample}
use Rattle.rtt.specs.declared.types.Span.{Span}
use Rattle.seek.specs.declared.types.Ladder.{Ladder}
use Rattle.seek.specs.declared.types.Seek.{Seek}
use Rattle.seek.specs.declared.types.Sizes.{Sizes}
use Rattle.live.specs.Path.{with_ring, with_late, with_ids, with_sizes, with_traffic, with_ladder, with_misses, with_etx}
use Rattle.live.specs.declared.types.Liveness.{Liveness}
use Rattle.live.specs.declared.types.Traffic.{Traffic}
use Rattle.rules.specs.declared.types.Label.{Label}
use Rattle.rules.specs.declared.types.Reply.{Reply}
use Rattle.rules.specs.declared.types.Turn.{Turn}
use Rattle.rules.specs.Rules.{turn}
use Rattle.base.specs.Missing.{tag}
use Rattle.total.specs.Patterns.{etx_bits}
use Rattle.cells.specs.Cells.{sent_in, ids_in, sizes_in, ladder_in, traffic_in, misses_in, etx_in, span_in, label_in, used_in, word, id_in}
use Rattle.cells.specs.Cells.{length_in, with_word, with_half, with_bit, with_id}
use Rattle.cells.specs.Code.{id_word, len_word, sent_row, ids_row, stop_row, until_word, search_word, ladder_word, arrivals_row, count_word}
use Rattle.cells.specs.Code.{span_row}
use Rattle.cells.proofs.PartLaws.{id-put, id-coded}
use Rattle.cells.proofs.RowLaws.{instant-says, stop-says, sizes-same, traffic-same, misses-same}
use Rattle.cells.proofs.SampleLaws.{is_last}
use Rattle.rows.specs.Places.{row_count, ids_at, clocks_at, stop_at, trips_at, search_at, arrivals_at, marks_at, samples_at, spans_at}
use Rattle.rows.specs.Parts.{moved, with_proven, with_seek_in, with_quiet, with_stop, with_samples, with_spans, with_trip}
use Rattle.rows.specs.View.{row, cell, with_cell, path_in, marks_in, slot_in}
use Rattle.rows.specs.Encode.{slot_rows, IsCoded}
use Rattle.rows.specs.Says.{Says, Turns, is_refused}
use Rattle.rows.proofs.BlockLaws.{row_other, row_same}
use Rattle.rows.proofs.CodeLaws as code
use Rattle.rows.proofs.CodeLaws.{Long, on_path}
use Rattle.rows.proofs.ViewLaws as view
use Rattle.rows.proofs.ViewLaws.{store_sample}

-- ---- one after the other

-- nothing stored
pub says_none : {a : List (List ℕ)} {q : Liveness} → path_in a ≡ q → Says a a q
says_none e = record { path = e; marks = refl; coded = λ c. c }

-- two stores
pub says_then : {a b c : List (List ℕ)} {q r : Liveness} → Says a b q → Says b c r → Says a c r
says_then s t = record { path = t.path; marks = t.marks ∙ s.marks; coded = λ c. t.coded (s.coded c) }

-- the path by another name
pub says-as : {a b : List (List ℕ)} {q r : Liveness} → Says a b q → q ≡ r → Says a b r
says-as s e = record { path = s.path ∙ e; marks = s.marks; coded = s.coded }

-- the identifiers m stored by the one of them that changed
pub says-after : {a b : List (List ℕ)} {m o : Ids} (k : ℕ) (x : Ids → Option ℕ) → m ≡ o → with_id (path_in a).ids k (x o) ≡ o
    → Says a b (with_ids (path_in a) (with_id (path_in a).ids k (x m))) → Says a b (with_ids (path_in a) m)
says-after {a} k x e f s =
    says-as s
    (ap (λ (z : Ids). with_ids (path_in a) (with_id (path_in a).ids k (x z))) e
    ∙ ap (λ (z : Ids). with_ids (path_in a) z) (f ∙ sym e))

-- a path stored, and an answer that is none of the refusals
pub turns-by : {a b : List (List ℕ)} {q : Liveness} {x y : Result Reply Refusal} → Says a b q → x ≡ y → is_refused x ≡ false
    → Turns a b x (turn (slot_in a) q y)
turns-by {a} {b} {q} {x} {y} s e f =
    record {
      answer = e;
      slot = λ k. record { path = s.path k; label = (s.marks k).1; used = (s.marks k).0 };
      coded = s.coded;
      left = λ g. never g f;
    }

-- nothing stored
pub turns-none : {a : List (List ℕ)} {x y : Result Reply Refusal} {q : Liveness} → x ≡ y → path_in a ≡ q → Turns a a x (turn (slot_in a) q y)
turns-none {a} {x} {y} {q} e f =
    record {
      answer = e;
      slot = λ k. record { path = f k; label = label_in (cell a marks_at 2); used = used_in (cell a marks_at 2) };
      coded = λ c. c;
      left = λ g. refl;
    }

-- the turn by another name
pub turns_as : {a b : List (List ℕ)} {x : Result Reply Refusal} {t u : Turn} → Turns a b x t → t ≡ u → Turns a b x u
turns_as s e =
    record {
      answer = s.answer ∙ ap (λ (z : Turn). z.reply) e;
      slot = s.slot ∙ ap (λ (z : Turn). z.slot) e;
      coded = s.coded;
      left = s.left;
    }

-- ---- each part

-- a list's places as long as the rows make them
pub long-rows : (p : List (List ℕ)) → length p ≡ row_count → Long (path_in p)
long-rows p n =
    record { ring = view.ring-length p n; late = view.late-length p n; samples = view.samples-length p n; spans = view.spans-length p n }

-- what follows of a store that changes the path to q and leaves the marks
made : (p r : List (List ℕ)) (q : Liveness) → path_in r ≡ q → marks_in r ≡ marks_in p
    → (slot_rows (slot_in p) ≡ p → slot_rows (on_path (slot_in p) q) ≡ r) → Says p r q
made p r q e f g =
    record {
      path = e;
      marks = f;
      coded = λ c. (λ k. slot_rows (record { path = e k; label = (f k).1; used = (f k).0 })) ∙ g c;
    }

-- the marks that a row says
abbrev marks_of : List ℕ → Bool × Label
marks_of r = (used_in (word r 2), label_in (word r 2))

-- those of equal rows
marks-row : {u v : List ℕ} → u ≡ v → marks_of u ≡ marks_of v
marks-row e = ap marks_of e

-- one row stored, which is r' where the rows were the encoder's
one : (p : List (List ℕ)) (k : ℕ) (r r' : List ℕ) (q : Liveness) → eqb marks_at k ≡ false → path_in (set p k r) ≡ q
    → set (slot_rows (slot_in p)) k r' ≡ slot_rows (on_path (slot_in p) q) → (IsCoded p → r ≡ r') → Says p (set p k r) q
one p k r r' q h e f g =
    made p (set p k r) q e (marks-row (row_other p k r marks_at h)) (λ c. sym f ∙ (λ j. set (c j) k (sym (g c) j)))

-- a row that was made whole is the encoder's whatever the rows were
pub whole : {p : List (List ℕ)} {r r' : List ℕ} {A : Type 0} → (r ≡ r') × A → (IsCoded p → r ≡ r') × A
whole e = (λ c. e.0, e.1)

module _ (p : List (List ℕ)) (n : length p ≡ row_count) (r : List ℕ) where
  pub says-ids : {m : Ids} → (IsCoded p → r ≡ ids_row m) × (ids_in r ≡ m) → Says p (set p ids_at r) (with_ids (path_in p) m)
  says-ids {m} e =
      one p ids_at r _ (with_ids (path_in p) m) refl (view.view-ids p n r e.1)
      (code.code-ids (slot_in p) (long-rows p n) m) e.0

  pub says-ring : {i : ℕ} {s : Sent} → i < 8 → (IsCoded p → r ≡ sent_row s) × (sent_in r ≡ s)
      → Says p (set p i r) (with_ring (path_in p) (set (path_in p).ring i s))
  says-ring {i} {s} h e =
      one p i r _ (with_ring (path_in p) (set (path_in p).ring i s)) (ne_eqb marks_at i (λ q. absurd (omega arith)))
      (view.view-ring p r h e.1)
      (code.code-ring (slot_in p) (long-rows p n) i s h) e.0

  pub says-late : {i : ℕ} {s : Sent} → i < 4 → (IsCoded p → r ≡ sent_row s) × (sent_in r ≡ s)
      → Says p (set p (8 + i) r) (with_late (path_in p) (set (path_in p).late i s))
  says-late {i} {s} h e =
      one p (8 + i) r _ (with_late (path_in p) (set (path_in p).late i s)) (ne_eqb marks_at (8 + i) (λ q. absurd (omega arith)))
      (view.view-late p r h e.1)
      (code.code-late (slot_in p) (long-rows p n) i s h) e.0

  pub says-span : {i : ℕ} {s : Span} → i < 8 → (IsCoded p → r ≡ span_row s) × (span_in r ≡ s)
      → Says p (set p (spans_at + i) r) (with_spans (path_in p) (set (path_in p).rtts.spans i s))
  says-span {i} {s} h e =
      one p (spans_at + i) r _ (with_spans (path_in p) (set (path_in p).rtts.spans i s)) (ne_eqb marks_at (spans_at + i) (λ q. absurd (omega arith)))
      (view.view-span p r h e.1)
      (code.code-span (slot_in p) (long-rows p n) i s h) e.0

-- a sample stored, with its mark
pub says-sample : (p : List (List ℕ)) → length p ≡ row_count → (i : ℕ) (s : Sample) → i < 32
    → Says p (store_sample p i s) (with_samples (path_in p) (set (path_in p).rtts.samples i s))
says-sample p n i s h =
    let z : ℕ = samples_at + i / 2 in
    let u : List ℕ = with_half (row p z) (is_last i) s.at s.rtt in
    let v : List ℕ = with_word (row p marks_at) 1 (with_bit (cell p marks_at 1) i s.used) in
    let e : row (set (set p z u) marks_at v) marks_at ≡ v = row_same (set p z u) marks_at v (omega (arith, length-set p z u)) in
    made p (store_sample p i s) (with_samples (path_in p) (set (path_in p).rtts.samples i s)) (view.view-sample p n i s h)
    (marks-row e)
    (λ c. sym (code.code-sample (slot_in p) (long-rows p n) i s h) ∙ (λ j. store_sample (c j) i s))

-- the same of rows that were made so
pub put-sample : (p : List (List ℕ)) → length p ≡ row_count → (i : ℕ) (s : Sample) → i < 32 → {u v : List ℕ} {w : ℕ}
    → u ≡ with_half (row p (samples_at + i / 2)) (is_last i) s.at s.rtt → w ≡ with_bit (cell p marks_at 1) (i % 64) s.used
    → v ≡ with_word (row p marks_at) 1 w
    → Says p (set (set p (samples_at + i / 2) u) marks_at v) (with_samples (path_in p) (set (path_in p).rtts.samples i s))
put-sample p n i s h {u} {v} {w} a b c =
    let e : i % 64 ≡ i = omega arith in
    let d : v ≡ with_word (row p marks_at) 1 (with_bit (cell p marks_at 1) i s.used) =
    c ∙ ap (λ (x : ℕ). with_word (row p marks_at) 1 x) (b ∙ ap (λ (x : ℕ). with_bit (cell p marks_at 1) x s.used) e) in
    subst (λ (z : List (List ℕ)). Says p z (with_samples (path_in p) (set (path_in p).rtts.samples i s)))
    (sym (λ j. set (set p (samples_at + i / 2) (a j)) marks_at (d j))) (says-sample p n i s h)

-- ---- rows of the encoder's

module _ (p : List (List ℕ)) (n : length p ≡ row_count) where
  -- the row at a place where r stored over the encoder's rows is no change
  coded-row : (k : ℕ) (r : List ℕ) → k < row_count → set (slot_rows (slot_in p)) k r ≡ slot_rows (slot_in p) → IsCoded p → row p k ≡ r
  coded-row k r h e c =
      let z : set p k r ≡ p = ap (λ (x : List (List ℕ)). set x k r) (sym c) ∙ e ∙ c in
      ap (λ (x : List (List ℕ)). row x k) (sym z) ∙ row_same p k r (omega arith)

  -- what a store F leaves that makes the path q, and of the encoder's rows those of q
  kept : (f : List (List ℕ) → List (List ℕ)) (q : Liveness) → path_in (f p) ≡ q → marks_in (f p) ≡ marks_in p
      → f (slot_rows (slot_in p)) ≡ slot_rows (on_path (slot_in p) q) → Says p (f p) q
  kept f q e g h = made p (f p) q e g (λ c. sym h ∙ ap f c)

  -- a row by what it is
  into : (k : ℕ) {r r' : List ℕ} (q : Liveness) → r ≡ r' → Says p (set p k r') q → Says p (set p k r) q
  into k q e s = subst (λ (z : List ℕ). Says p (set p k z) q) (sym e) s

  -- two rows
  into-two : (k l : ℕ) {a a' b b' : List ℕ} (q : Liveness) → a ≡ a' → b ≡ b' → Says p (set (set p k a') l b') q
      → Says p (set (set p k a) l b) q
  into-two k l q e f s = subst (λ (z : List (List ℕ)). Says p z q) (sym (λ j. set (set p k (e j)) l (f j))) s

  -- the marks where other rows are stored
  off : (k : ℕ) (r : List ℕ) → eqb marks_at k ≡ false → marks_in (set p k r) ≡ marks_in p
  off k r h = marks-row (row_other p k r marks_at h)

  off-two : (k l : ℕ) (a b : List ℕ) → eqb marks_at k ≡ false → eqb marks_at l ≡ false → marks_in (set (set p k a) l b) ≡ marks_in p
  off-two k l a b h i = marks-row (row_other (set p k a) l b marks_at i ∙ row_other p k a marks_at h)

  long : Long (path_in p)
  long = long-rows p n

  -- the silence clock stored in its words
  pub put-quiet : {m : Option ℕ} {a b : ℕ} {r : List ℕ} → a ≡ tag m → b ≡ unwrap_or m 0
      → r ≡ with_half (row p clocks_at) false a b → Says p (set p clocks_at r) (with_quiet (path_in p) m)
  put-quiet {m} e f g =
      into clocks_at (with_quiet (path_in p) m) (g ∙ (λ j. with_half (row p clocks_at) false (e j) (f j)))
      (kept (λ x. set x clocks_at (with_half (row x clocks_at) false (tag m) (unwrap_or m 0))) (with_quiet (path_in p) m)
      (view.view-quiet p n (tag m) (unwrap_or m 0) ∙ ap (λ (x : Option ℕ). with_quiet (path_in p) x) (instant-says m))
      (off clocks_at _ refl) (code.code-quiet (slot_in p) long m))

  -- the latest round trip
  pub put-trip : {m : Option ℕ} {a b : ℕ} {r : List ℕ} → a ≡ tag m → b ≡ unwrap_or m 0
      → r ≡ with_half (row p trips_at) true a b → Says p (set p trips_at r) (with_trip (path_in p) m)
  put-trip {m} e f g =
      into trips_at (with_trip (path_in p) m) (g ∙ (λ j. with_half (row p trips_at) true (e j) (f j)))
      (kept (λ x. set x trips_at (with_half (row x trips_at) true (tag m) (unwrap_or m 0))) (with_trip (path_in p) m)
      (view.view-trip p n (tag m) (unwrap_or m 0) ∙ ap (λ (x : Option ℕ). with_trip (path_in p) x) (instant-says m))
      (off trips_at _ refl) (code.code-trip (slot_in p) long m))

  -- the ETX
  pub put-etx : {x : Float} {w : ℕ} {b : List (List ℕ)} → (w ≡ etx_bits x) × (etx_in w ≡ x) → b ≡ with_cell p trips_at 1 w
      → Says p b (with_etx (path_in p) x)
  put-etx {x} {w} e f =
      subst (λ (z : List (List ℕ)). Says p z (with_etx (path_in p) x)) (sym (f ∙ ap (λ (y : ℕ). with_cell p trips_at 1 y) e.0))
      (kept (λ y. with_cell y trips_at 1 (etx_bits x)) (with_etx (path_in p) x)
      (view.view-etx p n (etx_bits x) ∙ ap (λ (y : Float). with_etx (path_in p) y) (ap etx_in (sym e.0) ∙ e.1))
      (off trips_at _ refl) (code.code-etx (slot_in p) long x))

  -- the ladder
  pub put-ladder : {l : Ladder} {w : ℕ} {r : List ℕ} → (w ≡ ladder_word l) × (ladder_in w ≡ l) → r ≡ with_word (row p search_at) 3 w
      → Says p (set p search_at r) (with_ladder (path_in p) l)
  put-ladder {l} {w} e f =
      into search_at (with_ladder (path_in p) l) (f ∙ ap (λ (y : ℕ). with_word (row p search_at) 3 y) e.0)
      (kept (λ y. set y search_at (with_word (row y search_at) 3 (ladder_word l))) (with_ladder (path_in p) l)
      (view.view-ladder p n (ladder_word l) ∙ ap (λ (y : Ladder). with_ladder (path_in p) y) (ap ladder_in (sym e.0) ∙ e.1))
      (off search_at _ refl) (code.code-ladder (slot_in p) long l))

  -- the proven size
  pub put-proven : {m : Option ℕ} {w : ℕ} {r : List ℕ} → (w ≡ len_word m) × (length_in w ≡ m) × (w ≤ 65536)
      → r ≡ with_word (row p search_at) 2 w → Says p (set p search_at r) (with_proven (path_in p) m)
  put-proven {m} {w} e f =
      into search_at (with_proven (path_in p) m) (f ∙ ap (λ (y : ℕ). with_word (row p search_at) 2 y) e.0)
      (kept (λ y. set y search_at (with_word (row y search_at) 2 (len_word m))) (with_proven (path_in p) m)
      (view.view-proven p n (len_word m) ∙ ap (λ (y : Option ℕ). with_proven (path_in p) y) (ap length_in (sym e.0) ∙ e.1))
      (off search_at _ refl) (code.code-proven (slot_in p) long m))

  -- the misses
  pub put-misses : {m w : ℕ} {r : List ℕ} → (w ≡ m) × (w < 2 ^ 32) → r ≡ with_word (row p marks_at) 3 w
      → Says p (set p marks_at r) (with_misses (path_in p) m)
  put-misses {m} {w} e f =
      into marks_at (with_misses (path_in p) m) (f ∙ ap (λ (y : ℕ). with_word (row p marks_at) 3 y) e.0)
      (kept (λ y. set y marks_at (with_word (row y marks_at) 3 m)) (with_misses (path_in p) m)
      (view.view-misses p n m ∙ ap (λ (y : ℕ). with_misses (path_in p) y) (ap misses_in (sym e.0) ∙ misses-same e))
      (marks-row (row_same p marks_at (with_word (row p marks_at) 3 m) (omega arith))) (code.code-misses (slot_in p) long m))

  -- the sizes
  pub put-sizes : {s : Sizes} {a b c d e : ℕ} {u v r : List ℕ} → a ≡ tag s.seek.at → b ≡ unwrap_or s.seek.at 0
      → (c ≡ search_word s.seek) × (c % 2 ^ 32 ≡ s.seek.probe_id) × (c / 2 ^ 32 % 65536 ≡ s.seek.len)
      → (d ≡ s.seek.lost) × (d < 65536) → (e ≡ len_word s.proven) × (length_in e ≡ s.proven) × (e ≤ 65536)
      → u ≡ with_half (row p clocks_at) true a b → v ≡ with_half (row p search_at) false c d → r ≡ with_word v 2 e
      → Says p (set (set p clocks_at u) search_at r) (with_sizes (path_in p) s)
  put-sizes {s} {a} {b} {c} {d} {e} {u} {v} {r} i j k l m x y z =
      into-two clocks_at search_at (with_sizes (path_in p) s)
      (x ∙ (λ t. with_half (row p clocks_at) true (i t) (j t)))
      (z ∙ (λ t. with_word (y t) 2 e) ∙ (λ t. with_word (with_half (row p search_at) false (k.0 t) (l.0 t)) 2 (m.0 t)))
      (kept
      (λ q. set (set q clocks_at (with_half (row q clocks_at) true (tag s.seek.at) (unwrap_or s.seek.at 0))) search_at
      (with_word (with_half (row q search_at) false (search_word s.seek) s.seek.lost) 2 (len_word s.proven)))
      (with_sizes (path_in p) s)
      (view.view-sizes p n _ _ _ _ _
      ∙ ap (λ (q : Sizes). with_sizes (path_in p) q)
      ((λ t. sizes_in (tag s.seek.at) (unwrap_or s.seek.at 0) (sym k.0 t) (sym l.0 t) (sym m.0 t))
      ∙ sizes-same s c d e k.1 k.2 l m.1))
      (off-two clocks_at search_at _ _ refl refl) (code.code-sizes (slot_in p) long s))

  -- the search
  pub put-seek : {s : Seek} {a b c d : ℕ} {u r : List ℕ} → a ≡ tag s.at → b ≡ unwrap_or s.at 0
      → (c ≡ search_word s) × (c % 2 ^ 32 ≡ s.probe_id) × (c / 2 ^ 32 % 65536 ≡ s.len)
      → (d ≡ s.lost) × (d < 65536) → u ≡ with_half (row p clocks_at) true a b → r ≡ with_half (row p search_at) false c d
      → Says p (set (set p clocks_at u) search_at r) (with_seek_in (path_in p) s)
  put-seek {s} {a} {b} {c} {d} {u} {r} i j k l x y =
      let z : Sizes = record { seek = s; proven = None } in
      into-two clocks_at search_at (with_seek_in (path_in p) s)
      (x ∙ (λ t. with_half (row p clocks_at) true (i t) (j t)))
      (y ∙ (λ t. with_half (row p search_at) false (k.0 t) (l.0 t)))
      (kept
      (λ q. set (set q clocks_at (with_half (row q clocks_at) true (tag s.at) (unwrap_or s.at 0))) search_at
      (with_half (row q search_at) false (search_word s) s.lost))
      (with_seek_in (path_in p) s)
      (view.view-seek p n _ _ _ _
      ∙ ap (λ (q : Sizes). with_seek_in (path_in p) q.seek)
      ((λ t. sizes_in (tag s.at) (unwrap_or s.at 0) (sym k.0 t) (sym l.0 t) 0)
      ∙ sizes-same z c d 0 k.1 k.2 l refl))
      (off-two clocks_at search_at _ _ refl refl) (code.code-seek (slot_in p) long s))

  -- the stop
  pub put-stop : {m : Option Stop} {w : ℕ} {a r : List ℕ} → a ≡ stop_row m → w ≡ until_word m → r ≡ with_word (row p trips_at) 0 w
      → Says p (set (set p stop_at a) trips_at r) (with_stop (path_in p) m)
  put-stop {m} e f g =
      into-two stop_at trips_at (with_stop (path_in p) m) e (g ∙ ap (λ (y : ℕ). with_word (row p trips_at) 0 y) f)
      (kept (λ q. set (set q stop_at (stop_row m)) trips_at (with_word (row q trips_at) 0 (until_word m))) (with_stop (path_in p) m)
      (view.view-stop p n (stop_row m) (until_word m) ∙ ap (λ (y : Option Stop). with_stop (path_in p) y) (stop-says m))
      (off-two stop_at trips_at _ _ refl refl) (code.code-stop (slot_in p) long m))

  -- the traffic
  pub put-traffic : {t : Traffic} {w : ℕ} {a r : List ℕ} → a ≡ arrivals_row t
      → (w ≡ count_word t) × (w % 2 ^ 32 ≡ t.frames) × (w / 2 ^ 32 % 2 ^ 32 ≡ t.bytes) → r ≡ with_word (row p marks_at) 0 w
      → Says p (set (set p arrivals_at a) marks_at r) (with_traffic (path_in p) t)
  put-traffic {t} {w} e f g =
      let v : List ℕ = with_word (row p marks_at) 0 (count_word t) in
      let q : List (List ℕ) = set p arrivals_at (arrivals_row t) in
      into-two arrivals_at marks_at (with_traffic (path_in p) t) e (g ∙ ap (λ (y : ℕ). with_word (row p marks_at) 0 y) f.0)
      (kept (λ x. set (set x arrivals_at (arrivals_row t)) marks_at (with_word (row x marks_at) 0 (count_word t))) (with_traffic (path_in p) t)
      (view.view-traffic p n (arrivals_row t) (count_word t)
      ∙ ap (λ (y : Traffic). with_traffic (path_in p) y)
      (ap (traffic_in (arrivals_row t)) (sym f.0) ∙ traffic-same t w f.1 f.2))
      (marks-row (row_same q marks_at v (omega (arith, length-set p arrivals_at (arrivals_row t))))) (code.code-traffic (slot_in p) long t))

  -- one of the identifiers stored
  pub says-id : (k : ℕ) {w : ℕ} {m : Option ℕ} {r : List ℕ} → (w ≡ id_word m) × (id_in w ≡ m) → r ≡ with_word (row p ids_at) k w
      → Says p (set p ids_at r) (with_ids (path_in p) (with_id (path_in p).ids k m))
  unfolding path_in
  says-id k {w} {m} {r} e f =
      says-ids p n r (
        λ c. f ∙ id-coded k w m (row p ids_at) (path_in p).ids (coded-row ids_at _ (omega arith) (code.code-ids (slot_in p) (long-rows p n) (path_in p).ids) c) e.0,
        ap ids_in f ∙ id-put k w m (row p ids_at) e.1,
      )

  pub coded-ring : (i : ℕ) → i < 8 → IsCoded p → row p i ≡ sent_row (get_or (path_in p).ring i no_sent)
  coded-ring i h =
      coded-row i _ (omega arith)
      (code.code-ring (slot_in p) (long-rows p n) i (get_or (path_in p).ring i no_sent) h
      ∙ ap (λ (l : List Sent). slot_rows (on_path (slot_in p) (with_ring (path_in p) l))) (set-get_or (path_in p).ring i no_sent))

  pub coded-late : (i : ℕ) → i < 4 → IsCoded p → row p (8 + i) ≡ sent_row (get_or (path_in p).late i no_sent)
  coded-late i h =
      coded-row (8 + i) _ (omega arith)
      (code.code-late (slot_in p) (long-rows p n) i (get_or (path_in p).late i no_sent) h
      ∙ ap (λ (l : List Sent). slot_rows (on_path (slot_in p) (with_late (path_in p) l))) (set-get_or (path_in p).late i no_sent))

-- ---- places that are not there

module _ (p : List (List ℕ)) (n : length p ≡ row_count) {i : ℕ} where
  pub past-ring : (s : Sent) → 8 ≤ i → Says p p (with_ring (path_in p) (set (path_in p).ring i s))
  past-ring s h =
      says_none (ap (λ (l : List Sent). with_ring (path_in p) l) (sym (set_out (path_in p).ring i s (omega (arith, (long-rows p n).ring)))))

  pub none-ring : {q : List (List ℕ)} {x : Sent} (to : ℕ) → 8 ≤ i → x ≡ no_sent
      → Says p q (with_ring (path_in p) (set (path_in p).ring to x)) → Says p q (with_ring (path_in p) (moved (path_in p).ring i to))
  none-ring {q} {x} to h e s =
      says-as s (ap (λ (y : Sent). with_ring (path_in p) (set (path_in p).ring to y)) (view.ring-past p n h e))

  pub past-late : (s : Sent) → 4 ≤ i → Says p p (with_late (path_in p) (set (path_in p).late i s))
  past-late s h =
      says_none (ap (λ (l : List Sent). with_late (path_in p) l) (sym (set_out (path_in p).late i s (omega (arith, (long-rows p n).late)))))

  pub none-late : {q : List (List ℕ)} {x : Sent} (to : ℕ) → 4 ≤ i → x ≡ no_sent
      → Says p q (with_late (path_in p) (set (path_in p).late to x)) → Says p q (with_late (path_in p) (moved (path_in p).late i to))
  none-late {q} {x} to h e s =
      says-as s (ap (λ (y : Sent). with_late (path_in p) (set (path_in p).late to y)) (view.late-past p n h e))

  pub past-sample : (s : Sample) → 32 ≤ i → Says p p (with_samples (path_in p) (set (path_in p).rtts.samples i s))
  past-sample s h =
      says_none (ap (λ (l : List Sample). with_samples (path_in p) l) (sym (set_out (path_in p).rtts.samples i s (omega (arith, (long-rows p n).samples)))))

  pub past-span : (s : Span) → 8 ≤ i → Says p p (with_spans (path_in p) (set (path_in p).rtts.spans i s))
  past-span s h =
      says_none (ap (λ (l : List Span). with_spans (path_in p) l) (sym (set_out (path_in p).rtts.spans i s (omega (arith, (long-rows p n).spans)))))
