-- What the stores of each event on round trips, ETX and data leave.
-- Assumes nothing.
use Rattle.std.proofs.Common.{◌≡◌, ℕ, ◌+◌, ◌%◌, ◌^◌, ◌<◌, ◌≤◌, Bool, true, false, T, List, length, get_or, set, sym, refl, ap, ◌∙◌, le-ltb, lt-ltb, le-leb, Some, Ok}
use borrow.Author.Tests.{lt-leb}
use lib.Ieee.{Float, nan, inf, fin, binary64, fits, of_bits, to_bits, le, is_nan}
use Rattle.etx.specs.Etx.{one, fold_of}
use Rattle.etx.proofs.WithinLaws.{fold-within}
use Rattle.total.specs.Patterns.{etx_bits}
use Rattle.cells.proofs.RowLaws.{etx-says}
use Rattle.rtt.specs.Samples.{kept_samples, sample_place, new_sample, with_sample}
use Rattle.rtt.specs.Spans.{no_span, kept_spans, newest_span, span_place, joins_of, joined_of, new_span, opened_of, entered_of}
use Rattle.rtt.specs.Spans.{span_of}
use Rattle.rtt.specs.declared.types.Span.{Span}
use Rattle.live.specs.Path.{with_traffic, with_etx}
use Rattle.live.specs.Times.{sample_of, folded_of, heard_of, carried_of}
use Rattle.live.specs.declared.types.Liveness.{Liveness}
use Rattle.live.specs.declared.types.Traffic.{Traffic}
use Rattle.rules.specs.Rules.{turn}
use Rattle.rules.specs.declared.types.Reply.TheVariants as reply
use Rattle.rows.specs.Places.{row_count, trips_at}
use Rattle.rows.specs.Parts.{with_samples, with_spans, with_trip}
use Rattle.rows.specs.View.{with_cell, path_in, slot_in}
use Rattle.rows.specs.Says.{Says, Turns}
use Rattle.rows.proofs.SaysLaws.{says_then, says-as, put-etx, turns-by, turns-none}

-- ---- data

module _ (a : List (List ℕ)) {b : List (List ℕ)} (n now : ℕ) {t : Traffic} (e : t ≡ (path_in a).traffic) where
  -- a frame that is too long is carried alone
  pub received-over : 65535 < n
      → Says a b
      (with_traffic (path_in a)
      (record { heard_at = t.heard_at; data_at = Some now; frames = t.frames; bytes = t.bytes }))
      → Turns a b (Ok reply.Nothing)
      (turn (slot_in a) (carried_of (heard_of (path_in a) n now).path now) (Ok reply.Nothing))
  unfolding heard_of
  received-over h w =
      turns-by
      (says-as w
      (rw (lt-ltb 65535 n h)
      (ap
      (λ (x : Traffic).
      with_traffic (path_in a)
      (record { heard_at = x.heard_at; data_at = Some now; frames = x.frames; bytes = x.bytes }))
      e)))
      refl refl

  -- any other is heard and carried
  pub received-made : {f g : ℕ} → n ≤ 65535 → f ≡ (t.frames + 1) % 2 ^ 32 → g ≡ (t.bytes + n) % 2 ^ 32
      → Says a b
      (with_traffic (path_in a)
      (record { heard_at = Some now; data_at = Some now; frames = f; bytes = g }))
      → Turns a b (Ok reply.Nothing)
      (turn (slot_in a) (carried_of (heard_of (path_in a) n now).path now) (Ok reply.Nothing))
  unfolding heard_of
  received-made {f} {g} h p q w =
      let p' : f ≡ ((path_in a).traffic.frames + 1) % 2 ^ 32 =
      p ∙ ap (λ (x : Traffic). (x.frames + 1) % 2 ^ 32) e in
      let q' : g ≡ ((path_in a).traffic.bytes + n) % 2 ^ 32 = q ∙ ap (λ (x : Traffic). (x.bytes + n) % 2 ^ 32) e in
      turns-by
      (says-as w
      (rw (le-ltb 65535 n h)
      (λ j.
      with_traffic (path_in a)
      (record { heard_at = Some now; data_at = Some now; frames = p' j; bytes = q' j }))))
      refl refl

-- ---- fold

-- what is at least 1 is no NaN
real : (x : Float) → le one x ≡ true → is_nan x ≡ false
unfolding le is_nan of_bits
real nan h = sym h
real (inf s) h = refl
real (fin s m k) h = refl

-- what a fold gives is no NaN
pub fold-real : (on : Bool) (x : Float) {y : Float} → y ≡ fold_of x on → is_nan y ≡ false
fold-real on x e = ap is_nan e ∙ real (fold_of x on) (fold-within x on).low

-- its pattern stored
pub etx-stored : (a : List (List ℕ)) → length a ≡ row_count → {x : Float} {b : List (List ℕ)} → T (fits binary64 x)
    → is_nan x ≡ false → b ≡ with_cell a trips_at 1 (to_bits binary64 x) → Says a b (with_etx (path_in a) x)
etx-stored a n {x} h e f =
    let z : etx_bits x ≡ to_bits binary64 x = rw e in
    put-etx a n {w = etx_bits x} (refl, etx-says x h) (f ∙ ap (λ (w : ℕ). with_cell a trips_at 1 w) (sym z))

-- the ETX stored
pub fold-made : {a b : List (List ℕ)} (on : Bool) {x y : Float} → x ≡ (path_in a).etx → y ≡ fold_of x on
    → Says a b (with_etx (path_in a) y)
    → Turns a b (Ok reply.Nothing) (turn (slot_in a) (folded_of (path_in a) on) (Ok reply.Nothing))
fold-made {a} {b} on e f w =
    turns-by (says-as w (ap (with_etx (path_in a)) (f ∙ ap (λ (z : Float). fold_of z on) e))) refl refl

-- ---- sample

-- the samples: those older than the window dropped, then one more stored
pub window-made : {a b c : List (List ℕ)} (now x window : ℕ) {slot : ℕ}
    → Says a b (with_samples (path_in a) (kept_samples now window (path_in a).rtts.samples))
    → slot ≡ sample_place (path_in b).rtts.samples
    → Says b c (with_samples (path_in b) (set (path_in b).rtts.samples slot (new_sample now x)))
    → Says a c (with_samples (path_in a) (with_sample now x window (path_in a).rtts.samples))
unfolding with_sample
window-made {a} {b} {c} now x window {slot} u e v =
    let f : (path_in b).rtts.samples ≡ kept_samples now window (path_in a).rtts.samples =
    ap (λ (z : Liveness). z.rtts.samples) u.path in
    says-as (says_then u v)
    (ap (λ (z : Liveness). with_samples z (set (path_in b).rtts.samples slot (new_sample now x))) u.path
    ∙ (λ j. with_samples (path_in a) (set (f j) ((e ∙ ap sample_place f) j) (new_sample now x))))

-- a span opened
pub span-opened : {a b : List (List ℕ)} (now x : ℕ) {slot : ℕ} → slot ≡ span_place (path_in a).rtts.spans
    → Says a b (with_spans (path_in a) (set (path_in a).rtts.spans slot (new_span now x)))
    → Says a b (with_spans (path_in a) (opened_of now x (path_in a).rtts.spans))
span-opened {a} {b} now x e u =
    says-as u (ap (λ (k : ℕ). with_spans (path_in a) (set (path_in a).rtts.spans k (new_span now x))) e)

module _ {a b : List (List ℕ)} (now x horizon : ℕ) {slot : ℕ} {s : Span}
    (u : Says a b (with_spans (path_in a) (kept_spans now horizon (path_in a).rtts.spans)))
    (e : slot ≡ newest_span (path_in b).rtts.spans) (g : s ≡ get_or (path_in b).rtts.spans slot no_span) where
  -- the spans after those past the horizon were dropped
  left : (path_in b).rtts.spans ≡ kept_spans now horizon (path_in a).rtts.spans
  left = ap (λ (z : Liveness). z.rtts.spans) u.path

  -- the newest
  there : s ≡ get_or (path_in b).rtts.spans (newest_span (path_in b).rtts.spans) no_span
  there = g ∙ ap (λ (k : ℕ). get_or (path_in b).rtts.spans k no_span) e

  -- the spans after one more sample
  entered : {l : List Span} → l ≡ entered_of now x horizon (path_in b).rtts.spans
      → l ≡ span_of now x horizon (path_in a).rtts.spans
  unfolding span_of
  entered f = f ∙ ap (entered_of now x horizon) left

  -- the sample joins the newest
  pub span-joined : {c : List (List ℕ)} {t : Span} → joins_of now horizon s ≡ true → t ≡ joined_of now x s
      → Says b c (with_spans (path_in b) (set (path_in b).rtts.spans slot t))
      → Says a c (with_spans (path_in a) (span_of now x horizon (path_in a).rtts.spans))
  span-joined {c} {t} q f v =
      let m : List Span = set (path_in b).rtts.spans slot t in
      let w : m ≡ entered_of now x horizon (path_in b).rtts.spans =
      rw (ap (joins_of now horizon) (sym there) ∙ q)
      (λ j. set (path_in b).rtts.spans (e j) ((f ∙ ap (joined_of now x) there) j)) in
      says-as (says_then u v)
      (ap (λ (z : Liveness). with_spans z m) u.path ∙ ap (with_spans (path_in a)) (entered w))

  -- or opens a span
  pub span-started : {c : List (List ℕ)} → joins_of now horizon s ≡ false
      → Says b c (with_spans (path_in b) (opened_of now x (path_in b).rtts.spans))
      → Says a c (with_spans (path_in a) (span_of now x horizon (path_in a).rtts.spans))
  span-started q v =
      let m : List Span = opened_of now x (path_in b).rtts.spans in
      let w : m ≡ entered_of now x horizon (path_in b).rtts.spans =
      rw (ap (joins_of now horizon) (sym there) ∙ q) refl in
      says-as (says_then u v)
      (ap (λ (z : Liveness). with_spans z m) u.path ∙ ap (with_spans (path_in a)) (entered w))

module _ (a : List (List ℕ)) (now x window horizon : ℕ) where
  -- an endless round trip
  pub sample-endless : 2 ^ 62 ≤ x
      → Turns a a (Ok reply.Nothing) (turn (slot_in a) (sample_of (path_in a) now x window horizon).path (Ok reply.Nothing))
  unfolding sample_of
  sample-endless h = turns-none refl (rw (le-leb (2 ^ 62) x h) refl)

  -- an endless window
  pub sample-window : x < 2 ^ 62 → 2 ^ 62 ≤ window
      → Turns a a (Ok reply.Nothing) (turn (slot_in a) (sample_of (path_in a) now x window horizon).path (Ok reply.Nothing))
  unfolding sample_of
  sample-window h k = turns-none refl (rw (lt-leb (2 ^ 62) x h, le-leb (2 ^ 62) window k) refl)

  -- an endless horizon
  pub sample-horizon : x < 2 ^ 62 → window < 2 ^ 62 → 2 ^ 62 ≤ horizon
      → Turns a a (Ok reply.Nothing) (turn (slot_in a) (sample_of (path_in a) now x window horizon).path (Ok reply.Nothing))
  unfolding sample_of
  sample-horizon h k l =
      turns-none refl (rw (lt-leb (2 ^ 62) x h, lt-leb (2 ^ 62) window k, le-leb (2 ^ 62) horizon l) refl)

  -- a round trip that is recorded: among the samples, in a span, as the latest
  pub sample-made : {b c d : List (List ℕ)} → x < 2 ^ 62 → window < 2 ^ 62 → horizon < 2 ^ 62
      → Says a b (with_samples (path_in a) (with_sample now x window (path_in a).rtts.samples))
      → Says b c (with_spans (path_in b) (span_of now x horizon (path_in b).rtts.spans))
      → Says c d (with_trip (path_in c) (Some x))
      → Turns a d (Ok reply.Nothing) (turn (slot_in a) (sample_of (path_in a) now x window horizon).path (Ok reply.Nothing))
  unfolding sample_of
  sample-made h k i u v w =
      turns-by
      (says-as (says_then (says_then u v) w)
      (rw (lt-leb (2 ^ 62) x h, lt-leb (2 ^ 62) window k, lt-leb (2 ^ 62) horizon i)
      (ap (λ (z : Liveness). with_trip z (Some x))
      (v.path ∙ ap (λ (z : Liveness). with_spans z (span_of now x horizon z.rtts.spans)) u.path))))
      refl
      refl
