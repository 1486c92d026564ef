-- The two ways of `span`: the sample joins the newest span, or opens one.
-- Assumes nothing.
use Prim.Native.Nat.{ℕ, ◌≤◌}
use mathlib.Core.Path.{◌≡◌, sym}
use mathlib.Core.List.{List}
use mathlib.Core.Bool.{true, false}
use lib.ListN.{length, get_or, set, get_or-eq_default}
use Rattle.rtt.specs.Spans.{no_span, kept_spans, newest_span, joins_of, joined_of, opened_of, span_of}
use Rattle.rtt.specs.declared.types.Span.{Span}

module _ (now x horizon : ℕ) (l : List Span) {kept : List Span} {slot : ℕ} where
  pub span-joins : {s : Span} → kept ≡ kept_spans now horizon l → slot ≡ newest_span kept → joins_of now horizon (get_or kept slot no_span) ≡ true
      → s ≡ joined_of now x (get_or kept slot no_span) → set kept slot s ≡ span_of now x horizon l
  unfolding span_of
  span-joins a b c d = rw (sym a, sym b, c, d)

  pub span-opens : {out : List Span} → kept ≡ kept_spans now horizon l → slot ≡ newest_span kept → joins_of now horizon (get_or kept slot no_span) ≡ false
      → out ≡ opened_of now x kept → out ≡ span_of now x horizon l
  unfolding span_of
  span-opens a b c d = rw (sym a, sym b, c) d

-- behind the end there is no span to join
pub joins-none : (now horizon : ℕ) (l : List Span) (slot : ℕ) → length l ≤ slot → joins_of now horizon (get_or l slot no_span) ≡ false
joins-none now horizon l slot h = rw (get_or-eq_default l no_span h)
