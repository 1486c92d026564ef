-- The spans of the horizon (document 01, "RTT, ETX, score": "Spans with now - to > horizon are dropped; then the sample
-- joins the newest of 8 (last of equals) while now - from < horizon/6, rounded down: to becomes now, the RTT the
-- smaller. Else a new span takes the first gap or the oldest's place, as above"). A span's age is its `from`.
use Rattle.std.specs.Prelude.{ℕ, ◌/◌, min, List, map, Bool, true, false, cond, ◌&&◌, ltb, get_or, set, Option}
use Rattle.std.specs.List.{filter}
use Rattle.base.specs.Marked.{place, first_leader, last_leader}
use Rattle.base.specs.Time.{elapsed_of}
use Rattle.base.specs.Least.{least_of}
use Rattle.rtt.specs.declared.types.Span.{Span}

-- how many spans the horizon keeps, `SPANS`
abbrev pub max_spans : ℕ
max_spans = 8

-- a gap, as a path starts with
abbrev pub no_span : Span
no_span = record { from = 0; to = 0; rtt = 0; used = false }

-- a place that is no gap
abbrev pub is_span : Span → Bool
is_span s = s.used

-- a span with now - to > horizon
abbrev pub is_past : ℕ → ℕ → Span → Bool
is_past now horizon s = is_span s && ltb horizon (elapsed_of now s.to)

-- a place after the drop; a gap stays what it is
abbrev pub kept_span : ℕ → ℕ → Span → Span
kept_span now horizon s = cond (is_past now horizon s) no_span s

-- spans with now - to > horizon are dropped
abbrev pub kept_spans : ℕ → ℕ → List Span → List Span
kept_spans now horizon l = map (kept_span now horizon) l

-- the order by age: s began before t
abbrev pub span_earlier : Span → Span → Bool
span_earlier s t = ltb s.from t.from

-- the order by age, turned round: s began after t
abbrev pub span_later : Span → Span → Bool
span_later s t = ltb t.from s.from

-- the place of the newest span (last of equals), or the length where there is none
abbrev pub newest_span : List Span → ℕ
newest_span l = last_leader is_span span_later l

-- the place of the oldest span (first of equals), or the length where there is none
abbrev pub oldest_span : List Span → ℕ
oldest_span l = first_leader is_span span_earlier l

-- the first gap or the oldest's place
abbrev pub span_place : List Span → ℕ
span_place l = place is_span span_earlier l

-- there is such a span, and now - from < horizon/6, rounded down
abbrev pub joins_of : ℕ → ℕ → Span → Bool
joins_of now horizon s = is_span s && ltb (elapsed_of now s.from) (horizon / 6)

-- to becomes now, the RTT the smaller
abbrev pub joined_of : ℕ → ℕ → Span → Span
joined_of now x s = record { from = s.from; to = now; rtt = min s.rtt x; used = true }

-- a new span
abbrev pub new_span : ℕ → ℕ → Span
new_span now x = record { from = now; to = now; rtt = x; used = true }

-- a new span takes the first gap or the oldest's place
abbrev pub opened_of : ℕ → ℕ → List Span → List Span
opened_of now x l = set l (span_place l) (new_span now x)

-- the sample joins the newest, else opens a span
abbrev pub entered_of : ℕ → ℕ → ℕ → List Span → List Span
entered_of now x horizon l =
    cond (joins_of now horizon (get_or l (newest_span l) no_span))
    (set l (newest_span l) (joined_of now x (get_or l (newest_span l) no_span)))
    (opened_of now x l)

-- spans past the horizon are dropped; then the sample joins the newest, else opens a span
unfoldable pub span_of : ℕ → ℕ → ℕ → List Span → List Span
span_of now x horizon l = entered_of now x horizon (kept_spans now horizon l)

-- the least round trip over the horizon
unfoldable pub base_rtt : List Span → Option ℕ
base_rtt l = least_of (map (λ s. s.rtt) (filter is_span l))
