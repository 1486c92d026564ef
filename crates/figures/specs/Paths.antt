-- The paths that the marked figures speak of, each made from a new one by the rules of the methods alone (document 01,
-- "Twelve marked figures"). Where a figure names no instant, everything happens at instant 0, with gap, timeout and cap
-- 0 and the draw 0.
use Rattle.stop.specs.declared.types.Stop.{Stop}
use Rattle.std.specs.Prelude.{ℕ, zero, suc, ◌-◌, ◌*◌, ◌^◌, true, false, cond, List, [], ◌∷◌, eqb, length, Option, None, Some}
use Rattle.std.specs.List.{filter}
use Rattle.rtt.specs.Spans.{is_span}
use Rattle.stop.specs.Silence.{seconds}
use Rattle.live.specs.New.{new_liveness}
use Rattle.live.specs.Answers.{answer_number, answer_value, is_accepted}
use Rattle.live.specs.Probe.{send_of, answer_of, expire_of}
use Rattle.live.specs.Search.{size_of, prove_of, seek_size_of, seek_send_of, seek_answer_of, seek_proved_of, seek_judge_of}
use Rattle.live.specs.Times.{sample_of, halted_of}
use Rattle.live.specs.declared.types.Liveness.{Liveness}

-- so many milliseconds, in nanoseconds
abbrev pub millis : ℕ → ℕ
millis n = n * 10 ^ 6

-- ---- sizes

-- a probe of n bytes was sent and has lapsed: n is the last size, and above 27 the path has fallen
abbrev pub after_lapse : Liveness → ℕ → Liveness
after_lapse p n = (expire_of (send_of p 0 0 n 0).path 0 false 0).path

-- what `size` gives
abbrev pub next_size : Liveness → ℕ → ℕ
next_size p full = answer_value (size_of p full)

-- the sizes of the next n probes, where each has the size that `size` gives and lapses
abbrev pub next_sizes : ℕ → Liveness → ℕ → List ℕ
next_sizes zero p full = []
next_sizes (suc n) p full = next_size p full ∷ next_sizes n (after_lapse p (next_size p full)) full

-- ---- size search

-- a path on which this size is proven
abbrev pub proven : ℕ → Liveness
proven n = (prove_of new_liveness n).path

-- a search probe of the size proposed is out
abbrev pub after_search : Liveness → ℕ → Liveness
after_search p full = (seek_send_of p 0 (answer_value (seek_size_of p full 0)) 0).path

-- the search probe that is out is judged lost, once a probe sent after it is answered
abbrev pub lost : Liveness → Liveness
lost p = (seek_judge_of (answer_of (send_of p 0 0 27 0).path (answer_value (send_of p 0 0 27 0).answer)).path 0 0 0).path

-- "proven .., full .. lost"
abbrev pub full_lost : ℕ → ℕ → Liveness
full_lost n full = lost (after_search (proven n) full)

-- the size of the search probe that is out, 0 if none is
abbrev pub size_out : Liveness → ℕ
size_out p = p.sizes.seek.len

-- rest after a clearing, as it shows: the size out, the lost size, the refusal of `seek_size` 1 ns before 600 s, its
-- size at 600 s
abbrev pub rest_of : Liveness → ℕ → List ℕ
rest_of p full =
    size_out p ∷
    p.sizes.seek.lost ∷
    answer_number (seek_size_of p full (seconds 600 - 1)) ∷
    answer_value (seek_size_of p full (seconds 600)) ∷
    []

-- the search probe that is out is acknowledged at its size
abbrev pub acked : Liveness → Liveness
acked p = (seek_proved_of (seek_answer_of p p.sizes.seek.probe_id 0).path (size_out p) (size_out p) 0).path

-- "full .. lost, the rest acknowledged"
abbrev pub after_settling : Liveness → ℕ → Liveness
after_settling p full = cond (eqb (size_out p) full) (lost p) (acked p)

-- how many search probes are sent, at most n, until no size is proposed
abbrev pub probe_count : ℕ → Liveness → ℕ → ℕ
probe_count zero p full = 0
probe_count (suc n) p full =
    cond (is_accepted (seek_size_of p full 0)) (suc (probe_count n (after_settling (after_search p full) full) full)) 0

-- ---- RTT and stop

-- a round trip of x was measured now, where window and horizon are 60 s
abbrev pub measured : Liveness → ℕ → ℕ → Liveness
measured p now x = (sample_of p now x (seconds 60) (seconds 60)).path

-- "last 100, largest 300": a sample of 300 ms at instant 0, then one of 100 ms now
abbrev pub sampled : ℕ → Liveness
sampled now = measured (measured new_liveness 0 (millis 300)) now (millis 100)

-- how many spans there are
abbrev pub span_count : Liveness → ℕ
span_count p = length (filter is_span p.rtts.spans)

-- "quiet 90, `halt` at 100 active": the first send was at 90 s
abbrev pub halted : Liveness
halted = halted_of (send_of new_liveness (seconds 90) (seconds 91) 27 0).path (seconds 100) true

-- the gap of a stop, 0 where there is none
abbrev pub gap_in : Option Stop → ℕ
gap_in None = 0
gap_in (Some x) = x.gap

-- the gap of a path's stop
abbrev pub gap_of : Liveness → ℕ
gap_of p = gap_in p.silence.stop
