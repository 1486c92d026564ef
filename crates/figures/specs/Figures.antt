-- The twelve marked figures (document 01, "Twelve marked figures"): what the definitions of the parts compute, and what
-- the document expects.
use Rattle.std.specs.Prelude.{ℕ, ◌-◌, ◌^◌, List, [], ◌∷◌}
use Rattle.base.specs.Seq.{flag_of}
use Rattle.base.specs.Serial.{after_of}
use Rattle.base.specs.Time.{deadline_of}
use Rattle.stop.specs.Silence.{seconds}
use Rattle.live.specs.New.{new_liveness}
use Rattle.live.specs.Answers.{answer_value}
use Rattle.live.specs.Search.{seek_size_of}
use Rattle.live.specs.Times.{timeout_of, spent_of}
use Rattle.figures.specs.Paths.{millis, after_lapse, next_size, next_sizes, proven, full_lost, rest_of, probe_count, sampled}
use Rattle.figures.specs.Paths.{span_count, halted, gap_of}

-- the numbers of each figure, computed
unfoldable pub figures : List (List ℕ)
figures =
    -- (1) after(0, 2^32 - 1) true
    (flag_of (after_of 32 0 (2 ^ 32 - 1)) ∷ []) ∷
    -- (2) after(2^31, 0) false
    (flag_of (after_of 32 (2 ^ 31) 0) ∷ []) ∷
    -- (3) reversed too
    (flag_of (after_of 32 0 (2 ^ 31)) ∷ []) ∷
    -- (4) deadline(2^64 - 11, 25) = 2^64 - 5
    (deadline_of 64 (2 ^ 64 - 11) 25 ∷ []) ∷
    -- (5) full 1,200: 1,200, 900, 600, 27, 1,200
    next_sizes 5 new_liveness 1200 ∷
    -- (6) full 40, last 30: 27
    (next_size (after_lapse new_liveness 30) 40 ∷ []) ∷
    -- (7) proven 100, full 132 lost: rest
    rest_of (full_lost 100 132) 132 ∷
    -- (8) full 133 lost: 116 next
    (answer_value (seek_size_of (full_lost 100 133) 133 0) ∷ []) ∷
    -- (9) proven 27, full 65,535 lost, the rest acknowledged: 12 probes
    (probe_count 20 (proven 27) 65535 ∷ []) ∷
    -- (10) floor 400, last 100, largest 300, cap 600 ms: 600
    (answer_value (timeout_of (sampled 0) (millis 400) (millis 600)) ∷ []) ∷
    -- (11) horizon 60 s: a sample 10 s on opens a span (1 ns earlier it joins the first)
    (span_count (sampled (seconds 10 - 1)) ∷ span_count (sampled (seconds 10)) ∷ []) ∷
    -- (12) quiet 90, `halt` at 100 active, `spend` at 119, gap 1; at 120, gap 2 s (after the one at 119, or instead of
    -- it)
    (gap_of (spent_of halted (seconds 119)) ∷
    gap_of (spent_of (spent_of halted (seconds 119)) (seconds 120)) ∷
    gap_of (spent_of halted (seconds 120)) ∷
    []) ∷
    []

-- and as the document has them
unfoldable pub expected : List (List ℕ)
expected =
    -- (1) to (3): 1 is true, 0 false
    (1 ∷ []) ∷
    (0 ∷ []) ∷
    (0 ∷ []) ∷
    -- (4)
    ((2 ^ 64 - 5) ∷ []) ∷
    -- (5)
    (1200 ∷ 900 ∷ 600 ∷ 27 ∷ 1200 ∷ []) ∷
    -- (6)
    (27 ∷ []) ∷
    -- (7): none out, the lost size cleared, no size proposed (refusal 10) before the next try at 600 s, full then
    (0 ∷ 0 ∷ 10 ∷ 132 ∷ []) ∷
    -- (8)
    (116 ∷ []) ∷
    -- (9)
    (12 ∷ []) ∷
    -- (10)
    (millis 600 ∷ []) ∷
    -- (11)
    (1 ∷ 2 ∷ []) ∷
    -- (12)
    (seconds 1 ∷ seconds 2 ∷ seconds 2 ∷ []) ∷
    []
