-- The calls of a script, by their numbers: each method's definition on the numbers of the call, and its answer as
-- numbers. A number wider than a method's parameter is taken modulo its width; a flag is set if its number is odd.
use Rattle.std.specs.Prelude.{ℕ, ◌%◌, ◌^◌, Bool, true, cond, eqb, ltb}
use Rattle.base.specs.Seq.{flag_of}
use Rattle.ring.specs.Ring.{outstanding_of, earliest_due}
use Rattle.ring.specs.declared.types.Sent.{Sent}
use Rattle.rtt.specs.Samples.{min_rtt, max_rtt, samples_of}
use Rattle.rtt.specs.Spans.{base_rtt}
use Rattle.stop.specs.Silence.{stopped_of, held_until, recheck_of}
use Rattle.live.specs.New.{new_liveness, room_of}
use Rattle.live.specs.Probe.{take_id_of, send_of, answer_of, expire_of, lapse_of, clear_of, thaw_of}
use Rattle.live.specs.Search.{fresh_of, size_of, prove_of, seek_size_of, seek_send_of, seek_ring_of, seek_answer_of, seek_proved_of}
use Rattle.live.specs.Search.{seek_judge_of}
use Rattle.live.specs.Times.{sample_of, folded_of, timeout_of, heard_of, carried_of, shed_of, halted_of, spent_of, owed_of}
use Rattle.live.specs.Times.{rebased_of}
use Rattle.live.specs.declared.types.Liveness.{Liveness}
use Rattle.total.specs.Patterns.{etx_bits}
use Rattle.scores.specs.Scores.{path_score, path_steady}
use Rattle.script.specs.Answers.{answer_called, outcome, plain, kindless, valued, timed, sized, score_called, matched}
use Rattle.script.specs.declared.types.Call.{Call}
use Rattle.script.specs.declared.types.Called.{Called}

-- a number of 32 bits, and a flag
abbrev pub low32 : ℕ → ℕ
low32 x = x % 2 ^ 32

abbrev pub is_odd : ℕ → Bool
is_odd x = eqb (x % 2) 1

-- the probe that a call names for `lapse`
abbrev pub sent_of : Call → Sent
sent_of c = record { at = c.b; due = c.c; probe_id = low32 c.a; len = c.d % 65536; used = true }

-- 0 new, 1 take_id, 2 send, 3 answer, 4 expire
unfoldable pub probe_call : Liveness → Call → Called
probe_call p c =
    cond (eqb c.op 0) (plain new_liveness)
    (cond (eqb c.op 1) (valued (take_id_of p (low32 c.a)).path (take_id_of p (low32 c.a)).id)
    (cond (eqb c.op 2) (outcome (send_of p c.a c.b (low32 c.c) (low32 c.d)))
    (cond (eqb c.op 3) (outcome (answer_of p (low32 c.a)))
    (outcome (expire_of p c.a (is_odd c.b) c.c)))))

-- 5 lapse, 6 room, 7 fresh, 8 thaw, 9 clear
unfoldable pub line_call : Liveness → Call → Called
line_call p c =
    cond (eqb c.op 5) (plain (lapse_of p (sent_of c)))
    (cond (eqb c.op 6) (valued p (flag_of (room_of p c.a)))
    (cond (eqb c.op 7) (plain (fresh_of p))
    (cond (eqb c.op 8) (plain (thaw_of p))
    (plain (clear_of p)))))

-- 10 size, 11 sample, 12 fold, 13 prove, 14 seek_size
unfoldable pub size_call : Liveness → Call → Called
size_call p c =
    cond (eqb c.op 10) (answer_called p (size_of p (low32 c.a)))
    (cond (eqb c.op 11) (outcome (sample_of p c.a c.b c.c c.d))
    (cond (eqb c.op 12) (plain (folded_of p (is_odd c.a)))
    (cond (eqb c.op 13) (outcome (prove_of p (low32 c.a)))
    (answer_called p (seek_size_of p (low32 c.a) c.b)))))

-- 15 seek_send, 16 seek_ring, 17 seek_answer, 18 seek_proved, 19 seek_judge
unfoldable pub seek_call : Liveness → Call → Called
seek_call p c =
    cond (eqb c.op 15) (outcome (seek_send_of p c.a (low32 c.b) (low32 c.c)))
    (cond (eqb c.op 16) (outcome (seek_ring_of p c.a c.b c.c (low32 c.d) (low32 c.e)))
    (cond (eqb c.op 17) (outcome (seek_answer_of p (low32 c.a) c.b))
    (cond (eqb c.op 18) (outcome (seek_proved_of p (low32 c.a) (low32 c.b) c.c))
    (outcome (seek_judge_of p c.a c.b c.c)))))

-- 20 halt, 21 spend, 22 owe, 23 rebase, 24 timeout
unfoldable pub stop_call : Liveness → Call → Called
stop_call p c =
    cond (eqb c.op 20) (plain (halted_of p c.a (is_odd c.b)))
    (cond (eqb c.op 21) (plain (spent_of p c.a))
    (cond (eqb c.op 22) (plain (owed_of p))
    (cond (eqb c.op 23) (plain (rebased_of p c.a (is_odd c.b)))
    (answer_called p (timeout_of p c.a c.b)))))

-- 25 heard, 26 carried, 27 shed, 28 stopped, 29 held, 30 recheck
unfoldable pub time_call : Liveness → Call → Called
time_call p c =
    cond (eqb c.op 25) (outcome (heard_of p (low32 c.a) c.b))
    (cond (eqb c.op 26) (plain (carried_of p c.a))
    (cond (eqb c.op 27) (outcome (shed_of p (low32 c.a)))
    (cond (eqb c.op 28) (valued p (flag_of (stopped_of p.silence)))
    (cond (eqb c.op 29) (timed p (held_until p.silence))
    (timed p (recheck_of p.silence))))))

-- 31 outstanding, 32 samples, 33 min_rtt, 34 max_rtt, 35 base_rtt, 36 earliest_due
unfoldable pub read_call : Liveness → Call → Called
read_call p c =
    cond (eqb c.op 31) (valued p (outstanding_of p.ring))
    (cond (eqb c.op 32) (valued p (samples_of p.rtts.samples))
    (cond (eqb c.op 33) (timed p (min_rtt p.rtts.samples))
    (cond (eqb c.op 34) (timed p (max_rtt p.rtts.samples))
    (cond (eqb c.op 35) (timed p (base_rtt p.rtts.spans))
    (timed p (earliest_due p.ring))))))

-- 37 score, 38 steady, 39 misses, 40 rtt, 41 etx by its pattern, 42 mtu
unfoldable pub score_call : Liveness → Call → Called
score_call p c =
    cond (eqb c.op 37) (score_called p (path_score p))
    (cond (eqb c.op 38) (score_called p (path_steady p))
    (cond (eqb c.op 39) (valued p p.misses)
    (cond (eqb c.op 40) (timed p p.rtts.rtt)
    (cond (eqb c.op 41) (valued p (etx_bits p.etx))
    (sized p p.sizes.proven)))))

-- 43 frames, 44 bytes, 45 heard_at, 46 data_at, 47 quiet, 48 whether what `answer` gives is matching
unfoldable pub count_call : Liveness → Call → Called
count_call p c =
    cond (eqb c.op 43) (valued p p.traffic.frames)
    (cond (eqb c.op 44) (valued p p.traffic.bytes)
    (cond (eqb c.op 45) (timed p p.traffic.heard_at)
    (cond (eqb c.op 46) (timed p p.traffic.data_at)
    (cond (eqb c.op 47) (timed p p.silence.quiet)
    (matched (answer_of p (low32 c.a)))))))

-- 49 and 50: send and answer as calls 2 and 3, on a path that is changed through a reference; any other gets 15
unfoldable pub ref_call : Liveness → Call → Called
ref_call p c =
    cond (eqb c.op 49) (outcome (send_of p c.a c.b (low32 c.c) (low32 c.d)))
    (cond (eqb c.op 50) (outcome (answer_of p (low32 c.a)))
    (kindless p))

-- the calls from 20 on
unfoldable pub high_call : Liveness → Call → Called
high_call p c =
    cond (ltb c.op 25) (stop_call p c)
    (cond (ltb c.op 31) (time_call p c)
    (cond (ltb c.op 37) (read_call p c)
    (cond (ltb c.op 43) (score_call p c)
    (cond (ltb c.op 49) (count_call p c)
    (ref_call p c)))))

-- one call
unfoldable pub call_of : Liveness → Call → Called
call_of p c =
    cond (ltb c.op 5) (probe_call p c)
    (cond (ltb c.op 10) (line_call p c)
    (cond (ltb c.op 15) (size_call p c)
    (cond (ltb c.op 20) (seek_call p c)
    (high_call p c))))
