-- Probes sent, answered and lapsed (document 01, "Identifiers" and "Ring (8) and late list (4)"), with the refusals 5,
-- 6, 8 and 9.
use Rattle.std.specs.Prelude.{ℕ, Bool, true, cond, ◌||◌, List, replicate, nat_le, nat_lt, slice_index_or, slice_set, Some, Ok}
use Rattle.base.specs.Limits.{is_overlong, is_endless}
use Rattle.base.specs.declared.types.Refusal.TheVariants.{Length, Duration, Full, Unknown}
use Rattle.ring.specs.Ids.{taken_of, next_ids, answered_ids, thawed_ids, is_counted, missed_by}
use Rattle.ring.specs.Ring.{max_waiting, max_late, first_free, drop_since, no_sent, found, taken_out, remembered, swept}
use Rattle.ring.specs.Lapse.{is_passed, defer_of, scan_of, is_padded}
use Rattle.ring.specs.declared.types.Sent.{Sent}
use Rattle.ring.specs.declared.types.Scanned.{Scanned}
use Rattle.seek.specs.declared.types.Ladder.{Ladder}
use Rattle.stop.specs.Silence.{quiet_from}
use Rattle.live.specs.Path.{with_ring, with_late, with_silence, with_ids, with_ladder, with_misses}
use Rattle.live.specs.Answers.{refused}
use Rattle.live.specs.declared.types.Liveness.{Liveness}
use Rattle.live.specs.declared.types.Taking.{Taking}
use Rattle.live.specs.declared.types.Outcome.{Outcome}
use Rattle.live.specs.declared.types.Answer.TheVariants as answer

-- ---- identifiers

-- the next identifier, which ring and search share
abbrev pub take_id_of : Liveness → ℕ → Taking
take_id_of p draw =
    record {
      path = with_ids p (next_ids p.ids (taken_of p.ids.next_id draw));
      id = taken_of p.ids.next_id draw;
    }

-- `thaw` sets `since` to the next identifier
abbrev pub thaw_of : Liveness → Liveness
thaw_of p = with_ids p (thawed_ids p.ids)

-- ---- send

-- the probe as it stands in the ring
abbrev pub new_sent : ℕ → ℕ → ℕ → ℕ → Sent
new_sent id at due n = record { at = at; due = due; probe_id = id; len = n; used = true }

-- the ladder after a send: the last size is the probe's
abbrev pub sent_ladder : Ladder → ℕ → Ladder
sent_ladder l n = record { last = Some n; fallen = l.fallen }

-- the probe s stands in the first free place under the next identifier; `since` is dropped if every waiting probe
-- counts; its size is the last one; `quiet` keeps the first send's instant
abbrev pub sent_path : Liveness → Sent → Liveness
sent_path p s =
    with_ring
    (with_ids
    (with_ladder (with_silence p (quiet_from p.silence s.at)) (sent_ladder p.ladder s.len))
    (next_ids (drop_since p.ids p.ring) s.probe_id))
    (slice_set p.ring (first_free p.ring) s)

-- and its identifier is the answer
abbrev pub sent_with : Liveness → Sent → Outcome
sent_with p s = record { path = sent_path p s; answer = Ok (answer.Id s.probe_id) }

-- 5 for a length above 65,535; `send` takes the first free place; with eight waiting it takes no identifier: 8
unfoldable pub send_of : Liveness → ℕ → ℕ → ℕ → ℕ → Outcome
send_of p at due n draw =
    cond (is_overlong n)
    (refused p Length)
    (cond (nat_le max_waiting (first_free p.ring))
    (refused p Full)
    (sent_with p (new_sent (taken_of (drop_since p.ids p.ring).next_id draw) at due n)))

-- ---- answer

-- in time means still in the ring: the ring closes up, misses become 0, `answered` moves only from none or to a later
-- identifier
abbrev pub answered_at : Liveness → ℕ → ℕ → Outcome
answered_at p slot id =
    record {
      path = with_ring (with_misses (with_ids p (answered_ids p.ids id)) 0) (taken_out max_waiting p.ring slot);
      answer = Ok (answer.InTime (slice_index_or p.ring slot no_sent));
    }

-- a late answer takes the probe out of the late list, and changes nothing else
abbrev pub late_at : Liveness → ℕ → Outcome
late_at p place =
    record { path = with_late p (slice_set p.late place no_sent); answer = Ok (answer.Late (slice_index_or p.late place no_sent)) }

-- `answer` looks in the ring, then the late list; 9 for an identifier that is in neither
unfoldable pub answer_of : Liveness → ℕ → Outcome
answer_of p id =
    cond (nat_lt (found id p.ring) max_waiting)
    (answered_at p (found id p.ring) id)
    (cond (nat_lt (found id p.late) max_late)
    (late_at p (found id p.late))
    (refused p Unknown))

-- ---- expire

-- the ladder after a lapse: `fallen` is set by a padded one
abbrev pub lapsed_ladder : Ladder → Bool → Ladder
lapsed_ladder l fall = record { last = l.last; fallen = fall || l.fallen }

-- the probe s at a place of what the scan left lapses: it leaves the ring, which closes up, and enters the late list at
-- the end; a miss counts
abbrev pub lapsed_path : Liveness → List Sent → ℕ → Sent → Liveness
lapsed_path p ring slot s =
    with_ring
    (with_late
    (with_misses
    (with_ladder p (lapsed_ladder p.ladder (is_padded p.ids s)))
    (missed_by p.misses (is_counted p.ids s.probe_id)))
    (remembered p.late s))
    (taken_out max_waiting ring slot)

-- and whether it was a miss is the answer
abbrev pub lapsed_at : Liveness → List Sent → ℕ → Sent → Outcome
lapsed_at p ring slot s =
    record { path = lapsed_path p ring slot s; answer = Ok (answer.Lapsed (is_counted p.ids s.probe_id)) }

-- where none lapses, what was deferred stays deferred
abbrev pub expired_by : Liveness → Scanned → Outcome
expired_by p c =
    cond (nat_le max_waiting c.slot)
    (record { path = with_ring p c.ring; answer = (Ok answer.Idle) })
    (lapsed_at p c.ring c.slot (slice_index_or c.ring c.slot no_sent))

-- 6 for a cap of 2 ^ 62 or more; `expire` takes the first probe whose due has passed and that is not deferred
unfoldable pub expire_of : Liveness → ℕ → Bool → ℕ → Outcome
expire_of p now overdue cap =
    cond (is_endless cap)
    (refused p Duration)
    (expired_by p (scan_of (is_passed now overdue) (defer_of p.traffic.data_at cap now overdue) p.ring))

-- ---- late list and ring as a whole

-- a probe that was held outside the ring enters the late list (the Rust's `lapse`)
abbrev pub lapse_of : Liveness → Sent → Liveness
lapse_of p s = with_late p (remembered p.late s)

-- `clear`: every waiting probe enters the late list, in ring order; no miss
abbrev pub clear_of : Liveness → Liveness
clear_of p = with_ring (with_late p (swept p.late p.ring)) (replicate max_waiting no_sent)
