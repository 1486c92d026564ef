-- Sizes (document 01, "Size search", `size` and `fresh` of "Ring (8) and late list (4)"), with the refusals 5, 6, 8, 9
-- and 10.
use Rattle.std.specs.Prelude.{ℕ, false, cond, Option, None, Some, Result, Ok, Err}
use Rattle.base.specs.Limits.{is_overlong, is_undersize, is_endless}
use Rattle.base.specs.declared.types.Refusal.{Refusal}
use Rattle.base.specs.declared.types.Refusal.TheVariants.{Length, Duration, Unknown, NoSize}
use Rattle.ring.specs.Ids.{fresh_ids}
use Rattle.seek.specs.Ladder as ladder
use Rattle.seek.specs.Search as search
use Rattle.seek.specs.declared.types.Settled.{Settled}
use Rattle.seek.specs.declared.types.Proved.{Proved}
use Rattle.seek.specs.declared.types.Judged.{Judged}
use Rattle.seek.specs.declared.types.Proving.{Proving}
use Rattle.live.specs.Path.{with_ids, with_sizes, with_ladder, with_misses}
use Rattle.live.specs.Answers.{refused, is_accepted}
use Rattle.live.specs.Probe.{take_id_of, send_of}
use Rattle.live.specs.declared.types.Liveness.{Liveness}
use Rattle.live.specs.declared.types.Outcome.{Outcome}
use Rattle.live.specs.declared.types.Answer.{Answer}
use Rattle.live.specs.declared.types.Answer.TheVariants.{Id, Len, Flag}

-- ---- fresh and size

-- `fresh` sets the epoch to the next identifier, zeroes misses and clears seek, `fallen` and the last size, not the
-- proven size
abbrev pub fresh_of : Liveness → Liveness
fresh_of p =
    with_ladder
    (with_sizes (with_misses (with_ids p (fresh_ids p.ids)) 0) (search.fresh_sizes p.sizes))
    (record { last = None; fallen = false })

-- 5 for a full size above 65,535 or below 27; else the ladder's size
unfoldable pub size_of : Liveness → ℕ → Result Answer Refusal
size_of p full =
    cond (is_overlong full)
    (Err Length)
    (cond (is_undersize full) (Err Length) (Ok (Len (ladder.ladder_size p.ladder full))))

-- ---- prove

-- the path with the sizes that the rule gives, and its answer
abbrev pub proved_by : Liveness → Proving → Outcome
proved_by p d = record { path = with_sizes p d.sizes; answer = Ok (Flag d.changed) }

-- 5 for a size above 65,535 or below 27; else the size is proven
unfoldable pub prove_of : Liveness → ℕ → Outcome
prove_of p n =
    cond (is_overlong n)
    (refused p Length)
    (cond (is_undersize n) (refused p Length) (proved_by p (search.proven_sizes p.sizes n)))

-- ---- the proposal

-- a length, or the refusal where there is none
abbrev pub len_or : Refusal → Option ℕ → Result Answer Refusal
len_or why None = Err why
len_or why (Some n) = Ok (Len n)

-- 5 for a full size above 65,535 or below 27; 10 where no size is proposed
unfoldable pub seek_size_of : Liveness → ℕ → ℕ → Result Answer Refusal
seek_size_of p full now =
    cond (is_overlong full)
    (Err Length)
    (cond (is_undersize full) (Err Length) (len_or NoSize (search.search_size p.sizes full now)))

-- ---- a search probe sent

-- the probe is out under the identifier taken, on the path that has taken it
abbrev pub seek_sent_at : Liveness → ℕ → ℕ → ℕ → Outcome
seek_sent_at p at n id = record { path = with_sizes p (search.sent_search p.sizes at n id); answer = Ok (Id id) }

-- 5 for a length above 65,535; else it takes the next identifier
unfoldable pub seek_send_of : Liveness → ℕ → ℕ → ℕ → Outcome
seek_send_of p at n draw =
    cond (is_overlong n) (refused p Length) (seek_sent_at (take_id_of p draw).path at n (take_id_of p draw).id)

-- a probe of the search that went to the ring: the next may go `deadline`(at, gap); a refused one changes nothing
abbrev pub ringed : Outcome → ℕ → ℕ → Outcome
ringed s at gap =
    cond (is_accepted s.answer)
    (record { path = with_sizes s.path (search.next_search s.path.sizes at gap); answer = s.answer })
    s

-- 5 for a length above 65,535; 6 for a gap of 2 ^ 62 or more; then as `send`, 8 included
unfoldable pub seek_ring_of : Liveness → ℕ → ℕ → ℕ → ℕ → ℕ → Outcome
seek_ring_of p at due gap n draw =
    cond (is_overlong n)
    (refused p Length)
    (cond (is_endless gap) (refused p Duration) (ringed (send_of p at due n draw) at gap))

-- ---- a search probe settled

-- 9 where no search probe with the identifier is out
abbrev pub settled_by : Liveness → Option ℕ → Settled → Outcome
settled_by p None d = refused p Unknown
settled_by p (Some n) d = record { path = with_sizes p d.sizes; answer = Ok (Len n) }

-- 6 for a gap of 2 ^ 62 or more; else the probe is settled
unfoldable pub seek_answer_of : Liveness → ℕ → ℕ → Outcome
seek_answer_of p id gap =
    cond (is_endless gap)
    (refused p Duration)
    (settled_by p (search.settled_search p.sizes id gap).len (search.settled_search p.sizes id gap))

-- the path with the sizes that the rule gives, and its answer
abbrev pub raised_by : Liveness → Proved → Outcome
raised_by p d = record { path = with_sizes p d.sizes; answer = Ok (Flag d.raised) }

-- 5 for a length above 65,535; else proven rises or the sent size is lost
unfoldable pub seek_proved_of : Liveness → ℕ → ℕ → ℕ → Outcome
seek_proved_of p sent acked now =
    cond (is_overlong sent)
    (refused p Length)
    (cond (is_overlong acked) (refused p Length) (raised_by p (search.acked_search p.sizes sent acked now)))

-- ---- a search probe judged

-- the path with the sizes that the rule gives, and its answer
abbrev pub judged_by : Liveness → Judged → Outcome
judged_by p d = record { path = with_sizes p d.sizes; answer = Ok (Flag d.lost) }

-- 6 for a timeout or gap of 2 ^ 62 or more; else the probe is lost or waits
unfoldable pub seek_judge_of : Liveness → ℕ → ℕ → ℕ → Outcome
seek_judge_of p now timeout gap =
    cond (is_endless timeout)
    (refused p Duration)
    (cond (is_endless gap)
    (refused p Duration)
    (judged_by p (search.judged_search p.sizes p.ids.answered now timeout gap)))
