-- The places of the ring and of the late list (document 01, "Ring (8) and late list (4)"). A place that is not used is
-- free.
use Rattle.std.specs.Prelude.{ℕ, ◌-◌, ◌≤◌, ◌≡◌, List, [], ◌∷◌, ◌++◌, map, Bool, true, false, not, cond, length, replicate, drop, set, eqb, Option, None}
use Rattle.std.specs.List.{list_all, filter, position_from}
use Rattle.base.specs.Seq.{position}
use Rattle.base.specs.Least.{least_of}
use Rattle.ring.specs.Ids.{counts_of}
use Rattle.ring.specs.declared.types.Sent.{Sent}
use Rattle.ring.specs.declared.types.Ids.{Ids}

-- the places of the ring, `RING`
abbrev pub max_waiting : ℕ
max_waiting = 8

-- the places of the late list, `LATE`
abbrev pub max_late : ℕ
max_late = 4

-- a free place, as a path starts with
abbrev pub no_sent : Sent
no_sent = record { at = 0; due = 0; probe_id = 0; len = 0; used = false }

abbrev pub is_used : Sent → Bool
is_used s = s.used

abbrev pub is_free : Sent → Bool
is_free s = not s.used

-- `send` takes the first free place; with none it is the length
abbrev pub first_free : List Sent → ℕ
first_free l = position is_free l

-- the same with none in place of the length: `place_some` and `place_none` of proofs/PlaceLaws.antt
abbrev pub free_at : List Sent → Option ℕ
free_at l = position_from is_free 0 l

-- free, or its identifier counts
abbrev pub fine_of : Option ℕ → Sent → Bool
fine_of since s = cond s.used (counts_of since s.probe_id) true

-- every waiting probe counts (an empty ring does)
abbrev pub all_count : Option ℕ → List Sent → Bool
all_count since l = list_all (fine_of since) l

-- if every waiting probe counts, `since` is dropped
abbrev pub drop_since : Ids → List Sent → Ids
drop_since m l =
    cond (all_count m.since l)
    (record { next_id = m.next_id; answered = m.answered; epoch = m.epoch; since = None })
    m

-- a used place with the identifier
abbrev pub is_probe : ℕ → Sent → Bool
is_probe id s = cond s.used (eqb s.probe_id id) false

-- the place of the first probe with the identifier, or the length
abbrev pub found : ℕ → List Sent → ℕ
found id l = position (is_probe id) l

-- the same with none in place of the length
abbrev pub found_at : ℕ → List Sent → Option ℕ
found_at id l = position_from (is_probe id) 0 l

-- the waiting probes, in the ring's order
abbrev pub waiting : List Sent → List Sent
waiting l = filter is_used l

-- the ring closes up in its order: n places, the waiting probes, then free ones
abbrev pub packed : ℕ → List Sent → List Sent
packed n l = waiting l ++ replicate (n - length (waiting l)) no_sent

-- "After an answer or a lapse the ring closes up in its order": the waiting probes stand at the front, and free places
-- behind them. `closed-*` of proofs/ClosedLaws.antt: an empty ring is so, and what send, answer and expire make of one
pub record Closed (l : List Sent) : Type 0 where
  pub fits : length (waiting l) ≤ max_waiting
  pub shut : l ≡ packed max_waiting l

-- the ring after the probe at a place was answered or lapsed
abbrev pub taken_out : ℕ → List Sent → ℕ → List Sent
taken_out n l slot = packed n (set l slot no_sent)

-- a lapsed probe enters the late list at the end, everything shifting one place: a hole is not filled first
abbrev pub remembered : List Sent → Sent → List Sent
remembered l s = drop 1 l ++ (s ∷ [])

-- the late list after `clear`: the waiting probes enter it in ring order, and it stays as long as it was
abbrev pub swept : List Sent → List Sent → List Sent
swept late ring = drop (length (waiting ring)) (late ++ waiting ring)

-- how many probes wait
unfoldable pub outstanding_of : List Sent → ℕ
outstanding_of l = length (waiting l)

-- the earliest due instant of the waiting probes, or none
unfoldable pub earliest_due : List Sent → Option ℕ
earliest_due l = least_of (map (λ s. s.due) (waiting l))
