-- Identifiers (document 01, "Identifiers", and the marks since, answered and epoch of "Ring (8) and late list (4)").
use Rattle.std.specs.Prelude.{ℕ, ◌+◌, ◌%◌, ◌^◌, min, Bool, true, not, cond, ◌&&◌, Option, None, Some}
use Rattle.base.specs.Serial.{after_of}
use Rattle.ring.specs.declared.types.Ids.{Ids}

-- the draw is used for the first identifier only
abbrev pub taken_of : Option ℕ → ℕ → ℕ
taken_of None draw = draw
taken_of (Some id) draw = id

-- each later one adds 1 modulo 2 ^ 32
abbrev pub next_id_of : ℕ → Option ℕ
next_id_of id = Some ((id + 1) % 2 ^ 32)

-- the identifiers once a probe has taken id
abbrev pub next_ids : Ids → ℕ → Ids
next_ids m id = record { next_id = next_id_of id; answered = m.answered; epoch = m.epoch; since = m.since }

-- an identifier counts unless since is after it; answered and epoch are asked in the same way
abbrev pub counts_of : Option ℕ → ℕ → Bool
counts_of None id = true
counts_of (Some s) id = not (after_of 32 s id)

-- `answered` moves only from none or to a later identifier
abbrev pub newer : Option ℕ → ℕ → ℕ
newer None id = id
newer (Some a) id = cond (after_of 32 id a) id a

-- the identifiers after an answer in time
abbrev pub answered_ids : Ids → ℕ → Ids
answered_ids m id =
    record { next_id = m.next_id; answered = Some (newer m.answered id); epoch = m.epoch; since = m.since }

-- `fresh` sets the epoch to the next identifier
abbrev pub fresh_ids : Ids → Ids
fresh_ids m = record { next_id = m.next_id; answered = m.answered; epoch = m.next_id; since = m.since }

-- `thaw` sets `since` to the next identifier
abbrev pub thawed_ids : Ids → Ids
thawed_ids m = record { next_id = m.next_id; answered = m.answered; epoch = m.epoch; since = m.next_id }

-- a miss counts if the identifier counts and `answered` isn't after it
abbrev pub is_counted : Ids → ℕ → Bool
is_counted m id = counts_of m.since id && counts_of m.answered id

-- misses stop at 2 ^ 32 - 1
abbrev pub missed_by : ℕ → Bool → ℕ
missed_by misses miss = cond miss (min (misses + 1) 0xffff_ffff) misses
