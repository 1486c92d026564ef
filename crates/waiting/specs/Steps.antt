-- The ring on its way to being closed up, and whether `since` is there to be dropped.
use Rattle.std.specs.Prelude.{ℕ, ◌-◌, Bool, false, List, ◌++◌, length, set, take, drop, replicate, Option, None, Some}
use Rattle.ring.specs.Ring.{max_waiting, no_sent, waiting, all_count}
use Rattle.ring.specs.declared.types.Sent.{Sent}

-- there is a since, and every waiting probe counts
abbrev pub is_dropped : Option ℕ → List Sent → Bool
is_dropped None l = false
is_dropped (Some s) l = all_count (Some s) l

-- the waiting probes but the one at a place
abbrev pub others : ℕ → List Sent → List Sent
others slot l = waiting (set l slot no_sent)

-- the waiting probes but the one at a place at the front, and behind them what stood there
abbrev pub pressed : ℕ → List Sent → List Sent
pressed slot l = others slot l ++ drop (length (others slot l)) l

-- free from a place on
abbrev pub freed_from : ℕ → List Sent → List Sent
freed_from k l = take k l ++ replicate (max_waiting - k) no_sent
