-- The stop of a path (document 01, "Files and tail": "`halt` (unless stopped): free = at + 1 s, gap and used 1 s; if
-- active, until = quiet (else at) + 30 s. Only while stopped: `spend`: used = gap, free = at + gap; gap 1 s before
-- until, else doubled to at most 30 s; owed cleared. If owed, `rebase` clears it and, if ok, lifts free to at least at
-- + used"; `owe`, `stopped`, `held` and `recheck` as in the Rust), and its silence ("Ring and late list": "`quiet`
-- keeps the first send's instant"). Times are nanoseconds, an instant + duration is `deadline_of`.
use Rattle.std.specs.Prelude.{ℕ, ◌*◌, ◌^◌, min, max, Bool, true, false, cond, ltb, Option, None, Some}
use Rattle.base.specs.Time.{deadline_of}
use Rattle.stop.specs.declared.types.Stop.{Stop}
use Rattle.stop.specs.declared.types.Silence.{Silence}

-- so many seconds
abbrev pub seconds : ℕ → ℕ
seconds n = n * 10 ^ 9

-- no send yet, and not stopped
abbrev pub new_silence : Silence
new_silence = record { stop = None; quiet = None }

-- quiet, else at
abbrev pub from_of : Option ℕ → ℕ → ℕ
from_of None at = at
from_of (Some t) at = t

-- quiet keeps the first send's instant
abbrev pub quiet_from : Silence → ℕ → Silence
quiet_from s at = record { stop = s.stop; quiet = Some (from_of s.quiet at) }

-- if active, quiet (else at) + 30 s
abbrev pub until_of : Option ℕ → ℕ → Bool → Option ℕ
until_of quiet at active = cond active (Some (deadline_of 64 (from_of quiet at) (seconds 30))) None

-- free = at + 1 s, gap and used 1 s; if active, until = quiet (else at) + 30 s
abbrev pub first_stop : Option ℕ → ℕ → Bool → Stop
first_stop quiet at active =
    record { free = deadline_of 64 at (seconds 1); gap = seconds 1; used = seconds 1; until = until_of quiet at active; owed = false }

-- unless stopped: a stop that there is stays
abbrev pub halt_in : Option Stop → Stop → Option Stop
halt_in None x = Some x
halt_in (Some y) x = Some y

-- `halt` (unless stopped): the first stop; quiet stays
abbrev pub halt_of : Silence → ℕ → Bool → Silence
halt_of s at active = record { stop = halt_in s.stop (first_stop s.quiet at active); quiet = s.quiet }

-- only while stopped: what f makes of the stop
abbrev pub stop_after : (Stop → Stop) → Option Stop → Option Stop
stop_after f None = None
stop_after f (Some x) = Some (f x)

-- the same of the silence: quiet stays
abbrev pub while_stopped : (Stop → Stop) → Silence → Silence
while_stopped f s = record { stop = stop_after f s.stop; quiet = s.quiet }

-- before until, where there is one
abbrev pub is_before : ℕ → Option ℕ → Bool
is_before at None = false
is_before at (Some u) = ltb at u

-- 1 s before until, else doubled to at most 30 s
abbrev pub gap_after : ℕ → Stop → ℕ
gap_after at x = cond (is_before at x.until) (seconds 1) (min (2 * x.gap) (seconds 30))

-- used = gap, free = at + gap; the gap after that; owed cleared
abbrev pub spent_stop : ℕ → Stop → Stop
spent_stop at x = record { free = deadline_of 64 at x.gap; gap = gap_after at x; used = x.gap; until = x.until; owed = false }

-- `spend`, only while stopped
abbrev pub spend_of : Silence → ℕ → Silence
spend_of s at = while_stopped (spent_stop at) s

-- free and owed set, the rest as it is
abbrev pub marked_of : Stop → ℕ → Bool → Stop
marked_of x free owed = record { free = free; gap = x.gap; used = x.used; until = x.until; owed = owed }

-- `owe`, only while stopped: the slot just counted went to a connection, it is owed
abbrev pub owe_of : Silence → Silence
owe_of s = while_stopped (λ x. marked_of x x.free true) s

-- if owed, clears it and, if ok, lifts free to at least at + used
abbrev pub rebased_stop : ℕ → Bool → Stop → Stop
rebased_stop at ok x =
    cond x.owed (marked_of x (cond ok (max x.free (deadline_of 64 at x.used)) x.free) false) x

-- `rebase`, only while stopped
abbrev pub rebase_of : Silence → ℕ → Bool → Silence
rebase_of s at ok = while_stopped (rebased_stop at ok) s

-- there is a stop
abbrev pub is_stopped : Option Stop → Bool
is_stopped None = false
is_stopped (Some x) = true

-- `stopped`: whether the path has stopped answering
abbrev pub stopped_of : Silence → Bool
stopped_of s = is_stopped s.stop

-- the stop's free instant
abbrev pub free_of : Option Stop → Option ℕ
free_of None = None
free_of (Some x) = Some x.free

-- `held`: while stopped, the instant from which the next probe may go
abbrev pub held_until : Silence → Option ℕ
held_until s = free_of s.stop

-- the gap, where there is an until
abbrev pub gap_with : Option ℕ → ℕ → Option ℕ
gap_with None gap = None
gap_with (Some u) gap = Some gap

-- the stop's gap, where it has an until
abbrev pub recheck_in : Option Stop → Option ℕ
recheck_in None = None
recheck_in (Some x) = gap_with x.until x.gap

-- `recheck`: while stopped with an until, the least gap after the next probe
abbrev pub recheck_of : Silence → Option ℕ
recheck_of s = recheck_in s.stop
