-- A whole poll.
use Rattle.std.specs.Prelude.{ℕ, Bool}
use Rattle.live.specs.declared.types.Liveness.{Liveness}
use Rattle.rules.specs.Rules.{poll_of}
use Rattle.rules.specs.declared.types.Polling.{Polling}

-- "4 poll (`expire` until none)": the rules' poll of at most nine, under a name that stays shut
unfoldable pub whole_poll : Liveness → ℕ → Bool → ℕ → Polling
whole_poll p now overdue cap = poll_of 9 p now overdue cap
