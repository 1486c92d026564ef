-- The ring that the rows say, as the scan of `expire` leaves it, and the path after a lapse.
use Rattle.std.specs.Prelude.{ℕ, Bool, List, get_or, Option}
use Rattle.ring.specs.Ring.{no_sent}
use Rattle.ring.specs.Lapse.{is_passed, defer_of, scan_of}
use Rattle.ring.specs.declared.types.Scanned.{Scanned}
use Rattle.live.specs.Probe.{lapsed_path}
use Rattle.live.specs.declared.types.Liveness.{Liveness}
use Rattle.rows.specs.View.{path_in}

-- the scan of the ring, with the last data instant
abbrev pub scan_in : List (List ℕ) → Option ℕ → ℕ → ℕ → Bool → Scanned
scan_in p heard cap at overdue = scan_of (is_passed at overdue) (defer_of heard cap at overdue) (path_in p).ring

-- the path once the probe at a place of the ring has lapsed
abbrev pub lapsed_in : List (List ℕ) → ℕ → Liveness
lapsed_in p slot = lapsed_path (path_in p) (path_in p).ring slot (get_or (path_in p).ring slot no_sent)
