use Prim.Native.Nat.{◌*◌, min}
use mathlib.Core.List.{foldl}
use Rattle.rows.specs.View.{path_in}
use Rattle.rtt.specs.Samples.{round_trips}
use Rattle.trips.proofs.TripLaws.{Lowering}
use Rattle.trips.proofs.least_of.Given as goal

abbrev pub invariant-loop-k : goal.invariant-loop-k
invariant-loop-k l =
    Lowering (path_in l.p).rtts.samples (foldl min l.first (round_trips (path_in l.p).rtts.samples)) (min l.even l.odd) (2 * l.k)
