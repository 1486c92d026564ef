-- `c_choice::reported` meets its contract: so many reports were counted.
use Prim.Native.Nat.{◌≤◌}
use mathlib.Core.Path.{◌≡◌}
use Rattle.c_choice.specs.Choice.{reports_of}
use Rattle.c_choice.proofs.reported.Given as goal

abbrev pub invariant-loop : goal.invariant-loop
invariant-loop l = (l.counter ≤ l.reports) × (l.now ≡ reports_of l.counter l.initial.now)
