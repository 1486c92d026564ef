-- `queries::choice::rival_rows` meets its contract: the loop fills each row.
use Prim.Native.Nat.{◌-◌}
use mathlib.Core.List.{map}
use Rattle.rows.specs.View.{slot_in}
use Rattle.queries.proofs.ChoiceLaws.{Rowing}
use Rattle.queries.proofs.choice.rival_rows.Given as goal

abbrev pub invariant-loop-i : goal.invariant-loop-i
invariant-loop-i l = Rowing (map slot_in l.rec) l.field l.i
