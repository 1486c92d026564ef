use Prim.Native.Nat.{◌-◌}
use mathlib.Core.List.{map}
use Rattle.rows.specs.View.{slot_in}
use Rattle.caselist.proofs.StandLaws.{Comparing}
use Rattle.caselist.proofs.lists.standings_agree.Given as goal

abbrev pub invariant-loop-i : goal.invariant-loop-i
invariant-loop-i l = Comparing (map slot_in l.rec) l.given l.same l.i
