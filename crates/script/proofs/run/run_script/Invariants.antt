use Prim.Native.Nat.{◌*◌}
use Rattle.script.proofs.RunLaws.{Running}
use Rattle.script.proofs.run.run_script.Given as goal

abbrev pub invariant-loop-i : goal.invariant-loop-i
invariant-loop-i l = Running l.script l.initial.out l.out l.path (48 * l.i)
