use Prim.Native.Nat.{◌-◌}
use Rattle.caselist.proofs.ListLaws.{Going}
use Rattle.caselist.proofs.lists.calls_agree.Given as goal

abbrev pub invariant-loop-i : goal.invariant-loop-i
invariant-loop-i l = Going l.t l.s l.initial.rec l.n l.rec l.same l.i
