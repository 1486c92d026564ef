use Rattle.std.proofs.Common.{◌-◌}
use Rattle.session.proofs.RunLaws.{Going}
use Rattle.session.proofs.run.run.Given as goal

abbrev pub invariant-loop-i : goal.invariant-loop-i
invariant-loop-i l = Going l.initial.out l.s l.t l.initial.rec l.initial.n l.initial.p l.most l.out l.rec l.n l.p l.at l._i
