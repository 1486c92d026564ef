use Prim.Native.Nat.{◌-◌}
use Rattle.session.proofs.HeldLaws.{Moving}
use Rattle.portions.proofs.held.shift.Given as goal

abbrev pub invariant-loop-j : goal.invariant-loop-j
invariant-loop-j l = Moving l.initial.buf l.from l.to l.buf (l.j - l.from) l.j
