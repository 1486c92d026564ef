use Rattle.octets.proofs.Read.{Reading}
use Rattle.octets.proofs.get.Given as goal

abbrev pub invariant-loop-i : goal.invariant-loop-i
invariant-loop-i l = Reading l.s l.at l.width l.i l.x
