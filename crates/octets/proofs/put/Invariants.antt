use Rattle.octets.proofs.Write.{Wrote}
use Rattle.octets.proofs.put.Given as goal

abbrev pub invariant-loop-b : goal.invariant-loop-b
invariant-loop-b l = Wrote l.width l.x l.b-items l.rest l.b-index
