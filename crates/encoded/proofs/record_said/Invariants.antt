use Rattle.encoded.proofs.SaveLaws.{Said}
use Rattle.encoded.proofs.record_said.Given as goal

abbrev pub invariant-loop-i : goal.invariant-loop-i
invariant-loop-i l = Said l.rec.slots l.i
