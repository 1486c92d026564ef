-- `lines::places` meets its contract: the tenths that are left are counted.
use Rattle.lines.proofs.TextLaws.{Counted}
use Rattle.lines.proofs.places.Given as goal

abbrev pub invariant-loop-rest : goal.invariant-loop-rest
invariant-loop-rest l = Counted l.x l.k l.rest

abbrev pub decreases-loop-rest : goal.decreases-loop-rest
decreases-loop-rest l = l.rest
