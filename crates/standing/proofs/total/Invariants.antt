use Rattle.standing.specs.Standing.{bytes_in}
use Rattle.standing.proofs.Laying.{Adding}
use Rattle.standing.proofs.total.Given as goal

abbrev pub invariant-loop-f : goal.invariant-loop-f
invariant-loop-f l = Adding bytes_in 255 l.f-items 9 l.n l.f-index
