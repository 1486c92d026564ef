use Rattle.standing.specs.Standing.{bytes_in}
use Rattle.standing.proofs.Laying.{Laying}
use mathlib.Core.List.{[]}
use Rattle.standing.proofs.write.Given as goal

abbrev pub invariant-loop-f : goal.invariant-loop-f
invariant-loop-f l = Laying bytes_in l.f-items 9 l.initial.out [] l.out l.at l.f-index
