use Rattle.std.proofs.Common.{not}
use Rattle.base.proofs.SeqLaws.{Searched}
use Rattle.time_events.proofs.places.gap.Given as goal

abbrev pub invariant-loop-i : goal.invariant-loop-i
invariant-loop-i g l = Searched (λ x. not (g.T.Marked.held x)) (g.T.Placed.places l.p) g.T.Placed.PLACES l.i
