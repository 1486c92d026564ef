-- `base::time::deadline` meets its contract: the loop runs the halvings of `halved`. The measure is the duration.
use Rattle.base.proofs.TimeLaws.{Halving}
use Rattle.base.proofs.time.deadline.Given as goal

abbrev pub invariant-loop-step : goal.invariant-loop-step
invariant-loop-step l = Halving 64 l.t l.d l.step

abbrev pub decreases-loop-step : goal.decreases-loop-step
decreases-loop-step l = l.step
