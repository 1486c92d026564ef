-- `rules::demand3` meets its contract: the claim about every list of events.
-- Assumes nothing.
use Rattle.rules.proofs.Whole.{demand3}
use Rattle.rules.proofs.demand3.Goals as goal

pub returns : goal.returns
returns c = demand3
