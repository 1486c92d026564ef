-- `rules::dues` meets its contract: the claim about the dues of every list of events.
-- Assumes nothing.
use Rattle.rules.proofs.Ahead.{dues-hold}
use Rattle.rules.proofs.dues.Goals as goal

pub returns : goal.returns
returns c = dues-hold
