-- `examples::changes` meets its contract: the lists are computed.
-- Assumes nothing.
use Rattle.examples.proofs.Changed.{all_right}
use Rattle.examples.proofs.changes.Goals as goal

pub returns : goal.returns
returns c = all_right
