-- `examples::examples` meets its contract: the lists are computed.
-- Assumes nothing.
use Rattle.examples.proofs.Computed.{all_right}
use Rattle.examples.proofs.examples.Goals as goal

pub returns : goal.returns
returns c = all_right
