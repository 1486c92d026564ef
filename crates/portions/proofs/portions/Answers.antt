-- `portions::portions` meets its contract: the claim about every list of portions.
use Rattle.session.proofs.PortionLaws.{portions-hold}
use Rattle.portions.proofs.portions.Goals as goal

pub returns : goal.returns
returns c = portions-hold
