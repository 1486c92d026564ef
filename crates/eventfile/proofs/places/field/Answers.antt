use Rattle.octets.proofs.Read.{none-small}
use Rattle.eventfile.proofs.places.field.Goals as goal

pub returns-else-on : goal.returns-else-on
returns-else-on c = (rw c.if-on.false, none-small _)
