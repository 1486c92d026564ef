use borrow.Author.Rules.{rules}
use Rattle.rows.proofs.ViewLaws.{samples-length}
use Rattle.trips.proofs.TripLaws.{lowering-first}
use Rattle.trips.proofs.least_of.Goals as goal

pub loop-k-init : goal.loop-k-init
loop-k-init c = lowering-first _ (samples-length _ (search rules))
