use borrow.Author.Rules.{rules}
use Rattle.base.proofs.SeqLaws.{searched-start}
use Rattle.rows.proofs.ViewLaws.{samples-length}
use Rattle.trips.proofs.first_used.Goals as goal

pub loop-i-init : goal.loop-i-init
loop-i-init c = searched-start (samples-length _ (search rules))
