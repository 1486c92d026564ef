use borrow.Author.Rules.{rules}
use Rattle.rows.proofs.ViewLaws.{ring-length}
use Rattle.encoded.proofs.SaveLaws.{ring-part, storing-start}
use Rattle.encoded.proofs.set_ring.Goals as goal

pub loop-i-init : goal.loop-i-init
loop-i-init c = storing-start ring-part (search rules) (ring-length _ (search rules))
