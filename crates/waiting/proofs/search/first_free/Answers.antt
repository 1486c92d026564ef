use borrow.Author.Rules.{rules}
use Rattle.rows.proofs.ViewLaws.{ring-length}
use Rattle.waiting.proofs.SoughtLaws.{sought-start}
use Rattle.waiting.proofs.search.first_free.Goals as goal

pub loop-i-init : goal.loop-i-init
loop-i-init c = sought-start (ring-length _ (search rules))
