use borrow.Author.Rules.{rules}
use Rattle.rows.proofs.ViewLaws.{late-length}
use Rattle.waiting.proofs.SoughtLaws.{sought-start}
use Rattle.waiting.proofs.search.find_late.Goals as goal

pub loop-i-init : goal.loop-i-init
loop-i-init c = sought-start (late-length _ (search rules))
