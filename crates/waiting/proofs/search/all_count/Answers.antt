use borrow.Author.Rules.{rules}
use Rattle.rows.proofs.ViewLaws.{ring-length}
use Rattle.base.proofs.SeqLaws.{passed_start}
use Rattle.waiting.proofs.search.all_count.Goals as goal

pub loop-i-init : goal.loop-i-init
loop-i-init c = passed_start (ring-length _ (search rules))
