use borrow.Author.Rules.{rules}
use Rattle.rows.proofs.ViewLaws.{spans-length}
use Rattle.time_events.proofs.StoreLaws.{spans-part}
use Rattle.encoded.proofs.SaveLaws.{storing-start}
use Rattle.encoded.proofs.set_spans.Goals as goal

pub loop-i-init : goal.loop-i-init
loop-i-init c = storing-start spans-part (search rules) (spans-length _ (search rules))
