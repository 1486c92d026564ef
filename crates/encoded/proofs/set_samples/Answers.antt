use borrow.Author.Rules.{rules}
use Rattle.rows.proofs.ViewLaws.{samples-length}
use Rattle.time_events.proofs.StoreLaws.{samples-part}
use Rattle.encoded.proofs.SaveLaws.{storing-start}
use Rattle.encoded.proofs.set_samples.Goals as goal

pub loop-i-init : goal.loop-i-init
loop-i-init c = storing-start samples-part (search rules) (samples-length _ (search rules))
