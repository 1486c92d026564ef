use borrow.Author.Rules.{rules}
use Rattle.rows.proofs.ViewLaws.{spans-length}
use Rattle.base.proofs.ScanLaws.{folding-start}
use Rattle.base.proofs.LeastLaws.{folding-least}
use Rattle.rtt.specs.Spans.{base_rtt}
use Rattle.trips.proofs.base_rtt.Goals as goal

pub loop-i-init : goal.loop-i-init
loop-i-init c = folding-start (spans-length _ (search rules))

pub returns : goal.returns
unfolding base_rtt
returns c = folding-least c.loop-i.invariant (search rules)
