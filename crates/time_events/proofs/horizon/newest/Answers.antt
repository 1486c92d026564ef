use Rattle.std.proofs.Common.{refl, rules}
use Rattle.rows.proofs.ViewLaws.{spans-length}
use Rattle.base.proofs.MarkedLaws.{leading-start, last_end}
use Rattle.time_events.proofs.horizon.newest.Goals as goal

pub loop-i-init : goal.loop-i-init
loop-i-init c = rw c.none-best.ensures (leading-start refl (spans-length _ (search rules)))

pub returns : goal.returns
returns c = last_end c.loop-i.invariant (search rules)
