use Rattle.std.proofs.Common.{arith}
use Rattle.base.proofs.MarkedLaws.{last_end}
use Rattle.rtt.proofs.marked.newest.Goals as goal

pub returns : goal.returns
returns g c = last_end c.loop-i.invariant (omega (arith, c.loop-i-test.false))
