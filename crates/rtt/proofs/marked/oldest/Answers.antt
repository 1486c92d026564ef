use Rattle.std.proofs.Common.{arith}
use Rattle.base.proofs.MarkedLaws.{first-end}
use Rattle.rtt.proofs.marked.oldest.Goals as goal

pub returns : goal.returns
returns g c = first-end c.loop-i.invariant (omega (arith, c.loop-i-test.false))
