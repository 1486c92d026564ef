use Rattle.base.proofs.ScanLaws.{mapping-next}
use borrow.Author.Rules.{rules}
use Rattle.samples.proofs.dropped.Goals as goal

pub loop-i-preserved : goal.loop-i-preserved
loop-i-preserved c = mapping-next _ c.loop-i.invariant (search rules) c.kept.ensures
