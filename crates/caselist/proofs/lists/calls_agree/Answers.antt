use Rattle.caselist.proofs.ListLaws.{going_next}
use Rattle.caselist.proofs.lists.calls_agree.Goals as goal

pub loop-i-preserved : goal.loop-i-preserved
loop-i-preserved c = going_next c.loop-i.invariant c.loop-i-test.true c.call_agrees-one.ensures
