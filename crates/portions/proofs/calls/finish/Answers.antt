use Rattle.session.proofs.StopLaws.{last-over, last-other, finish-none}
use Rattle.portions.proofs.calls.finish.Goals as goal

pub returns-in_default : goal.returns-in_default
returns-in_default c = let a = c.args in finish-none _ (last-other a.s.now a.mark.number c.in-Running.is c.record_at.ensures c.in_default.not-Refused)

pub returns-in-Over : goal.returns-in-Over
returns-in-Over c = let a = c.args in finish-none _ (last-over a.mark.number a.s.now c.in-Over.is)
