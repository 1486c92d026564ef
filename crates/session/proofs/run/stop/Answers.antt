use Rattle.session.proofs.StopLaws.{waits-other, waits-cut, stop-rest}
use Rattle.session.proofs.run.stop.Goals as goal

pub returns-then-refusal-eq13 : goal.returns-then-refusal-eq13
returns-then-refusal-eq13 c = let a = c.args in stop-rest a.number a.x a.place _ a.at (waits-cut c.in-Refused.is c.number-refusal.ensures c.if-refusal-eq13.true) c.call_at-rest.ensures

pub returns-in_default : goal.returns-in_default
returns-in_default c = let a = c.args in stop-rest a.number a.x a.place _ a.at (waits-other a.x c.in_default.not-Refused) c.call_at-rest.ensures
