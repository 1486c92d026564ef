use Rattle.session.proofs.StopLaws.{begin-is}
use Rattle.portions.proofs.calls.begin.Goals as goal

pub returns : goal.returns
returns c = let a = c.args in begin-is a.t.now a.rec.now c.new.ensures.1 c.new.ensures.2
