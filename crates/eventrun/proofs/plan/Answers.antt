use Rattle.eventrun.proofs.RunLaws.{plan-cut, plan-scan, plan-large}
use Rattle.eventrun.proofs.plan.Goals as goal

pub returns-then-file-lt32 : goal.returns-then-file-lt32
returns-then-file-lt32 c = plan-cut c.args.file.now c.args.t.now c.args.rec.now c.if-file-lt32.true

pub returns-then-number_of-eq0 : goal.returns-then-number_of-eq0
returns-then-number_of-eq0 c = plan-scan c.args.file.now c.args.t.now c.args.rec.now c.settings_from.ensures c.new-made.ensures c.if-file-lt32.false c.number_of.ensures c.if-number_of-eq0.true c.scan.ensures

pub returns : goal.returns
returns c = plan-large c.args.file.now c.args.t.now c.args.rec.now c.settings_from.ensures c.new-made.ensures c.if-file-lt32.false c.number_of.ensures c.if-number_of-eq0.false
