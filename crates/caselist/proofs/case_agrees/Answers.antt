use Rattle.caselist.proofs.CaseLaws.{case-told, case-cut}
use Rattle.caselist.proofs.case_agrees.Goals as goal

pub returns-then-is_whole : goal.returns-then-is_whole
returns-then-is_whole c = case-told c.args.s.now c.args.at c.get-n.ensures.0 c.get-m.ensures.0 c.is_whole.ensures c.if-is_whole.true c.args.listed c.parts_agree.ensures

pub returns : goal.returns
returns c = case-cut c.args.listed c.args.s.now c.args.at c.is_whole.ensures c.if-is_whole.false
