use Rattle.caselist.proofs.CaseLaws.{end_whole, end-cut}
use Rattle.caselist.proofs.case_end.Goals as goal

pub returns-then-is_whole : goal.returns-then-is_whole
returns-then-is_whole c = end_whole c.args.s.now c.args.at c.get-n.ensures.0 c.get-m.ensures.0 c.is_whole.ensures c.if-is_whole.true

pub returns : goal.returns
returns c = end-cut c.args.s.now c.args.at c.is_whole.ensures c.if-is_whole.false
