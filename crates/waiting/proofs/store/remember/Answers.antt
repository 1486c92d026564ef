use borrow.Author.Rules.{rules}
use Rattle.waiting.proofs.LateLaws.{late-shifted}
use Rattle.waiting.proofs.store.remember.Goals as goal

pub returns : goal.returns
returns c = late-shifted c.args.p.now (search rules) _ c.move_late.ensures c.move_late-2.ensures c.move_late-3.ensures c.set_late.ensures
