use borrow.Author.Rules.{rules}
use Rattle.caselist.proofs.StandLaws.{slot_same}
use borrow.Author.Rules.{rules}
use Rattle.caselist.proofs.lists.slot_agrees.Goals as goal

pub returns : goal.returns
returns c = let a = c.args in slot_same a.rec.now a.slot (search rules) a.given.now c.standing.ensures.1 c.same.ensures
