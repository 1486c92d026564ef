use borrow.Author.Tests.{eq-eqb, ne_eqb}
use mathlib.Core.Path.{sym, ◌∙◌}
use Rattle.session.proofs.StepLaws.{allowed-by, fresh-by}
use Rattle.replay.proofs.ReplayLaws.{tail_from}
use Rattle.caselist.proofs.ListLaws.{list-cut, list-refused, list-told}
use Rattle.caselist.proofs.lists.list_agrees.Goals as goal

pub returns-then-told-lt32 : goal.returns-then-told-lt32
returns-then-told-lt32 c = let a = c.args in list-cut a.told.now a.given.now c.if-told-lt32.true

pub returns-then-number_of-eq0 : goal.returns-then-number_of-eq0
returns-then-number_of-eq0 c = let a = c.args in let told = a.told.now in let y = sym (allowed-by told c.settings_from.ensures c.new-reply.ensures.0 c.number_of.ensures) ∙ eq-eqb _ _ c.if-number_of-eq0.true in list-told told a.given.now c.new-reply.new.t c.new-reply.new.rec c.calls_agree-answers.new.rec c.if-told-lt32.false y (fresh-by told _ _ c.settings_from.ensures y c.new-reply.ensures.1 c.new-reply.ensures.2).says (tail_from told 32) c.calls_agree-answers.ensures c.standings_agree-standings.ensures

pub returns : goal.returns
returns c = let a = c.args in let told = a.told.now in list-refused told a.given.now c.if-told-lt32.false (sym (allowed-by told c.settings_from.ensures c.new-reply.ensures.0 c.number_of.ensures) ∙ ne_eqb _ _ c.if-number_of-eq0.false)
