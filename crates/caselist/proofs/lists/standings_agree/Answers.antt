use borrow.Author.Rules.{rules}
use mathlib.Core.Path.{◌∙◌}
use native.Mathlib.Omega.{arith}
use lib.ListN.{length-map}
use Rattle.rows.specs.View.{slot_in}
use Rattle.caselist.proofs.StandLaws.{comparing-next, comparing-end, standings-long}
use Rattle.caselist.proofs.lists.standings_agree.Goals as goal

pub returns-then-given-ne408 : goal.returns-then-given-ne408
returns-then-given-ne408 c = let a = c.args in standings-long _ _ (length-map a.rec.now slot_in ∙ search rules) c.if-given-ne408.true

pub loop-i-preserved : goal.loop-i-preserved
loop-i-preserved c = comparing-next c.loop-i.invariant (omega (arith, c.loop-i-test.true)) c.slot_agrees-one.ensures

pub returns : goal.returns
returns c = comparing-end c.loop-i.invariant (omega (arith, c.loop-i-test.false))
