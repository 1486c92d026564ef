use borrow.Author.Rules.{rules}
use native.Mathlib.Omega.{arith}
use mathlib.Core.Path.{sym, ◌∙◌}
use Rattle.octets.proofs.Fill.{nothing, le-length}
use Rattle.standing.proofs.Laying.{laying-start, laying-next, laying-end}
use Rattle.standing.proofs.Writing.{written-not, written-whole}
use Rattle.standing.proofs.write.Goals as goal

pub returns-then-out-total : goal.returns-then-out-total
returns-then-out-total c = written-not _ _ _ c.parts-parts.ensures c.total.ensures c.if-out-total.true

pub loop-f-init : goal.loop-f-init
loop-f-init c = laying-start (search rules) (omega (arith, c.total.ensures, c.if-out-total.false)) (nothing _)

pub loop-f-preserved : goal.loop-f-preserved
loop-f-preserved c = laying-next c.loop-f.invariant c.loop-f-test.true _ (c.field-at.ensures.0 ∙ sym (le-length _ _)) c.field-at.ensures.1

pub returns : goal.returns
returns c = written-whole _ _ _ c.parts-parts.ensures (laying-end c.loop-f.invariant c.loop-f-test.false)
