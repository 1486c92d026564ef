use borrow.Author.Rules.{rules}
use native.Mathlib.Omega.{arith}
use Rattle.lines.proofs.TextLaws.{counted_start, counted_next, counted-end}
use Rattle.lines.proofs.places.Goals as goal

pub loop-rest-init : goal.loop-rest-init
loop-rest-init c = counted_start _ (search rules)

pub overflow_add-k : goal.overflow_add-k
overflow_add-k c = omega (arith, c.loop-rest.invariant.few)

pub loop-rest-smaller : goal.loop-rest-smaller
loop-rest-smaller c = omega arith

pub loop-rest-preserved : goal.loop-rest-preserved
loop-rest-preserved c = counted_next c.loop-rest.invariant (omega (arith, c.loop-rest-test.true))

pub returns : goal.returns
returns c = (counted-end c.loop-rest.invariant (omega (arith, c.loop-rest-test.false)), c.loop-rest.invariant.few)
