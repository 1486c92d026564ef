use borrow.Author.Rules.{rules}
use mathlib.Core.Path.{sym, ◌∙◌}
use Rattle.octets.proofs.Fill.{le-length}
use Rattle.standing.proofs.Laying.{adding-start, adding-next}
use Rattle.standing.proofs.total.Goals as goal

pub loop-f-init : goal.loop-f-init
loop-f-init c = adding-start (search rules)

pub loop-f-preserved : goal.loop-f-preserved
loop-f-preserved c = adding-next c.loop-f.invariant c.loop-f-test.true _ (c.width-n.ensures.0 ∙ sym (le-length _ _)) c.width-n.ensures.1
