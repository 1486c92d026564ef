use mathlib.Core.Path.{refl}
use Rattle.choices.proofs.AnswerLaws.{looking-start, looking-next, looking-end}
use Rattle.choices.proofs.words.any_past.Goals as goal

pub loop-w-init : goal.loop-w-init
loop-w-init c = looking-start c.told-field

pub loop-w-preserved : goal.loop-w-preserved
loop-w-preserved c = looking-next c.loop-w.invariant c.loop-w-test.true c.held.ensures c.past.ensures refl

pub returns : goal.returns
returns c = looking-end c.loop-w.invariant c.loop-w-test.false
