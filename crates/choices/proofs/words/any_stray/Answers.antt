use mathlib.Core.Path.{refl}
use Rattle.choices.proofs.AnswerLaws.{placing-start, placing-next, placing-end}
use Rattle.choices.proofs.words.any_stray.Goals as goal

pub loop-i-init : goal.loop-i-init
loop-i-init c = placing-start c.told-field

pub loop-i-preserved : goal.loop-i-preserved
loop-i-preserved c = placing-next c.loop-i.invariant c.loop-i-test.true c.at_place-here.ensures refl

pub returns : goal.returns
returns c = placing-end c.loop-i.invariant c.loop-i-test.false
