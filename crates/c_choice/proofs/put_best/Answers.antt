use Rattle.c_choice.proofs.ChoiceLaws.{lent-yes, lent-no}
use mathlib.Core.Path.{◌∙◌}
use Rattle.c_choice.proofs.put_best.Goals as goal

pub returns-then-put_words : goal.returns-then-put_words
returns-then-put_words c = (
  lent-yes c.args.tag
      c.args.bits _
      c.put_words.ensures.0 c.if-put_words.true,
  c.put_words.ensures.1,
)

pub returns : goal.returns
returns c = (
  c.number.ensures ∙ lent-no c.args.tag
      c.args.bits _
      c.put_words.ensures.0 c.if-put_words.false,
  c.put_words.ensures.1,
)
