use mathlib.Core.Path.{◌∙◌}
use Rattle.choices.proofs.AnswerLaws.{best-from}
use Rattle.choices.proofs.words.best_in.Goals as goal

pub returns-in-Ok : goal.returns-in-Ok
returns-in-Ok c = c.score_at.ensures ∙ best-from c.args.field.now c.told-field c.choose_in.ensures c.in-Ok.is

pub returns-in-Err : goal.returns-in-Err
returns-in-Err c = c.best_refused.ensures ∙ best-from c.args.field.now c.told-field c.choose_in.ensures c.in-Err.is
