use borrow.Author.Rules.{rules}
use mathlib.Core.Path.{ap, ◌∙◌}
use Rattle.select.specs.Choice.{best_of}
use Rattle.c_choice.proofs.ChoiceLaws.{best-cut, best-done, best-not, no-refusal, found-words, field-rows}
use Rattle.c_choice.proofs.best.Goals as goal

pub returns-then-field-ne-FIELD_LEN : goal.returns-then-field-ne-FIELD_LEN
returns-then-field-ne-FIELD_LEN c = best-cut _ _ c.if-field-ne-FIELD_LEN.true c.number.ensures

pub returns-in-Ok : goal.returns-in-Ok
returns-in-Ok c = best-done _ _ c.if-field-ne-FIELD_LEN.false (c.best_in.ensures ∙ ap best_of (field-rows _ c.rows_from-rows.ensures)) (no-refusal c.in-Ok.is) c.put_best.ensures.0 (found-words c.in-Ok.is c.tag.ensures c.map_or.ensures (λ x p. search rules)) c.put_best.ensures.1

pub returns-in-Err : goal.returns-in-Err
returns-in-Err c = best-not _ _ c.if-field-ne-FIELD_LEN.false (c.best_in.ensures ∙ ap best_of (field-rows _ c.rows_from-rows.ensures)) c.in-Err.is c.number-in-Err.ensures
