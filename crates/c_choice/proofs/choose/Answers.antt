use Rattle.c_choice.proofs.ChoiceLaws.{choose-rows}
use Rattle.c_choice.proofs.choose.Goals as goal

pub returns : goal.returns
returns c = choose-rows _ _ c.if-field-ne-FIELD_LEN.false c.rows_from-rows.ensures c.choose_in.ensures c.of_chosen.ensures
