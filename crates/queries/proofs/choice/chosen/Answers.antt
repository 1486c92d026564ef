use mathlib.Core.List.{map}
use mathlib.Core.Path.{sym, ◌∙◌}
use Rattle.rows.specs.View.{slot_in}
use Rattle.select.proofs.SlimLaws.{slot-picked}
use Rattle.queries.specs.Choosing.{chosen_of}
use Rattle.queries.proofs.ChoiceLaws.{picked-as, chosen-margin}
use Rattle.queries.proofs.choice.chosen.Goals as goal

pub returns-then-is_margin : goal.returns-then-is_margin
returns-then-is_margin c = chosen-margin _ _ c.float_of-margin.ensures (sym c.is_margin.ensures ∙ c.if-is_margin.true) (picked-as (map slot_in c.args.rec.now) _ c.rival_rows-field.ensures c.picked_in.ensures ∙ slot-picked _ _) c.choice_reply.ensures

pub returns : goal.returns
unfolding chosen_of
returns c = simp (← c.float_of-margin.ensures, sym c.is_margin.ensures ∙ c.if-is_margin.false)
