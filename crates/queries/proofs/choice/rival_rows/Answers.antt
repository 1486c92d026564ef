use mathlib.Core.List.{[]}
use mathlib.Core.Path.{sym, ap, ◌∙◌}
use lib.ListN.{get_or-map}
use Rattle.select.specs.Slim.{slim_of}
use Rattle.rules.specs.Step.{rival_of}
use Rattle.rules.specs.declared.types.Slot.{Slot}
use Rattle.rows.specs.View.{slot_in}
use Rattle.queries.proofs.ChoiceLaws.{rowing-next}
use Rattle.queries.proofs.choice.rival_rows.Goals as goal

pub loop-i-preserved : goal.loop-i-preserved
loop-i-preserved c = rowing-next (slot_in []) c.loop-i.invariant c.loop-i-test.true (c.rival.ensures ∙ ap (λ (s : Slot). slim_of (rival_of c.loop-i.i s)) (sym (get_or-map slot_in c.args.rec.now c.loop-i.i []))) c.row_of.ensures
