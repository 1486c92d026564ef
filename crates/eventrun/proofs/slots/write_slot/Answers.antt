use mathlib.Core.Path.{sym, ◌∙◌}
use Rattle.rows.specs.View.{slot_in}
use Rattle.eventrun.proofs.SlotLaws.{slot-not, slot-none, slot-told}
use Rattle.eventrun.proofs.slots.write_slot.Goals as goal

pub returns-then-out-n : goal.returns-then-out-n
returns-then-out-n c = (c.slot_size-n.ensures.0, slot-not _ _ c.slot_size-n.ensures.0 c.if-out-n.true)

pub returns-then-used : goal.returns-then-used
returns-then-used c = (c.slot_size-n.ensures.0, slot-told _ (slot_in c.args.p.now) _ (sym c.used.ensures ∙ c.if-used.true) c.slot_size-n.ensures.0 c.if-out-n.false c.put.ensures.1 c.told.ensures c.write.ensures.1)

pub returns : goal.returns
returns c = (c.slot_size-n.ensures.0, slot-none _ _ _ (sym c.used.ensures ∙ c.if-used.false))
