use borrow.Author.Rules.{rules}
use mathlib.Core.Path.{◌∙◌}
use mathlib.Core.List.{[], map}
use lib.ListN.{length-map}
use Rattle.rows.specs.View.{slot_in}
use Rattle.eventrun.proofs.SlotLaws.{sizes-start, sizes-next, sizes-end, size-at}
use Rattle.eventrun.proofs.slots.slots_size.Goals as goal

pub loop-p-init : goal.loop-p-init
loop-p-init c = sizes-start (map slot_in c.args.rec.now) (length-map c.args.rec.now slot_in ∙ search rules)

pub loop-p-preserved : goal.loop-p-preserved
loop-p-preserved c = sizes-next (map slot_in c.args.rec.now) (length-map c.args.rec.now slot_in ∙ search rules) c.loop-p.invariant c.loop-p-test.true (slot_in []) (size-at c.args.rec.now c.loop-p.p-index c.slot_size-n.ensures.0, c.slot_size-n.ensures.1)

pub returns : goal.returns
returns c = sizes-end (map slot_in c.args.rec.now) (length-map c.args.rec.now slot_in ∙ search rules) c.loop-p.invariant c.loop-p-test.false
