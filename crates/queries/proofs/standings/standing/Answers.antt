use Rattle.std.proofs.Common.{rules}
use mathlib.Core.Path.{sym, ap, ◌∙◌}
use mathlib.Core.List.{[], map}
use lib.ListN.{length-map, get_or-map}
use Rattle.rules.specs.declared.types.Slot.{Slot}
use Rattle.standing.proofs.Writing.{slot-above, slot-told, slot-empty}
use Rattle.standing.specs.Standing.{standing_of}
use Rattle.rows.specs.View.{slot_in}
use Rattle.queries.proofs.standings.standing.Goals as goal

pub returns-then-slot-gt7 : goal.returns-then-slot-gt7
returns-then-slot-gt7 c = slot-above (map slot_in c.args.rec.now) _ c.args.out.now c.if-slot-gt7.true

pub returns-then-used : goal.returns-then-used
returns-then-used c = slot-told (map slot_in c.args.rec.now) _ c.args.out.now c.if-slot-gt7.false (length-map c.args.rec.now slot_in ∙ (search rules)) (slot_in []) (ap (λ (s : Slot). s.used) (get_or-map slot_in c.args.rec.now _ []) ∙ sym c.used.ensures ∙ c.if-used.true) (c.told.ensures ∙ sym (ap (λ (s : Slot). standing_of s.path) (get_or-map slot_in c.args.rec.now _ []))) c.write.ensures

pub returns : goal.returns
returns c = slot-empty (map slot_in c.args.rec.now) _ c.args.out.now c.if-slot-gt7.false (length-map c.args.rec.now slot_in ∙ (search rules)) (slot_in []) (ap (λ (s : Slot). s.used) (get_or-map slot_in c.args.rec.now _ []) ∙ sym c.used.ensures ∙ c.if-used.false)
