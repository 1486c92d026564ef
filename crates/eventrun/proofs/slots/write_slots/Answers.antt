use Prim.Native.Nat.{◌<◌, ◌^◌}
use mathlib.Core.Path.{◌∙◌}
use mathlib.Core.List.{[], map}
use native.Mathlib.Omega.{arith}
use lib.ListN.{length, length-map}
use Rattle.octets.proofs.Fill.{filled-length}
use Rattle.rows.specs.View.{slot_in}
use Rattle.eventrun.proofs.SlotLaws.{size-at, bytes-at, told-start, told-room, told-next, told-end, told-not}
use borrow.Author.Rules.{rules}
use Rattle.eventrun.proofs.slots.write_slots.Goals as goal

pub returns-then-out-slots_size : goal.returns-then-out-slots_size
returns-then-out-slots_size c = told-not _ c.slots_size.ensures.0 c.if-out-slots_size.true

pub loop-i-init : goal.loop-i-init
loop-i-init c = told-start (map slot_in c.args.rec.now) (length-map c.args.rec.now slot_in ∙ search rules) c.slots_size.ensures.0 c.if-out-slots_size.false

pub overflow_add-at : goal.overflow_add-at
overflow_add-at c =
    let h : length c.args.out.now < 2 ^ 64 = search rules in
    omega (arith, h, filled-length c.loop-i.invariant.done, told-room (map slot_in c.args.rec.now) (length-map c.args.rec.now slot_in ∙ search rules) c.loop-i.invariant c.loop-i-test.true (slot_in []) (size-at c.args.rec.now c.loop-i.i c.write_slot-at.ensures.0))

pub loop-i-preserved : goal.loop-i-preserved
loop-i-preserved c = told-next (map slot_in c.args.rec.now) (length-map c.args.rec.now slot_in ∙ search rules) c.loop-i.invariant c.loop-i-test.true (slot_in []) (size-at c.args.rec.now c.loop-i.i c.write_slot-at.ensures.0) (bytes-at c.args.rec.now c.loop-i.i _ c.write_slot-at.ensures.1)

pub returns : goal.returns
returns c = told-end (map slot_in c.args.rec.now) (length-map c.args.rec.now slot_in ∙ search rules) c.loop-i.invariant c.loop-i-test.false
