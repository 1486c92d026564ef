use Prim.Native.Nat.{◌-◌}
use mathlib.Core.List.{[], map}
use Rattle.standing.proofs.Laying.{Laying}
use Rattle.rows.specs.View.{slot_in}
use Rattle.eventrun.proofs.SlotLaws.{numbered, bytes_at}
use Rattle.eventrun.proofs.slots.write_slots.Given as goal

abbrev pub invariant-loop-i : goal.invariant-loop-i
invariant-loop-i l = Laying bytes_at (numbered 0 (map slot_in l.rec)) 8 l.initial.out [] l.out l.at l.i
