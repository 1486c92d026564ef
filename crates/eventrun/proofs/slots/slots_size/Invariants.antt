use Prim.Native.Nat.{◌-◌}
use mathlib.Core.List.{map}
use Rattle.standing.proofs.Laying.{Adding}
use Rattle.rows.specs.View.{slot_in}
use Rattle.eventrun.proofs.SlotLaws.{numbered, bytes_at}
use Rattle.eventrun.proofs.slots.slots_size.Given as goal

abbrev pub invariant-loop-p : goal.invariant-loop-p
invariant-loop-p l = Adding bytes_at 52 (numbered 0 (map slot_in l.rec)) 8 l.n l.p-index
