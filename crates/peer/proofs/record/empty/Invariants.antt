use mathlib.Core.List.{[]}
use Rattle.rules.specs.Rules.{empty_slot}
use Rattle.rows.specs.Encode.{slot_rows}
use Rattle.rows.proofs.CloseLaws.{Clearing}
use Rattle.peer.proofs.record.empty.Given as goal

abbrev pub invariant-loop-i : goal.invariant-loop-i
invariant-loop-i l = Clearing (slot_rows empty_slot) [] 8 l.rec l.i
