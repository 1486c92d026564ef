use Rattle.probe_events.proofs.SweepLaws.{SweptTo}
use Rattle.probe_events.proofs.events.sweep.Given as goal

abbrev pub invariant-loop-i : goal.invariant-loop-i
invariant-loop-i l = SweptTo l.p l.late l.n l.i
