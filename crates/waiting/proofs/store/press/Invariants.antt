use Rattle.waiting.proofs.ShutLaws.{Shut}
use Rattle.waiting.proofs.store.press.Given as goal

abbrev pub invariant-loop-r : goal.invariant-loop-r
invariant-loop-r l = Shut l.initial.p l.slot l.p l.w l.r
