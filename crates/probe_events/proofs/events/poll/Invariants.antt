use Rattle.probe_events.proofs.ScanLaws.{PollTo}
use Rattle.probe_events.proofs.events.poll.Given as goal

abbrev pub invariant-loop-n : goal.invariant-loop-n
invariant-loop-n l = PollTo l.initial.p l.at l.overdue l.cap l.p l.n
