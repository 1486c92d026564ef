-- `rtt::marked::oldest` meets its contract: one pass finds the leader.
use Rattle.std.proofs.Common.{length}
use Rattle.base.proofs.MarkedLaws.{LeadsFirst}
use Rattle.rtt.specs.Marks.{earlier}
use Rattle.rtt.proofs.marked.oldest.Given as goal

abbrev pub invariant-loop-i : goal.invariant-loop-i
invariant-loop-i g l = LeadsFirst g.T.Marked.held (earlier g.T.Marked.since) g.T.Marked.gap l.l (length l.l) l.best l.place l.i
