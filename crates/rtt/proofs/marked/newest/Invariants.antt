-- `rtt::marked::newest` meets its contract: one pass finds the leader.
use Rattle.std.proofs.Common.{length}
use Rattle.base.proofs.MarkedLaws.{LeadsLast}
use Rattle.rtt.specs.Marks.{later}
use Rattle.rtt.proofs.marked.newest.Given as goal

abbrev pub invariant-loop-i : goal.invariant-loop-i
invariant-loop-i g l = LeadsLast g.T.Marked.held (later g.T.Marked.since) g.T.Marked.gap l.l (length l.l) l.best l.place l.i
