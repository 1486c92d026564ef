use borrow.Author.Rules.{rules}
use Rattle.probe_events.proofs.SweepLaws.{swept-start, swept-skip, swept-store, swept-end}
use Rattle.probe_events.proofs.events.sweep.Goals.{then-s, else-s}
use Rattle.probe_events.proofs.events.sweep.Goals as goal

pub loop-i-init : goal.loop-i-init
loop-i-init c = swept-start (search rules) c.late_of-late.ensures

pub loop-i-preserved : goal.loop-i-preserved
loop-i-preserved c =
    elim c.if-s.branch [
      | then-s w ↦ rw (w.late-is, w.n-is) (swept-store c.loop-i.invariant c.loop-i-test.true c.sent-s.ensures w.if-s.true w.remember-next.ensures)
      | else-s w ↦ rw (w.late-is, w.n-is) (swept-skip c.loop-i.invariant c.loop-i-test.true c.sent-s.ensures w.if-s.false)
    ]

pub returns : goal.returns
returns c = swept-end c.loop-i.invariant (search rules) c.set_lates.ensures c.free_from.ensures
