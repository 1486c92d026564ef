use Rattle.std.proofs.Common.{rules}
use Rattle.ring.proofs.SweepLaws.{sweeping-store, sweeping-skip}
use Rattle.ring.proofs.ring.sweep.Goals as goal
use Rattle.ring.proofs.ring.sweep.Goals.{then-s, else-s}

pub loop-s-preserved : goal.loop-s-preserved
loop-s-preserved c =
    elim c.if-s.branch [
      | then-s w ↦ rw w.late-is (sweeping-store _ c.loop-s.invariant (search rules) w.if-s.true w.remember-next.ensures)
      | else-s w ↦ rw w.late-is (sweeping-skip _ c.loop-s.invariant (search rules) w.if-s.false)
    ]
