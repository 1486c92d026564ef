use Rattle.std.proofs.Common.{rules}
use Rattle.base.proofs.SeqLaws.{packing-store, packing-skip}
use Rattle.ring.proofs.ring.compact.Goals as goal
use Rattle.ring.proofs.ring.compact.Goals.{then-s, else-s}

pub loop-s-preserved : goal.loop-s-preserved
loop-s-preserved c =
    elim c.if-s.branch [
      | then-s w ↦ rw (w.out-is, w.w-is) (packing-store _ c.loop-s.invariant (search rules) w.if-s.true)
      | else-s w ↦ rw (w.out-is, w.w-is) (packing-skip _ c.loop-s.invariant (search rules) w.if-s.false)
    ]
