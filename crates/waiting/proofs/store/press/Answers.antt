use borrow.Author.Rules.{rules}
use Rattle.waiting.proofs.ShutLaws.{shut-start, shut-skip, shut-move}
use Rattle.waiting.proofs.store.press.Goals.{then-sent-r, else-sent-r}
use Rattle.waiting.proofs.store.press.Goals as goal

pub loop-r-init : goal.loop-r-init
loop-r-init c = shut-start (search rules)

pub loop-r-preserved : goal.loop-r-preserved
loop-r-preserved c =
    elim c.if-sent-r.branch [
      | then-sent-r w ↦ rw (w.p-is, w.w-is) (shut-move c.loop-r.invariant c.loop-r-test.true c.sent.ensures w.if-sent-r.true w.move_sent.ensures)
      | else-sent-r w ↦ rw (w.p-is, w.w-is) (shut-skip c.loop-r.invariant c.loop-r-test.true c.sent.ensures w.if-sent-r.false)
    ]
