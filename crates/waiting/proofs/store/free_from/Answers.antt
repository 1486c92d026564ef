use borrow.Author.Rules.{rules}
use Rattle.waiting.proofs.ShutLaws.{freed-start, freed-skip, freed-next}
use Rattle.waiting.proofs.store.free_from.Goals.{then-from-k, else-from-k}
use Rattle.waiting.proofs.store.free_from.Goals as goal

pub loop-k-init : goal.loop-k-init
loop-k-init c = freed-start (search rules)

pub loop-k-preserved : goal.loop-k-preserved
loop-k-preserved c =
    elim c.if-from-k.branch [
      | then-from-k w ↦ rw w.p-is (freed-next c.loop-k.invariant c.loop-k-test.true w.if-from-k.true c.none-free.ensures w.set_sent.ensures)
      | else-from-k w ↦ rw w.p-is (freed-skip c.loop-k.invariant w.if-from-k.false)
    ]
