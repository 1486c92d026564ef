use Rattle.replay.proofs.ReplayLaws.{best-done, tail_from}
use Rattle.std.proofs.Common.{ne_eqb}
use Rattle.replay.specs.Replay.{best_agrees}
use Rattle.replay.proofs.best_agrees.Goals as goal

pub returns-then-bytes-ne816 : goal.returns-then-bytes-ne816
unfolding best_agrees
returns-then-bytes-ne816 c = rw (ne_eqb _ _ c.if-bytes-ne816.true)

pub returns : goal.returns
returns c = best-done _ c.if-bytes-ne816.false c.best-number.ensures.0 c.get.ensures.0 c.best-number.ensures.1 (tail_from c.args.bytes.now 800) c.same-same.ensures
