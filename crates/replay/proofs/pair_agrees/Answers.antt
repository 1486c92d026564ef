use Rattle.std.proofs.Common.{eq-eqb, ne_eqb}
use Rattle.replay.specs.Replay.{pair_agrees}
use Rattle.replay.proofs.pair_agrees.Goals as goal

pub returns-then-bytes-ne232 : goal.returns-then-bytes-ne232
unfolding pair_agrees
returns-then-bytes-ne232 c = rw (ne_eqb _ _ c.if-bytes-ne232.true)

pub returns : goal.returns
unfolding pair_agrees
returns c = rw (eq-eqb _ _ c.if-bytes-ne232.false) cc
