use Rattle.replay.proofs.ReplayLaws.{choose-done}
use Rattle.std.proofs.Common.{ne_eqb}
use Rattle.replay.specs.Replay.{choose_agrees}
use Rattle.replay.proofs.choose_agrees.Goals as goal

pub returns-then-bytes-ne816 : goal.returns-then-bytes-ne816
unfolding choose_agrees
returns-then-bytes-ne816 c = rw (ne_eqb _ _ c.if-bytes-ne816.true)

pub returns : goal.returns
returns c = choose-done _ c.if-bytes-ne816.false c.get.ensures.0 c.float_of-margin.ensures c.choose-chosen.ensures c.get-2.ensures.0 c.get-3.ensures.0 c.replies.ensures
