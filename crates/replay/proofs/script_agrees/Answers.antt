use Rattle.replay.proofs.ReplayLaws.{script-done, tail_from}
use Rattle.std.proofs.Common.{ne_eqb}
use Rattle.replay.specs.Replay.{script_agrees}
use Rattle.replay.proofs.script_agrees.Goals as goal

pub returns-then-bytes-ne7944 : goal.returns-then-bytes-ne7944
unfolding script_agrees
returns-then-bytes-ne7944 c = rw (ne_eqb _ _ c.if-bytes-ne7944.true)

pub returns : goal.returns
returns c = script-done _ c.if-bytes-ne7944.false c.run_script-number.ensures.0 c.run_script-number.ensures.1 (tail_from c.args.bytes.now 3072) c.same-same.ensures
