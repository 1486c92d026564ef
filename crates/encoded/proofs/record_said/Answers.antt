use native.Mathlib.Omega.{arith}
use Rattle.encoded.proofs.SaveLaws.{record-saved}
use Rattle.encoded.proofs.record_said.Goals as goal

pub returns : goal.returns
returns c = record-saved _ c.loop-i.invariant (omega arith)
