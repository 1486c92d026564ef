use borrow.Author.Rules.{rules}
use Rattle.std.proofs.Common.{arith}
use Rattle.rows.proofs.ViewLaws.{samples-length}
use Rattle.rtt.specs.Samples.{no_sample}
use Rattle.time_events.proofs.StoreLaws.{samples-part, dropping-start, dropping-two}
use Rattle.time_events.proofs.window.forget.Goals as goal

pub loop-k-init : goal.loop-k-init
loop-k-init c = dropping-start samples-part (samples-length _ (search rules))

pub loop-k-preserved : goal.loop-k-preserved
loop-k-preserved c = dropping-two samples-part c.loop-k.k no_sample c.loop-k.invariant (omega arith) c.forget_at.ensures c.forget_at-in-loop-k.ensures
