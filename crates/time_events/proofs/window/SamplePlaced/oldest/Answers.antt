use borrow.Author.Rules.{rules}
use Rattle.std.proofs.Common.{arith}
use Rattle.base.proofs.MarkedLaws.{first-end}
use Rattle.rows.specs.View.{path_in}
use Rattle.rows.proofs.ViewLaws.{samples-length}
use Rattle.time_events.proofs.LeadLaws.{led-start, led-two}
use Rattle.time_events.proofs.window.SamplePlaced.oldest.Goals as goal

pub loop-k-init : goal.loop-k-init
loop-k-init c = led-start (samples-length _ (search rules))

pub loop-k-preserved : goal.loop-k-preserved
loop-k-preserved c = led-two (path_in c.args.p.now).rtts.samples c.loop-k.k c.loop-k.invariant (omega arith) c.sample.ensures c.led-l.ensures c.sample-in-loop-k.ensures c.led-l-in-loop-k.ensures

pub returns : goal.returns
returns c = first-end c.loop-k.invariant.leads (omega arith)
