use Rattle.std.proofs.Common.{◌*◌}
use Rattle.rows.specs.View.{path_in}
use Rattle.time_events.proofs.LeadLaws.{Leading}
use Rattle.time_events.proofs.window.SamplePlaced.oldest.Given as goal

abbrev pub invariant-loop-k : goal.invariant-loop-k
invariant-loop-k l = Leading (path_in l.p).rtts.samples l.l (2 * l.k)
