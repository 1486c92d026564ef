-- `samples::dropped` meets its contract: the loop maps each place.
use Rattle.base.proofs.ScanLaws.{Mapping}
use Rattle.rtt.specs.Samples.{kept_sample}
use Rattle.samples.proofs.dropped.Given as goal

abbrev pub invariant-loop-i : goal.invariant-loop-i
invariant-loop-i l = Mapping (kept_sample l.now l.window) l.fn.rtts 32 l.out l.i
