-- `spans::drop_past` meets its contract: the loop maps each place.
use Rattle.base.proofs.ScanLaws.{Mapping}
use Rattle.rtt.specs.Spans.{kept_span}
use Rattle.spans.proofs.drop_past.Given as goal

abbrev pub invariant-loop-i : goal.invariant-loop-i
invariant-loop-i l = Mapping (kept_span l.now l.horizon) l.initial.spans 8 l.spans l.i
