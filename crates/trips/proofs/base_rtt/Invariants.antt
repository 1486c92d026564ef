use Rattle.std.specs.Prelude.{None}
use Rattle.rows.specs.View.{path_in}
use Rattle.base.proofs.ScanLaws.{Folding}
use Rattle.base.specs.Passes.{lower_of}
use Rattle.rtt.specs.Spans.{is_span}
use Rattle.rtt.specs.declared.types.Span.{Span}
use Rattle.trips.proofs.base_rtt.Given as goal

abbrev pub invariant-loop-i : goal.invariant-loop-i
invariant-loop-i l = Folding is_span (λ (s : Span). s.rtt) lower_of None (path_in l.p).rtts.spans 8 l.least l.i
