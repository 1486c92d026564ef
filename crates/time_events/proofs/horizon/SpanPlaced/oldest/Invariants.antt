use Rattle.rows.specs.View.{path_in}
use Rattle.base.proofs.MarkedLaws.{LeadsFirst}
use Rattle.rtt.specs.Spans.{is_span, span_earlier, no_span}
use Rattle.time_events.proofs.horizon.SpanPlaced.oldest.Given as goal

abbrev pub invariant-loop-i : goal.invariant-loop-i
invariant-loop-i l = LeadsFirst is_span span_earlier no_span (path_in l.p).rtts.spans 8 l.best l.place l.i
