use Rattle.rows.specs.View.{path_in}
use Rattle.base.proofs.MarkedLaws.{LeadsLast}
use Rattle.rtt.specs.Spans.{is_span, span_later, no_span}
use Rattle.time_events.proofs.horizon.newest.Given as goal

abbrev pub invariant-loop-i : goal.invariant-loop-i
invariant-loop-i l = LeadsLast is_span span_later no_span (path_in l.p).rtts.spans 8 l.best l.place l.i
