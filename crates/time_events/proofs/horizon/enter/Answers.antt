use Rattle.std.proofs.Common.{sym, ◌∙◌}
use Rattle.time_events.proofs.EventLaws.{span-joined, span-started}
use Rattle.time_events.proofs.horizon.enter.Goals as goal

pub returns-then-joins : goal.returns-then-joins
returns-then-joins c = span-joined _ _ _ c.forget.ensures c.newest-slot.ensures c.span-s.ensures (sym c.joins.ensures ∙ c.if-joins.true) c.joined.ensures c.set_span.ensures

pub returns : goal.returns
returns c = span-started _ _ _ c.forget.ensures c.newest-slot.ensures c.span-s.ensures (sym c.joins.ensures ∙ c.if-joins.false) c.start.ensures
