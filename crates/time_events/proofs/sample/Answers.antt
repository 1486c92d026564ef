use Rattle.time_events.proofs.EventLaws.{sample-endless, sample-window, sample-horizon, sample-made}
use Rattle.time_events.proofs.sample.Goals as goal

pub returns-then-trip-ge-DURATION_END : goal.returns-then-trip-ge-DURATION_END
returns-then-trip-ge-DURATION_END c = sample-endless _ _ _ _ _ c.if-trip-ge-DURATION_END.true

pub returns-then-window-ge-DURATION_END : goal.returns-then-window-ge-DURATION_END
returns-then-window-ge-DURATION_END c = sample-window _ _ _ _ _ c.if-trip-ge-DURATION_END.false c.if-window-ge-DURATION_END.true

pub returns-then-horizon-ge-DURATION_END : goal.returns-then-horizon-ge-DURATION_END
returns-then-horizon-ge-DURATION_END c = sample-horizon _ _ _ _ _ c.if-trip-ge-DURATION_END.false c.if-window-ge-DURATION_END.false c.if-horizon-ge-DURATION_END.true

pub returns : goal.returns
returns c = sample-made _ _ _ _ _ c.if-trip-ge-DURATION_END.false c.if-window-ge-DURATION_END.false c.if-horizon-ge-DURATION_END.false c.enter.ensures c.enter-2.ensures c.set_trip.ensures
