use Rattle.time_events.proofs.EventLaws.{window-made}
use Rattle.time_events.proofs.window.enter.Goals as goal

pub returns : goal.returns
returns c = window-made _ _ _ c.forget.ensures c.place-slot.ensures c.set_sample.ensures
