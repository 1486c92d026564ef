use Rattle.std.proofs.Common.{refl}
use Rattle.time_events.proofs.EventLaws.{received-over, received-made}
use Rattle.time_events.proofs.received.Goals as goal

pub returns-then-e-gt-MAX_LEN : goal.returns-then-e-gt-MAX_LEN
returns-then-e-gt-MAX_LEN c = received-over _ _ _ c.traffic-old.ensures c.if-e-gt-MAX_LEN.true c.set_traffic.ensures

pub returns : goal.returns
returns c = received-made _ _ _ c.traffic-old.ensures c.if-e-gt-MAX_LEN.false refl refl c.set_traffic-2.ensures
