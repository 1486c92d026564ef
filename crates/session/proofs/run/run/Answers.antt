use mathlib.Core.Path.{refl}
use Rattle.session.proofs.SessionLaws.{no_event}
use Rattle.session.proofs.RunLaws.{going-stop, going-full, going_next}
use Rattle.session.proofs.run.run.Goals as goal

pub returns-in_default : goal.returns-in_default
returns-in_default c = going-stop c.loop-i.invariant c.loop-i-test.true c.record_at-x.ensures (no_event _ c.in_default.not-Event) c.stop.ensures

pub loop-i-preserved : goal.loop-i-preserved
loop-i-preserved c = going_next c.loop-i.invariant c.loop-i-test.true c.record_at-x.ensures c.in-Event.is c.event-reply.ensures c.lay_event-at.ensures refl

pub returns : goal.returns
returns c = going-full c.loop-i.invariant c.loop-i-test.false c.call_at.ensures
