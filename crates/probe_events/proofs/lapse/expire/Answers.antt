use Rattle.probe_events.proofs.ScanLaws.{expire-long, expire-none, expire-made}
use Rattle.probe_events.proofs.lapse.expire.Goals as goal

pub returns-then-cap-ge-DURATION_END : goal.returns-then-cap-ge-DURATION_END
returns-then-cap-ge-DURATION_END c = expire-long c.args.p.now _ _ _ c.if-cap-ge-DURATION_END.true

pub returns-then-slot-ge-RING : goal.returns-then-slot-ge-RING
returns-then-slot-ge-RING c = expire-none c.args.p.now _ _ _ c.if-cap-ge-DURATION_END.false c.data_at-heard.ensures c.scan-slot.ensures c.if-slot-ge-RING.true

pub returns : goal.returns
returns c = expire-made c.args.p.now _ _ _ c.if-cap-ge-DURATION_END.false c.data_at-heard.ensures c.scan-slot.ensures c.if-slot-ge-RING.false c.lapse.ensures
