use Rattle.size_events.proofs.SizeLaws.{judge-endless, judge-gap, judge-lost, judge-waits}
use Rattle.size_events.proofs.judge.Goals as goal

pub returns-then-e-ge-DURATION_END : goal.returns-then-e-ge-DURATION_END
returns-then-e-ge-DURATION_END c = judge-endless _ _ _ _ c.if-e-ge-DURATION_END.true

pub returns-then-gap-ge-DURATION_END : goal.returns-then-gap-ge-DURATION_END
returns-then-gap-ge-DURATION_END c = judge-gap _ _ _ _ c.if-e-ge-DURATION_END.false c.if-gap-ge-DURATION_END.true

pub returns-then-judges : goal.returns-then-judges
returns-then-judges c =
    judge-lost _ _ _ _ c.if-e-ge-DURATION_END.false c.if-gap-ge-DURATION_END.false c.sizes-old.ensures c.ids-answered.ensures
    c.judges.ensures c.if-judges.true c.known.ensures c.drop_out-judged.ensures c.set_seek.ensures

pub returns : goal.returns
returns c =
    judge-waits _ _ _ _ c.if-e-ge-DURATION_END.false c.if-gap-ge-DURATION_END.false c.sizes-old.ensures c.ids-answered.ensures
    c.judges.ensures c.if-judges.false
