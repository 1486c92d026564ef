use Rattle.size_events.proofs.SizeLaws.{settle-endless, settle-none, settle-over, settle-made}
use borrow.Author.Rules.{rules}
use Rattle.size_events.proofs.settle.Goals as goal

pub returns-then-gap-ge-DURATION_END : goal.returns-then-gap-ge-DURATION_END
returns-then-gap-ge-DURATION_END c = settle-endless _ _ _ _ _ c.if-gap-ge-DURATION_END.true

pub returns-in_default : goal.returns-in_default
returns-in_default c = settle-none _ _ _ _ _ c.if-gap-ge-DURATION_END.false c.sizes.ensures c.seek_answer-settled.ensures c.in_default.is

pub returns-then-acked-gt-MAX_LEN : goal.returns-then-acked-gt-MAX_LEN
returns-then-acked-gt-MAX_LEN c = settle-over _ _ _ _ _ c.if-gap-ge-DURATION_END.false c.sizes.ensures c.seek_answer-settled.ensures c.in-Some.is (search rules) c.if-acked-gt-MAX_LEN.true c.set_sizes.ensures

pub returns : goal.returns
returns c = settle-made _ _ _ _ _ c.if-gap-ge-DURATION_END.false c.sizes.ensures c.seek_answer-settled.ensures c.in-Some.is (search rules) c.if-acked-gt-MAX_LEN.false c.seek_proved-proved.ensures c.set_sizes-2.ensures
