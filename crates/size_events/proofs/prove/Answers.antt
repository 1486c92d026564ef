use Rattle.size_events.proofs.SizeLaws.{prove-over, prove-under, prove-made}
use Rattle.size_events.proofs.prove.Goals as goal

pub returns-then-len-gt-MAX_LEN : goal.returns-then-len-gt-MAX_LEN
returns-then-len-gt-MAX_LEN c = prove-over _ c.if-len-gt-MAX_LEN.true

pub returns-then-len-lt-MIN_LEN : goal.returns-then-len-lt-MIN_LEN
returns-then-len-lt-MIN_LEN c = prove-under _ c.if-len-gt-MAX_LEN.false c.if-len-lt-MIN_LEN.true

pub returns : goal.returns
returns c = prove-made _ c.if-len-gt-MAX_LEN.false c.if-len-lt-MIN_LEN.false c.sizes.ensures c.prove-proving.ensures c.set_proven.ensures
