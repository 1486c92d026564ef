use native.Mathlib.Omega.{arith}
use Rattle.octets.proofs.Eight.{eight-short, eight-none, eight-read}
use Rattle.octets.proofs.word.Goals as goal

pub returns-then-s-at : goal.returns-then-s-at
returns-then-s-at c = eight-short _ _ (omega (arith, c.if-s-at.true))

pub returns-in_default : goal.returns-in_default
returns-in_default c = eight-none _ _ c.if-s-at.false c.in_default.ensures.cases

pub returns : goal.returns
returns c = eight-read _ _ _ _ c.if-s-at.false c.in-Some.ensures.cases c.from_le_bytes.ensures
