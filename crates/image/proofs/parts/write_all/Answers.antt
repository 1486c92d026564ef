use mathlib.Core.Path.{ap}
use native.Mathlib.Omega.{arith}
use Prim.Native.Nat.{ℕ, ◌*◌}
use Rattle.image.proofs.PartLaws.{putting-start, putting-next, putting-end, refused_all}
use Rattle.image.proofs.parts.write_all.Goals as goal

pub returns-then-out-saturating_mul : goal.returns-then-out-saturating_mul
returns-then-out-saturating_mul g c =
    refused_all g.T.Element.words _ g.row.N (λ x. ap (λ (n : ℕ). 8 * n) (g.met.T.Element.wide x)) c.told-items
    (omega (arith, c.saturating_mul.ensures, c.if-out-saturating_mul.true))

pub loop-x-init : goal.loop-x-init
loop-x-init g c = putting-start (λ x. ap (λ (n : ℕ). 8 * n) (g.met.T.Element.wide x)) c.told-items
    (omega (arith, c.saturating_mul.ensures, c.if-out-saturating_mul.false))

pub loop-x-preserved : goal.loop-x-preserved
loop-x-preserved g c = putting-next c.loop-x.invariant (omega (arith, c.loop-x-test.true, c.told-items)) _ c.numbers.ensures c.put_words.ensures.1

pub returns : goal.returns
returns g c = putting-end c.loop-x.invariant (omega (arith, c.loop-x-test.false, c.told-items))
