-- `total::total` meets its contract: past the tests for a NaN and for less the two are equal, and 1 / x shows the sign
-- of a zero.
use mathlib.Core.Path.{sym, ◌∙◌}
use Rattle.total.specs.Values.{total_of}
use Rattle.total.proofs.ValueLaws.{equal, zeros, others}
use Rattle.total.proofs.total.Goals as goal

pub returns-then-x : goal.returns-then-x
unfolding total_of
returns-then-x c =
    let n = sym c.is_nan.ensures.value ∙ c.if-is_nan.false in
    let m = sym c.is_nan-2.ensures.value ∙ c.if-is_nan-2.false in
    zeros c.args.x c.args.y (equal c.args.x c.args.y m n c.if-x-y.false c.if-y-x.false) c.if-x.true
    ∙ sym (simp (n, m, c.if-x-y.false, c.if-y-x.false))

pub returns : goal.returns
unfolding total_of
returns c =
    let n = sym c.is_nan.ensures.value ∙ c.if-is_nan.false in
    let m = sym c.is_nan-2.ensures.value ∙ c.if-is_nan-2.false in
    simp (n, m, c.if-x-y.false, c.if-y-x.false, others c.args.x c.args.y (equal c.args.x c.args.y m n c.if-x-y.false c.if-y-x.false) c.if-x.false)
