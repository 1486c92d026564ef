use mathlib.Core.Path.{sym, ◌∙◌}
use native.Mathlib.Omega.{arith}
use Rattle.total.specs.Places.{key_of, limit_key}
use Rattle.total.proofs.PlaceLaws.{key-pattern}
use Rattle.total.proofs.limit_key.Goals as goal

pub returns-then-x : goal.returns-then-x
unfolding limit_key
returns-then-x c =
    rw (sym c.is_nan.ensures.value ∙ c.if-is_nan.false, c.if-x.true) (sym (key-pattern 0 (omega arith)))

pub returns : goal.returns
unfolding limit_key key_of
returns c =
    rw (c.order_key.ensures, c.etx_bits.ensures, sym c.is_nan.ensures.value ∙ c.if-is_nan.false, c.if-x.false)
