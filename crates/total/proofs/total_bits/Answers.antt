-- `total::total_bits` meets its contract: the order of the keys is 5.10's.
use native.Mathlib.Omega.{arith}
use lib.Ieee.{binary64}
use Rattle.total.proofs.KeyLaws.{total-key}
use Rattle.total.proofs.total_bits.Goals as goal

pub returns : goal.returns
returns c =
    let a = c.args in
    simp (c.order_key-2.ensures, c.order_key.ensures) (total-key binary64 a.a a.b (omega arith) (omega arith))
