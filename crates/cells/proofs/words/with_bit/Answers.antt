use Prim.Native.Nat.{◌%◌}
use native.Mathlib.Omega.{arith}
use Rattle.cells.proofs.BitLaws.{bit-made}
use Rattle.cells.proofs.words.with_bit.Goals as goal

pub overflow_add-result : goal.overflow_add-result
overflow_add-result c = omega (arith, (bit-made c.args.m (c.args.i % 64) c.args.on c.from-bit.ensures (omega arith) (omega arith)).0)

pub returns : goal.returns
returns c = (bit-made c.args.m (c.args.i % 64) c.args.on c.from-bit.ensures (omega arith) (omega arith)).1
