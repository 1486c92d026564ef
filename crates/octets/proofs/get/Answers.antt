use native.Mathlib.Omega.{arith}
use Prim.Native.Nat.{◌<◌, ◌+◌, ◌-◌}
use Rattle.octets.proofs.Read.{reading-start, reading-fits, reading-next, reading-end, reading_small}
use Rattle.octets.proofs.Read.{none-small, read_wide, read_short}
use Rattle.octets.proofs.get.Goals as goal
use Rattle.octets.proofs.get.Goals.{then-width-gt8-via-then-width-gt8, then-width-gt8-via-else-width-gt8+then-s-at, then-width-gt8-via-else-width-gt8+else-s-at+then-s-at-2}

pub returns-then-width-gt8 : goal.returns-then-width-gt8
returns-then-width-gt8 c =
    elim c.then-width-gt8.branch [
      | then-width-gt8-via-then-width-gt8 w ↦ (read_wide _ _ _ w.if-width-gt8.true, none-small _)
      | then-width-gt8-via-else-width-gt8+then-s-at w ↦ (read_short _ _ _ w.if-width-gt8.false (omega (arith, w.if-s-at.true)), none-small _)
      | then-width-gt8-via-else-width-gt8+else-s-at+then-s-at-2 w ↦ (read_short _ _ _ w.if-width-gt8.false (omega (arith, w.if-s-at.false, w.if-s-at-2.true)), none-small _)
    ]

pub loop-i-init : goal.loop-i-init
loop-i-init c = reading-start c.if-width-gt8.false (omega arith)

pub overflow_mul-x : goal.overflow_mul-x
overflow_mul-x c = let z : ◌<◌ 0 256 = omega arith in omega (arith, reading-fits c.loop-i.invariant c.loop-i-test.true z)

pub overflow_add-x : goal.overflow_add-x
overflow_add-x c =
    let b : c.from.result < 256 = omega (arith, c.from.ensures, c.type_inv.s (c.args.at + (c.loop-i.i - 1))) in
    omega (arith, reading-fits c.loop-i.invariant c.loop-i-test.true b)

pub loop-i-preserved : goal.loop-i-preserved
loop-i-preserved c =
    let b : c.from.result < 256 = omega (arith, c.from.ensures, c.type_inv.s (c.args.at + (c.loop-i.i - 1))) in
    reading-next _ c.loop-i.invariant c.loop-i-test.true c.from.ensures b

pub returns : goal.returns
returns c =
    (reading-end c.loop-i.invariant c.loop-i-test.false, reading_small c.loop-i.invariant c.loop-i-test.false)
