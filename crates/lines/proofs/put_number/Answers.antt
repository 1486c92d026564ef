use mathlib.Core.Path.{sym, ◌∙◌}
use native.Mathlib.Omega.{arith}
use Prim.Native.Nat.{zero-le, ◌≤◌, ◌<◌}
use lib.ListN.{length}
use Rattle.lines.specs.Text.{cell_of}
use Rattle.lines.proofs.TextLaws.{spelt-start, spelt-next, spelt-end}
use Rattle.lines.proofs.TextLaws.{cell-length, all-written, none_written}
use Rattle.lines.proofs.put_number.Goals as goal

pub returns-then-out-k : goal.returns-then-out-k
returns-then-out-k c =
    let a = c.args in
    let h : length a.out.now < length (cell_of a.x a.after) =
    omega (arith, cell-length a.x a.after, c.places-k.ensures.0, c.if-out-k.true) in
    let n = none_written (cell_of a.x a.after) a.out.now h in
    (n.0, zero-le, n.1)

pub loop-i-init : goal.loop-i-init
loop-i-init c = spelt-start _ _ _ c.places-k.ensures.0 c.places-k.ensures.1 c.if-out-k.false

pub bounds-out-i : goal.bounds-out-i
bounds-out-i c = omega (arith, c.loop-i.invariant.bound, c.loop-i.invariant.room, c.loop-i.invariant.same)

pub loop-i-preserved : goal.loop-i-preserved
loop-i-preserved c = spelt-next c.loop-i.invariant c.loop-i-test.true

pub bounds-out-k : goal.bounds-out-k
bounds-out-k c = omega (arith, c.loop-i.invariant.room, c.loop-i.invariant.same)

pub overflow_add-result : goal.overflow_add-result
overflow_add-result c = omega (arith, c.loop-i.invariant.most)

pub returns : goal.returns
returns c =
    let a = c.args in
    let s = c.loop-i.invariant in
    let n = cell-length a.x a.after in
    let h : length (cell_of a.x a.after) ≤ length a.out.now = omega (arith, n, s.places, s.room) in (
      omega (arith, n, s.places) ∙ sym (all-written (cell_of a.x a.after) a.out.now h),
      omega (arith, s.room),
      spelt-end a.after s c.loop-i-test.false,
    )
