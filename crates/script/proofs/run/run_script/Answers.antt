use borrow.Author.Rules.{rules}
use native.Mathlib.Omega.{arith}
use Prim.Native.Nat.{◌+◌, ◌*◌, ◌/◌, ◌<◌}
use mathlib.Core.Path.{◌≡◌, ap, ◌∙◌, subst}
use lib.ListN.{length}
use Rattle.script.specs.Run.{call_from}
use Rattle.script.proofs.RunLaws.{Running, running-start, running-next, running-done, tail_from, script-cut, script-lent, script-done}
use Rattle.script.proofs.run.run_script.Goals as goal
use Rattle.script.proofs.run.run_script.Goals.{then-out-lt1800-via-then-out-lt1800, then-out-lt1800-via-else-out-lt1800+then-out-script}

pub returns-then-script-ne0 : goal.returns-then-script-ne0
returns-then-script-ne0 c = script-cut _ _ c.if-script-ne0.true c.number.ensures

pub returns-then-out-lt1800 : goal.returns-then-out-lt1800
returns-then-out-lt1800 c =
    script-lent _ _ c.if-script-ne0.false
    (elim c.then-out-lt1800.branch [
      | then-out-lt1800-via-then-out-lt1800 w ↦ omega (arith, w.if-out-lt1800.true)
      | then-out-lt1800-via-else-out-lt1800+then-out-script w ↦ omega (arith, w.if-out-lt1800.false, w.if-out-script.true)
    ])
    c.number-then-out-lt1800.ensures

pub loop-i-init : goal.loop-i-init
loop-i-init c = running-start c.if-script-ne0.false (omega arith) c.new-path.ensures

pub loop-i-preserved : goal.loop-i-preserved
loop-i-preserved c =
    let i = c.loop-i.i in
    let s = c.args.script.now in
    let h : 48 * i < length s = omega (arith, c.loop-i-test.true) in
    let e : 48 * i + 48 ≡ 48 * (i + 1) = omega arith in
    subst (Running _ _ _ _) e
    (running-next c.loop-i.invariant h (c.call_from.ensures ∙ ap call_from (tail_from s (48 * i))) c.call-done.ensures (search rules) c.put_words.ensures.1)

pub returns : goal.returns
returns c =
    let s = c.args.script.now in
    let e : 48 * c.loop-i.i ≡ 48 * (length s / 48) = omega (arith, c.loop-i-test.false, c.loop-i.auto.i-end) in
    let r = subst (Running _ _ _ _) e c.loop-i.invariant in
    script-done _ _ c.if-script-ne0.false (omega arith) (running-done r (omega (arith, c.if-script-ne0.false)) c.write_image.ensures.1.1 c.write_image.ensures.1.0)
