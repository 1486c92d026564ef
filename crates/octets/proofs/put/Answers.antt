use mathlib.Core.Path.{sym}
use borrow.Author.Tests.{le-leb, lt-leb}
use lib.Seq.{length-take-le}
use native.Mathlib.Omega.{arith}
use Rattle.octets.proofs.Write.{start, more, all, none}
use Rattle.octets.proofs.put.Goals as goal

pub returns-then-out-width : goal.returns-then-out-width
returns-then-out-width c = (sym (lt-leb _ _ c.if-out-width.true), none _ _ _ c.if-out-width.true)

pub loop-b-init : goal.loop-b-init
loop-b-init c = start _ _ _ (length-take-le _ _ c.if-out-width.false)

pub loop-b-preserved : goal.loop-b-preserved
loop-b-preserved c = more (omega (arith, c.loop-b-test.true, length-take-le _ _ c.if-out-width.false)) c.loop-b.invariant

pub returns : goal.returns
returns c =
    let h = c.if-out-width.false in
    (sym (le-leb _ _ h), all _ (omega (arith, c.loop-b-test.false, length-take-le _ _ h)) h c.loop-b.invariant)
