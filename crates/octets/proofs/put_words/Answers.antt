use Prim.Native.Nat.{◌≤◌, ◌<◌}
use native.Mathlib.Omega.{arith}
use mathlib.Core.Path.{refl, sym}
use lib.ListN.{length}
use borrow.Author.Tests.{le-leb, lt-leb}
use Rattle.octets.specs.Octets.{le, words_of}
use Rattle.octets.proofs.Fill.{le-length, flat-length, over-not, nothing, filled-over, filling-start, filling-next, filling-end}
use Rattle.octets.proofs.put_words.Goals as goal

pub returns-then-out-words : goal.returns-then-out-words
returns-then-out-words c =
    let w = c.args.words.now in
    let o = c.args.out.now in
    let h : length o < length (words_of w) = omega (arith, flat-length (le 8) 8 (le-length 8) w) in
    (sym (lt-leb (length (words_of w)) (length o) h), sym (over-not (words_of w) o h))

pub loop-w-init : goal.loop-w-init
loop-w-init c = filling-start (le-length 8) refl (omega arith) (nothing _)

pub loop-w-preserved : goal.loop-w-preserved
loop-w-preserved c = filling-next c.loop-w.invariant c.loop-w-test.true _ c.put.ensures.1

pub returns : goal.returns
returns c =
    let w = c.args.words.now in
    let o = c.args.out.now in
    let h : length (words_of w) ≤ length o = omega (arith, flat-length (le 8) 8 (le-length 8) w) in
    (sym (le-leb (length (words_of w)) (length o) h), filled-over (filling-end c.loop-w.invariant c.loop-w-test.false))
