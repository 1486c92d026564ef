-- `total::key_float` meets its contract: from 2^63 on the rest by 2^63 is what is above it.
use mathlib.Core.Path.{◌≡◌}
use Prim.Native.Nat.{ℕ, ◌-◌, ◌%◌, ◌<◌, ◌*◌}
use mathlib.Core.Bool.{cond}
use borrow.Author.Tests.{lt-ltb, le-ltb}
use native.Mathlib.Omega.{arith}
use lib.Dec.{ltb}
use Rattle.base.proofs.Cases.{on-order}
use Rattle.total.specs.Places.{key_float}
use Rattle.total.proofs.PlaceLaws.{half}
use Rattle.total.proofs.key_float.Goals as goal

rests : (k n : ℕ) → k < 2 * half → cond (ltb k half) n (k % half) ≡ cond (ltb k half) n (k - half)
rests k n u = on-order k half (λ h. rw (lt-ltb k half h)) (λ h. rw (le-ltb k half h) (omega arith))

pub returns : goal.returns
unfolding key_float
returns c =
    let k = c.args.k in
    simp (c.float_of.ensures, c.pick.ensures, rests k (18446744073709551615 - k) (omega arith))
