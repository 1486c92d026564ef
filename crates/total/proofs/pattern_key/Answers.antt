use mathlib.Core.Path.{◌≡◌, sym, ap, ◌∙◌}
use mathlib.Core.Bool.{cond}
use Prim.Native.Nat.{◌+◌, ◌-◌, ◌%◌}
use native.Mathlib.Omega.{arith}
use lib.Dec.{ltb}
use Rattle.total.proofs.PlaceLaws.{half, infinite, last, key-pattern}
use Rattle.total.proofs.pattern_key.Goals as goal

pub returns : goal.returns
returns c =
    let b = c.args.b in
    let e : c.pick-number.result ≡ cond (ltb b half) (b % half + half) (0x7fff_ffff_ffff_ffff - b % half) =
    c.pick-number.ensures in
    c.pick.ensures
    ∙ ap (cond (ltb infinite (b % half)) last) e
    ∙ sym (key-pattern b (omega arith))
