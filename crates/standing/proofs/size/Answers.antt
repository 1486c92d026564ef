use mathlib.Core.Path.{◌≡◌, ap, ◌∙◌}
use native.Mathlib.Omega.{arith}
use lib.ListN.{length}
use mathlib.Core.List.{List}
use Rattle.octets.specs.Octets.{flat}
use Rattle.standing.specs.Standing.{bytes_in, standing_bytes}
use Rattle.standing.specs.declared.types.Field.{Field}
use Rattle.standing.proofs.Bytes.{size-most}
use Rattle.standing.proofs.size.Goals as goal

pub returns : goal.returns
unfolding standing_bytes
returns c =
    let s = c.args.s in
    let e : c.total.result ≡ length (standing_bytes s) = c.total.ensures ∙ ap (λ (l : List Field). length (flat bytes_in l)) c.parts.ensures in
    (e, omega (arith, e, size-most s))
