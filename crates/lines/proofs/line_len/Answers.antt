use native.Mathlib.Omega.{arith}
use Rattle.lines.proofs.TextLaws.{line-length}
use Rattle.lines.proofs.line_len.Goals as goal

pub returns : goal.returns
returns c =
    let a = c.args in
    let n = line-length a.number a.kind a.refusal a.value in
    let p₁ = c.places.ensures in
    let p₂ = c.places-2.ensures in
    let p₃ = c.places-3.ensures in
    let p₄ = c.places-4.ensures in
    (omega (arith, n, p₁.0, p₂.0, p₃.0, p₄.0), omega (arith, p₁.1, p₂.1, p₃.1, p₄.1))
