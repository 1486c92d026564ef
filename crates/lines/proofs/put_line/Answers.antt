-- `lines::put_line` meets its contract: four cells, each into the tail that the one before it left.
use native.Mathlib.Omega.{arith}
use Prim.Native.Nat.{zero-le, ◌≤◌, ◌<◌}
use mathlib.Core.Path.{refl}
use lib.ListN.{length}
use Rattle.lines.specs.Text.{line_of}
use Rattle.lines.proofs.TextLaws.{line-laid, none_written}
use Rattle.lines.proofs.put_line.Goals as goal

pub returns-then-out-line_len : goal.returns-then-out-line_len
returns-then-out-line_len c =
    let a = c.args in
    let h : length a.out.now < length (line_of a.number a.kind a.refusal a.value) =
    omega (arith, c.line_len.ensures.0, c.if-out-line_len.true) in
    let n = none_written (line_of a.number a.kind a.refusal a.value) a.out.now h in
    (n.0, zero-le, n.1)

pub returns : goal.returns
returns c =
    let a = c.args in
    let d₁ = c.put_number-a.ensures in
    let d₂ = c.put_number.ensures in
    let d₃ = c.put_number-2.ensures in
    let d₄ = c.put_number-3.ensures in
    let h : length (line_of a.number a.kind a.refusal a.value) ≤ length a.out.now =
    omega (arith, c.line_len.ensures.0, c.if-out-line_len.false) in
    line-laid
    a.number
    a.kind
    a.refusal
    a.value
    a.out.now
    h
    d₁.0
    d₁.2
    (record { count = d₂.0; is = d₂.2; into = refl })
    (record { count = d₃.0; is = d₃.2; into = refl })
    (record { count = d₄.0; is = d₄.2; into = refl })
