use Rattle.lines.specs.Text.{line_of}
use Rattle.session.proofs.LayLaws.{lay-past}
use Rattle.session.proofs.run.lay.Goals as goal

-- src/run.rt:13:9
pub returns-then-out-at : goal.returns-then-out-at
returns-then-out-at c =
    let a = c.args in
    lay-past a.at (line_of a.number a.kind a.refusal a.value) _ c.if-out-at.true

-- src/run.rt:9:1
