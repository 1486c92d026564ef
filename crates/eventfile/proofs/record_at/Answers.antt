-- `eventfile::record_at` meets its contract: the part from the place on begins with the record.
use mathlib.Core.Path.{sym, ◌∙◌}
use native.Mathlib.Omega.{arith}
use Rattle.eventfile.proofs.ReadLaws.{parse-end, parse-part, parse-other, part-inside}
use Rattle.eventfile.proofs.record_at.Goals as goal

pub returns-then-s-at : goal.returns-then-s-at
returns-then-s-at c = parse-end _ _ c.if-s-at.true

pub overflow_add-result : goal.overflow_add-result
overflow_add-result c =
    let a = c.args in
    let h = c.if-s-at.false in
    let e = sym c.in-Event.is ∙ c.front.ensures in
    omega (arith, part-inside a.s.now a.at (omega (arith, h)) e)

pub returns-in-Event : goal.returns-in-Event
returns-in-Event c =
    let a = c.args in
    parse-part a.s.now a.at (sym c.in-Event.is ∙ c.front.ensures)

pub returns-in_default : goal.returns-in_default
returns-in_default c = parse-other c.args.s.now c.args.at c.front.ensures c.in_default.not-Event
