use mathlib.Core.Path.{ap, ◌∙◌}
use mathlib.Core.List.{[]}
use native.Mathlib.Omega.{arith}
use Rattle.std.specs.Prelude.{Ok}
use Rattle.rivalrows.specs.Rows.{rival_in}
use Rattle.choices.proofs.AnswerLaws.{score-of, score-past}
use Rattle.choices.proofs.words.score_at.Goals as goal

pub returns-in_default : goal.returns-in_default
returns-in_default c = score-past c.args.field.now c.args.at c.told-field (omega (arith, c.in_default.ensures.lookup.3, c.told-field))

pub returns : goal.returns
returns c =
    let k = c.in-Some.ensures.lookup in
    ap Ok c.then_some.ensures
    ∙ score-of c.args.field.now c.args.at c.told-field (omega (arith, k.3.0, c.told-field)) (c.rival_in-r.ensures ∙ ap rival_in (k.3.1 []))
