use mathlib.Core.Path.{ap, sym, ◌∙◌}
use Rattle.leads.specs.Keys.{least_lead}
use Rattle.choices.proofs.AnswerLaws.{answer-past, answer-seated, seat-stray, seat-none, seat-soonest, seat-after}
use Rattle.choices.proofs.words.answer_in.Goals as goal

pub returns-then-any_past : goal.returns-then-any_past
returns-then-any_past c = answer-past _ _ c.args.longest (sym c.any_past.ensures ∙ c.if-any_past.true)

pub returns-then-any_stray : goal.returns-then-any_stray
returns-then-any_stray c = answer-seated _ _ c.args.longest (sym c.any_past.ensures ∙ c.if-any_past.false) (seat-stray _ _ (sym c.any_stray.ensures ∙ c.if-any_stray.true))

pub returns-then-top : goal.returns-then-top
returns-then-top c = answer-seated _ _ c.args.longest (sym c.any_past.ensures ∙ c.if-any_past.false) (seat-none c.args.field.now c.told-field _ (sym c.any_stray.ensures ∙ c.if-any_stray.false) (c.least-top.ensures ∙ ap least_lead c.rank_keys.ensures) c.if-top.true)

pub returns-then-best : goal.returns-then-best
returns-then-best c = answer-seated _ _ c.args.longest (sym c.any_past.ensures ∙ c.if-any_past.false) (seat-soonest c.args.field.now c.told-field _ (sym c.any_stray.ensures ∙ c.if-any_stray.false) (c.least-top.ensures ∙ ap least_lead c.rank_keys.ensures) c.if-top.false (c.least-best.ensures ∙ ap least_lead c.score_keys-keys.ensures) c.if-best.true c.soonest.ensures)

pub returns : goal.returns
returns c = answer-seated _ _ c.args.longest (sym c.any_past.ensures ∙ c.if-any_past.false) (seat-after c.args.field.now c.told-field _ (sym c.any_stray.ensures ∙ c.if-any_stray.false) (c.least-top.ensures ∙ ap least_lead c.rank_keys.ensures) c.if-top.false (c.least-best.ensures ∙ ap least_lead c.score_keys-keys.ensures) c.if-best.false c.score_keys-keys.ensures c.after.ensures)
