use mathlib.Core.Path.{ap, ◌∙◌}
use Rattle.choices.proofs.StepLaws.{over-at, over_first, over-not}
use Rattle.leads.specs.Keys.{least_lead}
use Rattle.choices.proofs.steps.over.Goals as goal

pub returns-then-pace-eq3 : goal.returns-then-pace-eq3
returns-then-pace-eq3 c = over-at _ _ _ _ c.entry-pace.ensures c.if-pace-eq3.true

pub returns-then-quick-pace : goal.returns-then-quick-pace
returns-then-quick-pace c = over_first _ _ _ _ c.entry-pace.ensures c.if-pace-eq3.false (c.least-quick.ensures ∙ ap least_lead c.near_speeds.ensures) c.if-quick-pace.true (c.least.ensures ∙ ap least_lead c.class_keys.ensures)

pub returns : goal.returns
returns c = over-not _ _ _ _ c.entry-pace.ensures c.if-pace-eq3.false (c.least-quick.ensures ∙ ap least_lead c.near_speeds.ensures) c.if-quick-pace.false
