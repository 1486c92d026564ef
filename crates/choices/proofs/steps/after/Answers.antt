use mathlib.Core.Path.{ap, ◌∙◌}
use Rattle.choices.proofs.StepLaws.{after-as}
use Rattle.leads.specs.Keys.{least_lead}
use Rattle.choices.proofs.steps.after.Goals as goal

pub returns : goal.returns
returns c = after-as _ _ _ _ c.key_float.ensures c.limit_key-limit.ensures (c.least-second.ensures ∙ ap least_lead c.preferred_keys.ensures) c.pick-at.ensures c.preferred_keys-2.ensures c.speeds.ensures c.over.ensures
