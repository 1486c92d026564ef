use mathlib.Core.Path.{ap, ◌∙◌}
use Rattle.choices.proofs.StepLaws.{soonest-none, soonest-known}
use Rattle.leads.specs.Keys.{least_lead}
use Rattle.choices.proofs.steps.soonest.Goals as goal

pub returns-then-trip : goal.returns-then-trip
returns-then-trip c = soonest-none _ _ c.trip_keys.ensures c.least-trip.ensures c.if-trip.true (c.least-first.ensures ∙ ap least_lead c.wait_keys.ensures)

pub returns : goal.returns
returns c = soonest-known _ _ c.trip_keys.ensures c.least-trip.ensures c.if-trip.false
