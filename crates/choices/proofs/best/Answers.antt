use mathlib.Core.Path.{ap, ◌∙◌}
use Rattle.select.specs.Choice.{best_of}
use Rattle.choices.proofs.best.Goals as goal

pub returns : goal.returns
returns c = c.best_in.ensures ∙ ap best_of c.rows_of-rows.ensures.1
