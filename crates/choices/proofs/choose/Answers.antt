use mathlib.Core.Path.{ap, ◌∙◌}
use mathlib.Core.List.{List}
use Rattle.select.specs.declared.types.Rival.{Rival}
use Rattle.select.specs.Choice.{choose_of}
use Rattle.choices.proofs.choose.Goals as goal

pub returns : goal.returns
returns c = c.choose_in.ensures ∙ ap (λ (l : List Rival). choose_of l c.args.margin) c.rows_of-rows.ensures.1
