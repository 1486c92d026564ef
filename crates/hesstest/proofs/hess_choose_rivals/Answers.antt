use mathlib.Core.Path.{ap, ◌∙◌}
use mathlib.Core.List.{List}
use Rattle.select.specs.Choice.{choose_of}
use Rattle.select.specs.declared.types.Rival.{Rival}
use Rattle.c_choice.specs.Choice.{chosen_reply, words_reply}
use Rattle.hesstest.proofs.hess_choose_rivals.Goals as goal

pub returns : goal.returns
unfolding words_reply
returns c = c.of_chosen.ensures ∙ ap chosen_reply (c.choose.ensures ∙ ap (λ (l : List Rival). choose_of l c.args.margin) c.field_in.ensures)
