use borrow.Author.Tests.{eq-eqb}
use mathlib.Core.Path.{ap, ◌∙◌}
use Rattle.fields.specs.Fields.{rival_len, rival_from}
use Rattle.c_choice.proofs.PartLaws.{tail_from}
use Rattle.c_choice.specs.Choice.{pair_from}
use Rattle.c_choice.proofs.pair_from.Goals as goal

pub returns : goal.returns
unfolding pair_from
returns c = rw (
  eq-eqb _ _ c.if-pair-ne-PAIR_LEN.false,
  c.rival_from-2.ensures ∙ ap rival_from (tail_from c.args.pair.now rival_len),
  c.rival_from.ensures,
)
