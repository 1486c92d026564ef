-- `queries::choice::is_margin` meets its contract: by what a float may be.
use Rattle.queries.proofs.ChoiceLaws.{margin-is}
use Rattle.queries.proofs.choice.is_margin.Goals as goal

pub returns : goal.returns
returns c = margin-is c.args.m
