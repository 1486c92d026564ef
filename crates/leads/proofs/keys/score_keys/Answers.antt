use borrow.Author.Rules.{rules}
use Rattle.leads.specs.Keys.{score_key}
use Rattle.leads.proofs.LoopLaws.{rows-made}
use Rattle.leads.proofs.keys.score_keys.Goals as goal

pub returns : goal.returns
returns c = rows-made _ _ (score_key c.args.top) _ (search rules) (λ i y q k. search rules) c.from_fn.ensures.items
