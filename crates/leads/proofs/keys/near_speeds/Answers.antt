use borrow.Author.Rules.{rules}
use Rattle.leads.proofs.LoopLaws.{left-made}
use Rattle.leads.proofs.keys.near_speeds.Goals as goal

pub returns : goal.returns
returns c = left-made _ _ _ 0 _ _ (search rules) (search rules) (λ i y q k. search rules) c.from_fn.ensures.items
