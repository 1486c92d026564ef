use borrow.Author.Rules.{rules}
use Rattle.leads.proofs.LoopLaws.{class-made}
use Rattle.leads.proofs.keys.class_keys.Goals as goal

pub returns : goal.returns
returns c = class-made _ _ _ _ _ _ (search rules) (search rules) (λ i y q k. search rules) c.from_fn.ensures.items
