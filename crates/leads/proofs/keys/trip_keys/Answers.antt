use borrow.Author.Rules.{rules}
use Rattle.leads.specs.Keys.{trip_key}
use Rattle.leads.proofs.LoopLaws.{words-made}
use Rattle.leads.proofs.keys.trip_keys.Goals as goal

pub returns : goal.returns
returns c = words-made _ _ (trip_key c.args.top) _ (search rules) (λ i y q k. search rules) c.from_fn.ensures.items
