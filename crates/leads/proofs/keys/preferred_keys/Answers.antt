use borrow.Author.Rules.{rules}
use mathlib.Core.Bool.{not, ◌||◌}
use Rattle.select.specs.declared.types.Rival.{Rival}
use Rattle.leads.proofs.LoopLaws.{preferred-made}
use Rattle.leads.proofs.keys.preferred_keys.Goals as goal

pub returns : goal.returns
returns c = preferred-made _ _ (λ (q : Rival). q.preferred || not c.args.only) _ _ (search rules) (search rules) (λ i y q k. search rules) c.from_fn.ensures.items
