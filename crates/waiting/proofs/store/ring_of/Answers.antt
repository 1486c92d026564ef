use borrow.Author.Rules.{rules}
use mathlib.Core.Path.{◌∙◌}
use mathlib.Core.List.{[], ◌∷◌}
use Rattle.ring.specs.Ring.{no_sent}
use Rattle.rows.proofs.BlockLaws.{eight}
use Rattle.rows.proofs.ViewLaws.{ring-length}
use Rattle.waiting.proofs.store.ring_of.Goals as goal

pub returns : goal.returns
returns c = (λ k. c.sent.ensures k ∷ c.sent-2.ensures k ∷ c.sent-3.ensures k ∷ c.sent-4.ensures k ∷ c.sent-5.ensures k ∷ c.sent-6.ensures k ∷ c.sent-7.ensures k ∷ c.sent-8.ensures k ∷ []) ∙ eight _ no_sent (ring-length _ (search rules))
