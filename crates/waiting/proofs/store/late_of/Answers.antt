use borrow.Author.Rules.{rules}
use mathlib.Core.Path.{◌∙◌}
use mathlib.Core.List.{[], ◌∷◌}
use Rattle.ring.specs.Ring.{no_sent}
use Rattle.rows.proofs.BlockLaws.{four}
use Rattle.rows.proofs.ViewLaws.{late-length}
use Rattle.waiting.proofs.store.late_of.Goals as goal

pub returns : goal.returns
returns c = (λ k. c.late.ensures k ∷ c.late-2.ensures k ∷ c.late-3.ensures k ∷ c.late-4.ensures k ∷ []) ∙ four _ no_sent (late-length _ (search rules))
