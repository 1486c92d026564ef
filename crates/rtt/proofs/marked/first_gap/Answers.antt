-- `rtt::marked::first_gap` meets its contract: what `position` finds, or the length.
use Rattle.std.proofs.Common.{◌∙◌, ap, not, length, refl}
use Rattle.std.specs.Prelude.{unwrap_or}
use Rattle.std.proofs.lemmas.Iterator.{YieldsList-from_slice}
use Rattle.std.proofs.lemmas.Iterator.Search.{position_from_yields_List}
use Rattle.std.proofs.lemmas.Iterator.Adapters.{position_from-zero}
use borrow.Author.Rules.{rules}
use borrow.Author.Tests.{tests}
use Rattle.base.proofs.SeqLaws.{position_or}
use Rattle.rtt.proofs.marked.first_gap.Goals as goal

pub returns : goal.returns
returns g c =
    let l = c.args.l.now in
    let held = g.T.Marked.held in
    c.unwrap_or.ensures
    ∙ ap (λ r. unwrap_or r (length l))
    (position_from_yields_List (λ x. not (held x)) _ _ _ c.position.ensures.ran (YieldsList-from_slice l cc) (λ x b q k. search (rules, tests))
    ∙ position_from-zero (λ x. not (held x)) l)
    ∙ position_or (λ x. not (held x)) l refl
