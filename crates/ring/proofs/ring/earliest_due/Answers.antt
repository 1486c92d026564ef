use Rattle.std.proofs.Common.{sym, ap, ◌∙◌, rules}
use Rattle.std.specs.Iterator.Adapters.{filter_callee}
use borrow.Author.Tests.{tests}
use Rattle.std.proofs.lemmas.Iterator.{YieldsList-from_slice, YieldsList-from_map}
use Rattle.std.proofs.lemmas.Iterator.Consumers.{YieldsList-from_filter, min_from_yields_List}
use Rattle.std.proofs.lemmas.Iterator.Adapters.{option_map_id}
use Rattle.base.proofs.LeastLaws.{least_reduce}
use Rattle.ring.specs.Ring.{is_used, earliest_due}
use Rattle.ring.specs.declared.types.Sent.{Sent}
use Rattle.ring.proofs.ring.earliest_due.Goals as goal

pub returns : goal.returns
unfolding earliest_due
returns c =
    sym (option_map_id _)
    ∙ min_from_yields_List _ _ c.min.ensures.ran
    (YieldsList-from_map _ (λ (s : Sent). s.due)
    (YieldsList-from_filter _ is_used
    (YieldsList-from_slice c.args.ring cc)
    (ap filter_callee c.map.ensures.source ∙ c.filter.ensures.closure)
    (λ x b q k. search (rules, tests)))
    c.map.ensures.closure
    (λ x r q k. search rules))
    ∙ least_reduce _
