-- `samples::max_rtt` meets its contract: what the chain gives is the largest.
use Rattle.std.proofs.Common.{sym, ◌∙◌}
use Rattle.std.proofs.lemmas.Iterator.{YieldsList-from_slice, YieldsList-from_map}
use Rattle.std.proofs.lemmas.Iterator.Adapters.{option_map_id}
use Rattle.std.proofs.lemmas.Iterator.Consumers.{YieldsList-at, YieldsList-from_filter, max_from_yields_List}
use borrow.Author.Rules.{rules}
use borrow.Author.Tests.{tests}
use Rattle.base.proofs.LeastLaws.{largest_reduce}
use Rattle.rtt.specs.Samples.{is_sample, round_trips, max_rtt}
use Rattle.rtt.specs.declared.types.Sample.{Sample}
use Rattle.samples.proofs.max_rtt.Goals as goal

pub returns : goal.returns
unfolding max_rtt
returns c =
    let l = c.args.rtts in
    sym (option_map_id c.max.result) ∙ max_from_yields_List _ _ c.max.ensures.ran
    (YieldsList-from_map _ (λ (s : Sample). s.rtt)
    (YieldsList-at c.map.ensures.source
    (YieldsList-from_filter _ is_sample (YieldsList-from_slice l cc) c.filter.ensures.closure (λ x r q k. search (rules, tests))))
    c.map.ensures.closure (λ x r q k. search rules))
    ∙ largest_reduce (round_trips l)
