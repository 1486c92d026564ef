-- `rtt::marked::least` meets its contract: what the chain gives is the least.
use Rattle.std.proofs.Common.{rules, sym, ◌∙◌, map}
use Rattle.std.specs.List.{filter}
use Rattle.std.proofs.lemmas.Iterator.{YieldsList-from_slice, YieldsList-from_map}
use Rattle.std.proofs.lemmas.Iterator.Adapters.{option_map_id}
use Rattle.std.proofs.lemmas.Iterator.Consumers.{YieldsList-at, YieldsList-from_filter, min_from_yields_List}
use borrow.Author.Tests.{tests}
use Rattle.base.proofs.LeastLaws.{least_reduce}
use Rattle.rtt.proofs.marked.least.Goals as goal

pub returns : goal.returns
returns g c =
    let m = g.T.Marked in
    sym (option_map_id c.min.result) ∙ min_from_yields_List _ _ c.min.ensures.ran
    (YieldsList-from_map _ m.trip
    (YieldsList-at c.map.ensures.source
    (YieldsList-from_filter _ m.held (YieldsList-from_slice c.args.l.now cc) c.filter.ensures.closure (λ x r q k. search (rules, tests))))
    c.map.ensures.closure (λ x r q k. search rules))
    ∙ least_reduce (map m.trip (filter m.held c.args.l.now))
