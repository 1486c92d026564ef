use Rattle.std.proofs.Common.{sym, ◌∙◌, rules}
use Rattle.rtt.specs.Marks.{earlier}
use Rattle.time_events.proofs.StoreLaws.{place-free, place-full}
use Rattle.time_events.proofs.places.place.Goals as goal

pub returns-then-free-PLACES : goal.returns-then-free-PLACES
returns-then-free-PLACES g c =
    place-free g.T.Marked.held (earlier g.T.Marked.since) (g.T.Placed.places c.args.p.now)
    (g.met.T.Placed.long c.args.p.now (search rules) ∙ sym c.PLACES.ensures) c.gap-free.ensures c.if-free-PLACES.true

pub returns-else-free-PLACES : goal.returns-else-free-PLACES
returns-else-free-PLACES g c =
    place-full g.T.Marked.held (earlier g.T.Marked.since) (g.T.Placed.places c.args.p.now)
    (g.met.T.Placed.long c.args.p.now (search rules) ∙ sym c.PLACES.ensures) c.gap-free.ensures c.if-free-PLACES.false c.oldest.ensures
