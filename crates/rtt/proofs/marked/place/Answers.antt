-- `rtt::marked::place` meets its contract: the gap where there is one, else the leader, which is there.
use Rattle.std.proofs.Common.{◌≤◌, length, arith}
use Rattle.base.proofs.FirstLaws.{by-least}
use Rattle.base.proofs.MarkedLaws.{place-gap, place-leader, place-there}
use Rattle.base.specs.Marked.{first_gap}
use Rattle.rtt.specs.Marks.{earlier}
use Rattle.rtt.proofs.marked.place.Goals as goal

pub returns-then-gap-l-clause-at : goal.returns-then-gap-l-clause-at
returns-then-gap-l-clause-at g c =
    place-gap g.T.Marked.held (earlier g.T.Marked.since) c.args.l.now c.first_gap-gap.ensures c.if-gap-l.true

pub returns-else-gap-l-clause-at : goal.returns-else-gap-l-clause-at
returns-else-gap-l-clause-at g c =
    let full : length c.args.l.now ≤ first_gap g.T.Marked.held c.args.l.now = omega (arith, c.first_gap-gap.ensures, c.if-gap-l.false) in
    place-leader g.T.Marked.held (earlier g.T.Marked.since) c.args.l.now full c.oldest.ensures

pub returns-else-gap-l-clause-there : goal.returns-else-gap-l-clause-there
returns-else-gap-l-clause-there g c h =
    rw (returns-else-gap-l-clause-at g c)
    (place-there g.T.Marked.held (earlier g.T.Marked.since) (by-least g.T.Marked.since) g.T.Marked.gap g.met.T.Marked.free c.args.l.now h)
