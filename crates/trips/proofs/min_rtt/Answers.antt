use borrow.Author.Rules.{rules}
use Rattle.rows.proofs.ViewLaws.{samples-length}
use Rattle.trips.proofs.TripLaws.{min-some, min-none}
use Rattle.trips.proofs.min_rtt.Goals as goal

pub returns-then-k-ge-SAMPLES : goal.returns-then-k-ge-SAMPLES
returns-then-k-ge-SAMPLES c = min-none _ c.first_used-k.ensures (samples-length _ (search rules))
    c.if-k-ge-SAMPLES.true

pub returns : goal.returns
returns c = min-some _ c.first_used-k.ensures
    (samples-length _ (search rules)) c.if-k-ge-SAMPLES.false
    c.sample.ensures c.least_of.ensures
