use mathlib.Core.Path.{◌≡◌}
use lib.ListN.{length}
use borrow.Author.Rules.{rules}
use Rattle.rows.specs.Places.{row_count}
use Rattle.rows.proofs.SaysLaws.{none-ring, past-ring, says-ring, coded-ring}
use Rattle.rows.proofs.ViewLaws.{ring-at}
use Rattle.rows.proofs.probes.move_sent.Goals as goal

pub returns-then-from-ge-RING : goal.returns-then-from-ge-RING
returns-then-from-ge-RING c = none-ring _ (search rules) _ c.if-from-ge-RING.true c.none.ensures c.set_sent.ensures

pub returns-then-to-ge-RING : goal.returns-then-to-ge-RING
returns-then-to-ge-RING c = past-ring _ (search rules) _ c.if-to-ge-RING.true

pub returns : goal.returns
returns c = let n : length c.args.p.now ≡ row_count = search rules in let h = c.if-from-ge-RING.false in says-ring _ n _ c.if-to-ge-RING.false (coded-ring _ n _ h, ring-at _ _ h)
