use mathlib.Core.Path.{◌≡◌}
use lib.ListN.{length}
use borrow.Author.Rules.{rules}
use Rattle.rows.specs.Places.{row_count}
use Rattle.rows.proofs.SaysLaws.{none-late, past-late, says-late, coded-late}
use Rattle.rows.proofs.ViewLaws.{late-at}
use Rattle.rows.proofs.probes.move_late.Goals as goal

pub returns-then-from-ge-LATE : goal.returns-then-from-ge-LATE
returns-then-from-ge-LATE c = none-late _ (search rules) _ c.if-from-ge-LATE.true c.none.ensures c.set_late.ensures

pub returns-then-to-ge-LATE : goal.returns-then-to-ge-LATE
returns-then-to-ge-LATE c = past-late _ (search rules) _ c.if-to-ge-LATE.true

pub returns : goal.returns
returns c = let n : length c.args.p.now ≡ row_count = search rules in let h = c.if-from-ge-LATE.false in says-late _ n _ c.if-to-ge-LATE.false (coded-late _ n _ h, late-at _ _ h)
