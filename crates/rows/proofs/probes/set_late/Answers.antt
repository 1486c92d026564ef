use borrow.Author.Rules.{rules}
use Rattle.rows.proofs.SaysLaws.{past-late, says-late, whole}
use Rattle.rows.proofs.probes.set_late.Goals as goal

pub returns-then-i-ge-LATE : goal.returns-then-i-ge-LATE
returns-then-i-ge-LATE c = past-late _ (search rules) _ c.if-i-ge-LATE.true

pub returns : goal.returns
returns c = says-late _ (search rules) _ c.if-i-ge-LATE.false (whole c.sent_row.ensures)
