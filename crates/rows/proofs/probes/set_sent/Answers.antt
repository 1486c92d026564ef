use borrow.Author.Rules.{rules}
use Rattle.rows.proofs.SaysLaws.{past-ring, says-ring, whole}
use Rattle.rows.proofs.probes.set_sent.Goals as goal

pub returns-then-i-ge-RING : goal.returns-then-i-ge-RING
returns-then-i-ge-RING c = past-ring _ (search rules) _ c.if-i-ge-RING.true

pub returns : goal.returns
returns c = says-ring _ (search rules) _ c.if-i-ge-RING.false (whole c.sent_row.ensures)
