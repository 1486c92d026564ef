use borrow.Author.Rules.{rules}
use Rattle.rows.proofs.SaysLaws.{past-span, says-span, whole}
use Rattle.rowmeasures.proofs.set_span.Goals as goal

pub returns-then-i-ge-SPANS : goal.returns-then-i-ge-SPANS
returns-then-i-ge-SPANS c = past-span _ (search rules) _ c.if-i-ge-SPANS.true

pub returns : goal.returns
returns c = says-span _ (search rules) _ c.if-i-ge-SPANS.false (whole c.span_row.ensures)
