use borrow.Author.Rules.{rules}
use Rattle.rows.proofs.ViewLaws.{span-past, span-at}
use mathlib.Core.Path.{◌∙◌}
use Rattle.rowmeasures.proofs.span.Goals as goal

pub returns-then-i-ge-SPANS : goal.returns-then-i-ge-SPANS
returns-then-i-ge-SPANS c = span-past _ (search rules) c.if-i-ge-SPANS.true c.none.ensures

pub returns : goal.returns
returns c = c.span_in.ensures ∙ span-at _ _ c.if-i-ge-SPANS.false
