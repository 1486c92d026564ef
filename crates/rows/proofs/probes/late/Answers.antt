use borrow.Author.Rules.{rules}
use Rattle.rows.proofs.ViewLaws.{late-past, late-at}
use mathlib.Core.Path.{◌∙◌}
use Rattle.rows.proofs.probes.late.Goals as goal

pub returns-then-i-ge-LATE : goal.returns-then-i-ge-LATE
returns-then-i-ge-LATE c = late-past _ (search rules) c.if-i-ge-LATE.true c.none.ensures

pub returns : goal.returns
returns c = c.sent_in.ensures ∙ late-at _ _ c.if-i-ge-LATE.false
