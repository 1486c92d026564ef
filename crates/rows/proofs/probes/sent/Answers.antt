use borrow.Author.Rules.{rules}
use Rattle.rows.proofs.ViewLaws.{ring-past, ring-at}
use mathlib.Core.Path.{◌∙◌}
use Rattle.rows.proofs.probes.sent.Goals as goal

pub returns-then-i-ge-RING : goal.returns-then-i-ge-RING
returns-then-i-ge-RING c = ring-past _ (search rules) c.if-i-ge-RING.true c.none.ensures

pub returns : goal.returns
returns c = c.sent_in.ensures ∙ ring-at _ _ c.if-i-ge-RING.false
