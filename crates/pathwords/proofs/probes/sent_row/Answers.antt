use mathlib.Core.Path.{refl}
use borrow.Author.Rules.{rules}
use Rattle.cells.proofs.MakerLaws.{sent-made}
use Rattle.pathwords.proofs.probes.sent_row.Goals as goal

pub returns : goal.returns
returns c = sent-made _ (c.from.ensures, search rules) (refl, c.marked.ensures.1) c.marked.ensures.0
