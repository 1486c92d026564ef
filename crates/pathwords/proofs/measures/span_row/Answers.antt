use Rattle.cells.proofs.MakerLaws.{span-made}
use Rattle.pathwords.proofs.measures.span_row.Goals as goal

pub returns : goal.returns
returns c = span-made _ c.from.ensures
