use Rattle.cells.proofs.RowLaws.{ladder-made}
use Rattle.pathwords.proofs.probes.ladder_word.Goals as goal

pub returns : goal.returns
returns c = ladder-made _ c.len_word.ensures c.fall.ensures.0
