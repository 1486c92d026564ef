use Rattle.cells.proofs.RowLaws.{etx-made}
use borrow.Author.Rules.{rules}
use Rattle.pathwords.proofs.measures.etx_word.Goals as goal

pub returns : goal.returns
returns c = etx-made _ (search rules) c.etx_bits.ensures
