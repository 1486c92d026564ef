use borrow.Author.Rules.{rules}
use Rattle.rivalrows.proofs.RowLaws.{row_made, row-built}
use Rattle.rivalrows.proofs.row_of.Goals as goal

pub returns : goal.returns
returns c = row_made c.args.r (search rules) (search rules) (search rules) (row-built c.args.r c.from.ensures c.from-2.ensures c.etx_bits.ensures c.from-3.ensures c.from-4.ensures c.etx_bits-2.ensures c.from-5.ensures c.from-6.ensures c.marks_of.ensures)
