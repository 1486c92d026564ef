use borrow.Author.Rules.{rules}
use Rattle.rivalrows.proofs.RowLaws.{rows_made}
use Rattle.rivalrows.proofs.rows_of.Goals as goal

pub returns : goal.returns
returns c = rows_made _ _ (search rules) c.row_of.ensures c.row_of-2.ensures c.row_of-3.ensures c.row_of-4.ensures c.row_of-5.ensures c.row_of-6.ensures c.row_of-7.ensures c.row_of-8.ensures
