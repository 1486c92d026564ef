use borrow.Author.Rules.{rules}
use Rattle.cells.specs.Code.{search_word}
use Rattle.cells.proofs.RowLaws.{halves-made}
use Rattle.pathwords.proofs.measures.search_word.Goals as goal

pub returns : goal.returns
unfolding search_word
returns c = halves-made 65536 (c.from.ensures, search rules) (c.from-2.ensures, search rules)
