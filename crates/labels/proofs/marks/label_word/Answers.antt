use borrow.Author.Rules.{rules}
use Rattle.cells.proofs.RowLaws.{label-made}
use Rattle.labels.proofs.marks.label_word.Goals as goal

pub returns : goal.returns
returns c = label-made _ _ (c.from-2.ensures, search rules) (c.from.ensures, search rules) c.flag_bits.ensures.0
