use Prim.Native.Nat.{◌^◌}
use borrow.Author.Rules.{rules}
use Rattle.cells.specs.Code.{count_word}
use Rattle.cells.proofs.RowLaws.{halves-made}
use Rattle.pathwords.proofs.measures.count_word.Goals as goal

pub returns : goal.returns
unfolding count_word
returns c = halves-made (2 ^ 32) (c.from.ensures, search rules) (c.from-2.ensures, search rules)
