use Rattle.fields.proofs.FieldLaws.{row_made}
use Rattle.fields.proofs.row_from.Goals as goal

pub returns : goal.returns
returns c = row_made _ c.word.ensures c.word-2.ensures c.word-3.ensures c.word-4.ensures c.word-5.ensures c.word-6.ensures c.word-7.ensures c.word-8.ensures c.word-9.ensures c.word-10.ensures c.word-11.ensures c.word-12.ensures
