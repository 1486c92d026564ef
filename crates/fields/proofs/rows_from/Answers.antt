use Rattle.fields.proofs.FieldLaws.{rows_short, rows_made}
use Rattle.fields.proofs.rows_from.Goals as goal

pub returns-then-bytes-lt-FIELD_LEN : goal.returns-then-bytes-lt-FIELD_LEN
returns-then-bytes-lt-FIELD_LEN c = rows_short _ c.if-bytes-lt-FIELD_LEN.true

pub returns : goal.returns
returns c = rows_made _ c.if-bytes-lt-FIELD_LEN.false c.row_from.ensures c.row_from-2.ensures c.row_from-3.ensures c.row_from-4.ensures c.row_from-5.ensures c.row_from-6.ensures c.row_from-7.ensures c.row_from-8.ensures
