use Rattle.fields.proofs.FieldLaws.{rival-made}
use Rattle.fields.proofs.rival_from.Goals as goal

pub returns : goal.returns
returns c = rival-made _ _ c.row_from-row.ensures c.rival_in.ensures
