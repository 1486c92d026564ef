use borrow.Author.Rules.{rules}
use Rattle.rows.proofs.SaysLaws.{says-ids, whole}
use Rattle.rows.proofs.probes.set_ids.Goals as goal

pub returns : goal.returns
returns c = says-ids _ (search rules) _ (whole c.ids_row.ensures)
