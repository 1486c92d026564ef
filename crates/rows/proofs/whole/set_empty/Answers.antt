use Rattle.rows.proofs.NewLaws.{empty-made}
use Rattle.rows.proofs.whole.set_empty.Goals as goal

pub returns : goal.returns
returns c = empty-made c.label_in.ensures c.set_new.ensures
