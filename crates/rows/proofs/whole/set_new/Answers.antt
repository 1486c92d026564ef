use Rattle.rows.proofs.NewLaws.{new-made}
use Rattle.rows.proofs.whole.set_new.Goals as goal

pub returns : goal.returns
returns c = new-made _ _ c.wipe.ensures c.etx_word.ensures c.label_word.ensures
