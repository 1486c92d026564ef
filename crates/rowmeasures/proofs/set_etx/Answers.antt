use borrow.Author.Rules.{rules}
use Rattle.rows.proofs.SaysLaws.{put-etx}
use Rattle.rowmeasures.proofs.set_etx.Goals as goal

pub returns : goal.returns
returns c = put-etx c.args.p.now (search rules) c.etx_word.ensures c.set_etx_word.ensures
