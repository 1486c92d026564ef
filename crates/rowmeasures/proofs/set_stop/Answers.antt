use borrow.Author.Rules.{rules}
use Rattle.rows.proofs.SaysLaws.{put-stop}
use Rattle.rowmeasures.proofs.set_stop.Goals as goal

pub returns : goal.returns
returns c = put-stop c.args.p.now (search rules) c.stop_row.ensures c.until_word.ensures c.put.ensures
