use borrow.Author.Rules.{rules}
use Rattle.rows.proofs.SaysLaws.{put-traffic}
use Rattle.rowmeasures.proofs.set_traffic.Goals as goal

pub returns : goal.returns
returns c = put-traffic c.args.p.now (search rules) c.arrivals_row.ensures c.count_word.ensures c.put.ensures
