use borrow.Author.Rules.{rules}
use Rattle.rows.proofs.SaysLaws.{put-proven}
use Rattle.rowmeasures.proofs.set_proven.Goals as goal

pub returns : goal.returns
returns c = put-proven c.args.p.now (search rules) c.len_word.ensures c.put.ensures
