use borrow.Author.Rules.{rules}
use Rattle.rows.proofs.SaysLaws.{put-seek}
use Rattle.rowmeasures.proofs.set_seek.Goals as goal

pub returns : goal.returns
returns c = put-seek c.args.p.now (search rules) c.tag.ensures c.unwrap_or.ensures c.search_word.ensures (c.from.ensures, search rules) c.put_half.ensures c.put_half-2.ensures
