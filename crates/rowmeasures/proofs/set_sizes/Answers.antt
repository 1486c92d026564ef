use borrow.Author.Rules.{rules}
use Rattle.rows.proofs.SaysLaws.{put-sizes}
use Rattle.rowmeasures.proofs.set_sizes.Goals as goal

pub returns : goal.returns
returns c = put-sizes c.args.p.now (search rules) c.tag.ensures c.unwrap_or.ensures c.search_word.ensures (c.from.ensures, search rules) c.len_word.ensures c.put_half.ensures c.put_half-b.ensures c.put.ensures
