use borrow.Author.Rules.{rules}
use Rattle.rows.proofs.SaysLaws.{put-ladder}
use Rattle.rows.proofs.probes.set_ladder.Goals as goal

pub returns : goal.returns
returns c = put-ladder c.args.p.now (search rules) c.ladder_word.ensures c.put.ensures
