use borrow.Author.Rules.{rules}
use Rattle.rows.proofs.SaysLaws.{put-misses}
use Rattle.rows.proofs.probes.set_misses.Goals as goal

pub returns : goal.returns
returns c = put-misses c.args.p.now (search rules) (c.from.ensures, search rules) c.put.ensures
