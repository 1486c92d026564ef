use borrow.Author.Rules.{rules}
use Rattle.rows.proofs.SaysLaws.{put-quiet}
use Rattle.rows.proofs.probes.set_quiet.Goals as goal

pub returns : goal.returns
returns c = put-quiet c.args.p.now (search rules) c.tag.ensures c.unwrap_or.ensures c.put_half.ensures
