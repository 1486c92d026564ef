use borrow.Author.Rules.{rules}
use Rattle.rows.proofs.SaysLaws.{put-trip}
use Rattle.rowmeasures.proofs.set_trip.Goals as goal

pub returns : goal.returns
returns c = put-trip c.args.p.now (search rules) c.tag.ensures c.unwrap_or.ensures c.put_half.ensures
