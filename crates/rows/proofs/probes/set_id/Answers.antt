use borrow.Author.Rules.{rules}
use Rattle.rows.proofs.SaysLaws.{says-id}
use Rattle.rows.proofs.probes.set_id.Goals as goal

pub returns : goal.returns
returns c = says-id c.args.p.now (search rules) c.args.k c.id_word.ensures c.put.ensures
