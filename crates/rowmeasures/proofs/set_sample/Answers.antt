use borrow.Author.Rules.{rules}
use Rattle.rows.proofs.SaysLaws.{past-sample, put-sample}
use Rattle.rowmeasures.proofs.set_sample.Goals as goal

pub returns-then-i-ge-SAMPLES : goal.returns-then-i-ge-SAMPLES
returns-then-i-ge-SAMPLES c = past-sample _ (search rules) _ c.if-i-ge-SAMPLES.true

pub returns : goal.returns
returns c = put-sample c.args.p.now (search rules) c.args.i c.args.s c.if-i-ge-SAMPLES.false c.put_half.ensures c.with_bit.ensures c.put.ensures
