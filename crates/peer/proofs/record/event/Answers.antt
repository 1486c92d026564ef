use Rattle.std.proofs.Common.{rules}
use borrow.Author.Tests.{ne_eqb}
use Rattle.peer.proofs.StepLaws.{steps-choose, steps-in, steps-out}
use Rattle.peer.proofs.record.event.Goals as goal

pub returns-then-e-eq15 : goal.returns-then-e-eq15
returns-then-e-eq15 c = steps-choose c.args.t.now c.args.rec.now c.args.e c.if-e-eq15.true c.chosen.ensures

pub returns-then-e-gt7 : goal.returns-then-e-gt7
returns-then-e-gt7 c = steps-out c.args.t.now c.args.rec.now c.args.e (search rules) (ne_eqb _ _ c.if-e-eq15.false) c.if-e-gt7.true c.beyond.ensures

pub returns : goal.returns
returns c = steps-in c.args.t.now c.args.rec.now c.args.e (search rules) (ne_eqb _ _ c.if-e-eq15.false) c.if-e-gt7.false c.on_rows.ensures
