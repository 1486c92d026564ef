use Rattle.rows.specs.View.{path_in}
use Rattle.probe_events.proofs.ScanLaws.{none_before}
use Rattle.probe_events.proofs.lapse.first_passed.Goals as goal

pub returns-then-at-eq0 : goal.returns-then-at-eq0
returns-then-at-eq0 c = rw c.if-overdue.true (none_before (path_in c.args.p.now).ring 0 c.if-at-eq0.true)
