use borrow.Author.Rules.{rules}
use mathlib.Core.Path.{sym, ◌∙◌}
use Rattle.probe_events.proofs.ScanLaws.{scan-start, scan-none, scan-stop, scan-next, scan-less}
use Rattle.probe_events.proofs.lapse.scan.Goals as goal

pub loop-i-init : goal.loop-i-init
loop-i-init c = scan-start c.args.cap c.args.at c.args.overdue c.args.heard _ (search rules)

pub loop-i-smaller : goal.loop-i-smaller
loop-i-smaller c = scan-less c.loop-i.invariant (sym c.in-Some.is ∙ c.first_passed.ensures) c.sent-s.ensures _ (sym c.defer.ensures ∙ c.in-Some-defer.is) c.set_sent.ensures

pub loop-i-preserved : goal.loop-i-preserved
loop-i-preserved c = scan-next c.loop-i.invariant (sym c.in-Some.is ∙ c.first_passed.ensures) c.sent-s.ensures _ (sym c.defer.ensures ∙ c.in-Some-defer.is) c.set_sent.ensures

pub returns-in_default : goal.returns-in_default
returns-in_default c = scan-none c.loop-i.invariant (sym c.in_default.is ∙ c.first_passed.ensures)

pub returns-in_default-defer : goal.returns-in_default-defer
returns-in_default-defer c = scan-stop c.loop-i.invariant (sym c.in-Some.is ∙ c.first_passed.ensures) c.sent-s.ensures (sym c.defer.ensures ∙ c.in_default-defer.is)
