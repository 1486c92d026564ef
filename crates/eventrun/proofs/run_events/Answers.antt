use mathlib.Core.Path.{◌≡◌, ◌∙◌}
use borrow.Author.Rules.{rules}
use Rattle.std.specs.Prelude.{Err}
use Rattle.rules.proofs.Whole.{demand3}
use Rattle.eventrun.proofs.RunLaws.{run-refused, run_lent, run-whole}
use Rattle.eventrun.proofs.run_events.Goals as goal

pub returns : goal.returns
returns c = let w = run-whole c.args.file.now c.args.out.now c.plan-p.ensures c.in_ok-p.was c.slots_size-told.ensures.0 c.fits.ensures c.if-not-fits.false c.settings_from.ensures c.new.ensures c.write_answers.ensures c.write_slots.ensures in (w.0, (w.1, demand3 _ _))

pub returns-in_err-p : goal.returns-in_err-p
returns-in_err-p c = let e : c.from_residual.result ≡ Err c.in_err-p.field-0.0 = search rules in let w = run-refused c.args.file.now c.args.out.now c.plan-p.ensures.0 c.in_err-p.was in (e ∙ w.0, (w.1, demand3 _ _))

pub returns-then-not-fits : goal.returns-then-not-fits
returns-then-not-fits c = let w = run_lent c.args.file.now c.args.out.now c.plan-p.ensures c.in_ok-p.was c.slots_size-told.ensures.0 c.fits.ensures c.if-not-fits.true in (w.0, (w.1, demand3 _ _))
