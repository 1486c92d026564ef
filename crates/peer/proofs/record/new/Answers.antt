use mathlib.Core.Path.{sym, ◌∙◌}
use Rattle.rules.specs.Step.{record_of}
use Rattle.peer.proofs.record.new.Goals as goal

pub returns-then-is_allowed : goal.returns-then-is_allowed
unfolding record_of
returns-then-is_allowed c = let e = sym c.is_allowed.ensures ∙ c.if-is_allowed.true in (rw e, rw e c.set_settings.ensures, rw e c.empty.ensures)

pub returns : goal.returns
unfolding record_of
returns c = let e = sym c.is_allowed.ensures ∙ c.if-is_allowed.false in (rw e, rw e, rw e)
