use Rattle.std.proofs.Common.{ℕ, ◌+◌, sym, ap, rules}
use Rattle.base.proofs.TimeLaws.{halving-start, halving-again, halving-done}
use Rattle.base.proofs.time.deadline.Goals as goal

pub loop-step-init : goal.loop-step-init
loop-step-init c = halving-start (search rules)

pub loop-step-preserved : goal.loop-step-preserved
loop-step-preserved c = halving-again c.loop-step.invariant (search rules) (search rules)

pub returns : goal.returns
returns c = ap (λ (k : ℕ). c.args.t + k) (sym (halving-done c.loop-step.invariant (search rules)))
