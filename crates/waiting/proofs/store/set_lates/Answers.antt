use mathlib.Core.Path.{refl}
use Rattle.waiting.proofs.LateLaws.{late-stored}
use borrow.Author.Rules.{rules}
use Rattle.waiting.proofs.store.set_lates.Goals as goal

pub returns : goal.returns
returns c = late-stored c.args.p.now (search rules) _ c.set_late.ensures c.set_late-2.ensures c.set_late-3.ensures c.set_late-4.ensures _ (search rules) refl refl refl refl
