use Prim.Native.Nat.{ℕ}
use mathlib.Core.List.{List, [], ◌∷◌}
use borrow.Author.Rules.{rules}
use Rattle.rows.specs.Encode.{empty_rows}
use Rattle.rows.proofs.CloseLaws.{clearing-end}
use Rattle.rows.proofs.whole.wipe.Goals as goal

-- a row of zeros
abbrev zeros : List ℕ
zeros = 0 ∷ 0 ∷ 0 ∷ 0 ∷ []

pub returns : goal.returns
unfolding empty_rows
returns c = clearing-end zeros c.loop-i.invariant (search rules)
