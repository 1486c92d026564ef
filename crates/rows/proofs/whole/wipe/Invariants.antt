use Prim.Native.Nat.{ℕ}
use mathlib.Core.List.{List, [], ◌∷◌}
use Rattle.rows.specs.Places.{row_count}
use Rattle.rows.proofs.CloseLaws.{Clearing}
use Rattle.rows.proofs.whole.wipe.Given as goal

-- a row of zeros
abbrev zeros : List ℕ
zeros = 0 ∷ 0 ∷ 0 ∷ 0 ∷ []

abbrev pub invariant-loop-i : goal.invariant-loop-i
invariant-loop-i l = Clearing zeros [] row_count l.p l.i
