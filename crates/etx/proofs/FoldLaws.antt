-- The maximum as a branch: the second where the first is the NaN or below it, else the first.
-- Assumes nothing.
use mathlib.Core.Path.{◌≡◌}
use mathlib.Core.Bool.{cond, ◌||◌}
use lib.Ieee.{Float, ne, lt}
use Rattle.base.proofs.Cases.{on-flag}
use Rattle.total.specs.Values.{max_of}
use Rattle.total.proofs.ValueLaws.{is-nan, no_nan}

-- the larger of two is the second where the first differs from itself or is below it, else the first
pub max-branch : (x y : Float) → max_of x y ≡ cond (ne x x || lt x y) y x
max-branch x y =
    on-flag (ne x x) (λ a. simp (a, is-nan x a)) (λ a. simp (a, no_nan x a))
