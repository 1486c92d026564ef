-- The halving of the gap between proven and lost: a proposed size lies strictly between them, and either outcome leaves
-- at most half of the gap, rounded up.
-- Assumes nothing.
use Rattle.std.specs.Prelude.{Some}
use mathlib.Core.Path.{◌≡◌}
use Prim.Native.Nat.{ℕ, ◌+◌, ◌-◌, ◌*◌, ◌/◌, ◌<◌, ◌≤◌}
use native.Mathlib.Omega.{arith}
use borrow.Author.Tests.{lt-ltb, ne_eqb}
use Rattle.seek.specs.Rules.{proposal_of}

-- a size that halves the gap between proven and lost
pub record Halves (proven lost size : ℕ) : Type 0 where
  pub above : proven < size
  pub below : size < lost
  pub under : size - proven ≤ (lost - proven + 1) / 2
  pub over : lost - size ≤ (lost - proven + 1) / 2

pub halves : (lost proven : ℕ) → proven + 32 < lost → Halves proven lost (proven + (lost - proven) / 2)
halves lost proven h = record { above = omega arith; below = omega arith; under = omega arith; over = omega arith }

-- what is proposed with lost > proven + 32 is that size
pub proposed : (lost proven full : ℕ) → proven < full → proven + 32 < lost → proposal_of lost proven full ≡ Some (proven + (lost - proven) / 2)
unfolding proposal_of
proposed lost proven full f h =
    simp (lt-ltb proven full f, ne_eqb lost 0 (λ e. omega arith), lt-ltb (proven + 32) lost h)

-- a gap of at most twice g leaves one of at most g, whether the size is proven or lost
pub halved : {proven lost size : ℕ} (g : ℕ) → Halves proven lost size → lost - proven ≤ 2 * g → (lost - size ≤ g) × (size - proven ≤ g)
halved g h k = (omega (arith, h.over), omega (arith, h.under))
