-- The sizes of the ladder, tried in its order.
-- Assumes nothing.
use mathlib.Core.Path.{◌≡◌, sym, ◌∙◌}
use mathlib.Core.Bool.{Bool, true, false}
use Prim.Native.Nat.{ℕ, ◌*◌, ◌/◌, ◌<◌}
use borrow.Author.Tests.{lt-leb}
use Rattle.base.specs.Limits.{min_len}
use Rattle.seek.specs.Ladder.{fits_of, rung_of}

-- above 27, neither full nor 3/4 fits, and 1/2 does
pub rung-half : (full last : ℕ) {a b d : Bool} → min_len < last → a ≡ fits_of last full → a ≡ false → b ≡ fits_of last (full * 3 / 4) → b ≡ false → d ≡ fits_of last (full * 1 / 2) → d ≡ true → full * 1 / 2 ≡ rung_of full last
unfolding rung_of
rung-half full last h p x q y r z = simp (lt-leb _ _ h, sym p ∙ x, sym q ∙ y, sym r ∙ z)

-- none of the three fits
pub rung-least : (full last : ℕ) {a b d : Bool} → min_len < last → a ≡ fits_of last full → a ≡ false → b ≡ fits_of last (full * 3 / 4) → b ≡ false → d ≡ fits_of last (full * 1 / 2) → d ≡ false → min_len ≡ rung_of full last
unfolding rung_of
rung-least full last h p x q y r z = simp (lt-leb _ _ h, sym p ∙ x, sym q ∙ y, sym r ∙ z)
