-- The ladder (document 01, "Ring (8) and late list (4)"): "`size(full)`: full unless fallen with a last size; then
-- after a last size of 27 or less, full; else the first of full, 3/4, 1/2 (rounded down) that is below the last and
-- above 27; else 27."
use Rattle.std.specs.Prelude.{Bool, cond, ◌&&◌, List, [], ◌∷◌, map, ℕ, ◌*◌, ◌/◌, ltb, leb, Option, None, Some}
use Rattle.base.specs.Limits.{min_len}
use Rattle.seek.specs.declared.types.Ladder.{Ladder}

-- "below the last and above 27"
abbrev pub fits_of : ℕ → ℕ → Bool
fits_of last len = ltb len last && ltb min_len len

-- "the first of" these sizes "that is" so; "else 27"
abbrev pub first_fit : ℕ → List ℕ → ℕ
first_fit last [] = min_len
first_fit last (len ∷ l) = cond (fits_of last len) len (first_fit last l)

-- "3/4, 1/2", `LADDER`: each step's numerator and denominator
abbrev pub steps : List (ℕ × ℕ)
steps = (3, 4) ∷ (1, 2) ∷ []

-- "full, 3/4, 1/2 (rounded down)"
abbrev pub rungs : ℕ → List ℕ
rungs full = full ∷ map (λ s. full * s.0 / s.1) steps

-- "after a last size of 27 or less, full; else the first of" these
unfoldable pub rung_of : ℕ → ℕ → ℕ
rung_of full last = cond (leb last min_len) full (first_fit last (rungs full))

-- with a last size the next of the ladder, without one full
abbrev pub after_last : ℕ → Option ℕ → ℕ
after_last full None = full
after_last full (Some last) = rung_of full last

-- "full unless fallen with a last size"
unfoldable pub ladder_size : Ladder → ℕ → ℕ
ladder_size l full = cond l.fallen (after_last full l.last) full
