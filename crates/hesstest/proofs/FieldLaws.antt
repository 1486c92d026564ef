-- The rivals of eight rows.
-- Assumes nothing.
use Prim.Native.Nat.{ℕ}
use mathlib.Core.Path.{◌≡◌, ap, ◌∙◌}
use mathlib.Core.List.{List, [], ◌∷◌}
use lib.ListN.{length, get_or}
use Rattle.select.specs.declared.types.Rival.{Rival}
use Rattle.rivalrows.specs.Rows.{rival_in, field_in}
use Rattle.rivalrows.proofs.RowLaws.{eight}

pub field-made : (ws : List (List ℕ)) (d : List ℕ) → length ws ≡ 8 → {p q r s t u v w : Rival} → p ≡ rival_in (get_or ws 0 d)
    → q ≡ rival_in (get_or ws 1 d) → r ≡ rival_in (get_or ws 2 d) → s ≡ rival_in (get_or ws 3 d) → t ≡ rival_in (get_or ws 4 d)
    → u ≡ rival_in (get_or ws 5 d) → v ≡ rival_in (get_or ws 6 d) → w ≡ rival_in (get_or ws 7 d)
    → (p ∷ q ∷ r ∷ s ∷ t ∷ u ∷ v ∷ w ∷ []) ≡ field_in ws
field-made ws d n a b c e f g h i =
    (λ o. a o ∷ b o ∷ c o ∷ e o ∷ f o ∷ g o ∷ h o ∷ i o ∷ []) ∙ ap field_in (eight ws d n)
