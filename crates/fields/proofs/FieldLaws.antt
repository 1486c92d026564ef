-- The rows of a field, one after the other.
-- Assumes nothing.
use Prim.Native.Nat.{ℕ, ◌+◌, ◌-◌, ◌<◌, ◌≤◌}
use mathlib.Core.Path.{◌≡◌, ap, sym, ◌∙◌}
use mathlib.Core.List.{List, [], ◌∷◌}
use native.Mathlib.Nat.{le_of_eq}
use borrow.Author.Tests.{lt-ltb, le-ltb}
use borrow.Rule.Slice.PartMut.{mid_of}
use lib.ListN.{length, drop, replicate, length-drop}
use lib.Seq.{take_all, drop-drop}
use Rattle.octets.specs.Octets.{read_at}
use Rattle.select.specs.declared.types.Rival.{Rival}
use Rattle.rivalrows.specs.Rows.{rival_in}
use Rattle.fields.specs.Fields.{field_len, row_from, rival_from, rows_of}

-- the tail of the bytes, as a part of them is lent
tail_from : (s : List ℕ) (at : ℕ) → mid_of at (length s - at) s ≡ drop at s
tail_from s at = take_all (length s - at) (drop at s) (le_of_eq (length-drop at s))

-- a row from its words
pub row_made : (s : List ℕ) {a b c d e f g h i j k l : ℕ} → a ≡ read_at 0 8 s → b ≡ read_at 8 8 s → c ≡ read_at 16 8 s
    → d ≡ read_at 24 8 s → e ≡ read_at 32 8 s → f ≡ read_at 40 8 s → g ≡ read_at 48 8 s → h ≡ read_at 56 8 s
    → i ≡ read_at 64 8 s → j ≡ read_at 72 8 s → k ≡ read_at 80 8 s → l ≡ read_at 88 8 s
    → (a ∷ b ∷ c ∷ d ∷ e ∷ f ∷ g ∷ h ∷ i ∷ j ∷ k ∷ l ∷ []) ≡ row_from s
unfolding row_from
row_made s p q r t u v w x y z m n =
    λ o. p o ∷ q o ∷ r o ∷ t o ∷ u o ∷ v o ∷ w o ∷ x o ∷ y o ∷ z o ∷ m o ∷ n o ∷ []

-- a rival from its row
pub rival-made : (s w : List ℕ) {r : Rival} → w ≡ row_from s → r ≡ rival_in w → r ≡ rival_from s
unfolding rival_from
rival-made s w e f = f ∙ ap rival_in e

-- too few bytes
pub rows_short : (s : List ℕ) → length s < field_len → replicate 8 (replicate 12 0) ≡ rows_of s
unfolding rows_of
rows_short s h = rw (lt-ltb (length s) field_len h)

-- the rows of the tails
module _ (s : List ℕ) where
  -- the tail of a tail
  deeper : (at : ℕ) → drop 96 (drop at s) ≡ drop (at + 96) s
  deeper at = drop-drop 96 at s

  pub rows_made : field_len ≤ length s → {a b c d e f g h : List ℕ} → a ≡ row_from s
      → b ≡ row_from (mid_of 96 (length s - 96) s) → c ≡ row_from (mid_of 192 (length s - 192) s)
      → d ≡ row_from (mid_of 288 (length s - 288) s) → e ≡ row_from (mid_of 384 (length s - 384) s)
      → f ≡ row_from (mid_of 480 (length s - 480) s) → g ≡ row_from (mid_of 576 (length s - 576) s)
      → h ≡ row_from (mid_of 672 (length s - 672) s) → (a ∷ b ∷ c ∷ d ∷ e ∷ f ∷ g ∷ h ∷ []) ≡ rows_of s
  unfolding rows_of
  rows_made n p q r t u v w x =
      let two : drop 96 (drop 96 s) ≡ drop 192 s = deeper 96 in
      let three : drop 96 (drop 192 s) ≡ drop 288 s = deeper 192 in
      let four : drop 96 (drop 288 s) ≡ drop 384 s = deeper 288 in
      let five : drop 96 (drop 384 s) ≡ drop 480 s = deeper 384 in
      let six : drop 96 (drop 480 s) ≡ drop 576 s = deeper 480 in
      let seven : drop 96 (drop 576 s) ≡ drop 672 s = deeper 576 in
      (λ o. p o ∷ (q ∙ ap row_from (tail_from s 96)) o ∷ (r ∙ ap row_from (tail_from s 192)) o
      ∷ (t ∙ ap row_from (tail_from s 288)) o ∷ (u ∙ ap row_from (tail_from s 384)) o
      ∷ (v ∙ ap row_from (tail_from s 480)) o ∷ (w ∙ ap row_from (tail_from s 576)) o
      ∷ (x ∙ ap row_from (tail_from s 672)) o ∷ [])
      ∙ sym (rw (le-ltb (length s) field_len n, two, three, four, five, six, seven))
