-- Rivals from bytes: for each the twelve words of its row (Rows.antt, crate rivalrows), eight bytes for a word.
use Rattle.std.specs.Prelude.{ℕ, zero, suc, ◌*◌, List, [], ◌∷◌, cond, ltb, length, drop, replicate}
use Rattle.octets.specs.Octets.{read_at}
use Rattle.select.specs.Rivals.{max_paths}
use Rattle.select.specs.declared.types.Rival.{Rival}
use Rattle.rivalrows.specs.Rows.{row_len, rival_in, field_in}

-- the bytes of a rival
abbrev pub rival_len : ℕ
rival_len = 8 * row_len

-- the bytes of a field, a rival for each place
abbrev pub field_len : ℕ
field_len = max_paths * rival_len

-- the bytes of a pair of rivals
abbrev pub pair_len : ℕ
pair_len = 2 * rival_len

-- the words of the row at the front of the bytes
unfoldable pub row_from : List ℕ → List ℕ
row_from s =
    read_at 0 8 s ∷ read_at 8 8 s ∷ read_at 16 8 s ∷ read_at 24 8 s ∷ read_at 32 8 s ∷ read_at 40 8 s ∷ read_at 48 8 s
    ∷ read_at 56 8 s ∷ read_at 64 8 s ∷ read_at 72 8 s ∷ read_at 80 8 s ∷ read_at 88 8 s ∷ []

-- the rival at the front of the bytes
unfoldable pub rival_from : List ℕ → Rival
rival_from s = rival_in (row_from s)

-- the first n rows
abbrev pub rows_from : ℕ → List ℕ → List (List ℕ)
rows_from zero s = []
rows_from (suc n) s = row_from s ∷ rows_from n (drop rival_len s)

-- the rows of a field, of nothing where there are fewer bytes
unfoldable pub rows_of : List ℕ → List (List ℕ)
rows_of s = cond (ltb (length s) field_len) (replicate max_paths (replicate row_len 0)) (rows_from max_paths s)

-- a field of rivals
unfoldable pub field_of : List ℕ → List Rival
field_of s = field_in (rows_of s)
