-- Numbers as little-endian bytes (document 01, "Files and tail": "little-endian"), and what a writer leaves of lent
-- bytes.
use Rattle.std.specs.Prelude.{List, [], ◌∷◌, ◌++◌, cond, ◌&&◌, ℕ, zero, suc, ◌+◌, ◌*◌, ◌/◌, ◌%◌, leb, length, take, drop}

-- the lowest w bytes of x, the lowest first
unfoldable pub le : ℕ → ℕ → List ℕ
le zero x = []
le (suc w) x = x % 256 ∷ le w (x / 256)

-- the bytes of elements, one after the other
unfoldable pub flat : {A : Type 0} → (A → List ℕ) → List A → List ℕ
flat f [] = []
flat f (x ∷ xs) = f x ++ flat f xs

-- numbers one after the other, eight bytes each
abbrev pub words_of : List ℕ → List ℕ
words_of xs = flat (le 8) xs

-- bytes over the front of lent ones, which stay as they are where the bytes do not fit; those past them stay
unfoldable pub over : List ℕ → List ℕ → List ℕ
over bytes l = cond (leb (length bytes) (length l)) (bytes ++ drop (length bytes) l) l

-- the number whose bytes these are, the lowest first
unfoldable pub le_number : List ℕ → ℕ
le_number [] = 0
le_number (b ∷ bs) = b + 256 * le_number bs

-- the number in the w bytes from `at` on; 0 where these are not there or are more than eight
unfoldable pub read_at : ℕ → ℕ → List ℕ → ℕ
read_at at w l = cond (leb w 8 && leb (at + w) (length l)) (le_number (take w (drop at l))) 0
