-- Numbers in decimal, and the lines of `pathlog` (document 01, "Files and tail").
use Rattle.std.specs.Prelude.{ℕ, zero, suc, ◌+◌, ◌/◌, ◌%◌, cond, List, [], ◌∷◌, ◌++◌, leb, ltb, length}

-- the last digit of a number, in ASCII
abbrev pub last_digit : ℕ → ℕ
last_digit x = 48 + x % 10

-- a number in decimal, the highest digit first: one digit below 10, else the digits of its tenth and the last one
unfoldable pub digits : ℕ → ℕ → List ℕ
digits zero x = last_digit x ∷ []
digits (suc f) x = cond (ltb x 10) (last_digit x ∷ []) (digits f (x / 10) ++ (last_digit x ∷ []))

-- a number has at most 20 digits: those of every number below 10^20, and so of every u64
unfoldable pub decimal : ℕ → List ℕ
decimal x = digits 19 x

-- a number in decimal, and the byte after it
unfoldable pub cell_of : ℕ → ℕ → List ℕ
cell_of x after = decimal x ++ (after ∷ [])

abbrev pub space : ℕ
space = 32

abbrev pub line_feed : ℕ
line_feed = 10

-- "Each line: record number, kind, refusal or 0, value."
unfoldable pub line_of : ℕ → ℕ → ℕ → ℕ → List ℕ
line_of number kind refusal value =
    ((cell_of number space ++ cell_of kind space) ++ cell_of refusal space) ++ cell_of value line_feed

-- how many of some bytes are written over the front of lent ones: all, or none where they do not fit
abbrev pub written : List ℕ → List ℕ → ℕ
written bytes l = cond (leb (length bytes) (length l)) (length bytes) 0
