-- Records of the fixed list: inputs, then the answers that the unchanged Rust gave to them. Every number has eight
-- little-endian bytes.
use Rattle.std.specs.Prelude.{ℕ, ◌+◌, ◌%◌, ◌^◌, Bool, true, false, cond, ◌&&◌, List, [], ◌∷◌, length, take, drop, replicate, ◌==◌}
use Rattle.octets.specs.Octets.{read_at}
use Rattle.total.specs.Patterns.{float_of}
use Rattle.script.specs.Run.{script_number, script_out}
use Rattle.c_choice.specs.Choice.{choose_reply, best_reply, best_out, held_from, waits_from}
use Rattle.c_reply.specs.declared.Reply.{Reply}

-- the same bytes
abbrev pub alike : List ℕ → List ℕ → Bool
alike [] [] = true
alike [] (y ∷ m) = false
alike (x ∷ l) [] = false
alike (x ∷ l) (y ∷ m) = x == y && alike l m

-- a reply of this number and this value
abbrev pub is_reply : Reply → ℕ → ℕ → Bool
is_reply r number value = r.number == number && r.value == value

-- the reply that stands from `at` on
abbrev pub replied : Reply → ℕ → List ℕ → Bool
replied r at s = is_reply r (read_at at 8 s) (read_at (at + 8) 8 s)

-- A script of 64 calls (3,072 bytes), its 64 answers and the image after them (4,872): what `hess_script` writes into
-- 4,872 zeros is what the Rust wrote
unfoldable pub script_agrees : List ℕ → Bool
script_agrees s =
    cond (length s == 7944)
    (script_number (take 3072 s) 4872 == 0 && alike (script_out (take 3072 s) (replicate 4872 0)) (drop 3072 s))
    false

-- A field (768), a margin (8), number and value of `choose` (16), the number of `best` (8) and the two that it writes
-- (16): `hess_choose` replies as the Rust did
unfoldable pub choose_agrees : List ℕ → Bool
choose_agrees s =
    cond (length s == 816) (replied (choose_reply (take 768 s) (float_of (read_at 768 8 s))) 776 s) false

-- and `hess_best`, with what it writes into 16 zeros
unfoldable pub best_agrees : List ℕ → Bool
best_agrees s =
    cond (length s == 816)
    (best_reply (take 768 s) 16 == read_at 792 8 s && alike (best_out (take 768 s) (replicate 16 0)) (drop 800 s))
    false

-- A pair (192), a margin (8), number and value of `held` and of `waits` (32): `hess_held` and `hess_waits` reply as the
-- Rust did
unfoldable pub pair_agrees : List ℕ → Bool
pair_agrees s =
    cond (length s == 232)
    (replied (held_from (take 192 s) (float_of (read_at 192 8 s))) 200 s
    && replied (waits_from (take 192 s) (float_of (read_at 192 8 s))) 216 s)
    false

-- how many records agree after one more, modulo 2 ^ 64
abbrev pub counted_of : ℕ → Bool → ℕ
counted_of equal agrees = cond agrees ((equal + 1) % 2 ^ 64) equal
