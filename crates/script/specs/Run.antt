-- A whole script: calls of 48 bytes each, carried out one after the other on a path that starts anew; six numbers of
-- eight bytes for each answer, then the image of the path. Refusals: 13 where the bytes end inside a call, 16 where too
-- few are lent.
use Rattle.std.specs.Prelude.{ℕ, zero, suc, ◌+◌, ◌/◌, ◌%◌, List, [], ◌∷◌, ◌++◌, cond, eqb, ltb, length, drop}
use Rattle.base.specs.Refusals.{refusal_number}
use Rattle.base.specs.declared.types.Refusal.TheVariants.{Cut, Lent}
use Rattle.octets.specs.Octets.{read_at, words_of, over}
use Rattle.image.specs.Image.{image_of}
use Rattle.live.specs.New.{new_liveness}
use Rattle.live.specs.declared.types.Liveness.{Liveness}
use Rattle.script.specs.Calls.{call_of}
use Rattle.script.specs.declared.types.Call.{Call}

-- the call at the front of the bytes: six numbers
abbrev pub call_from : List ℕ → Call
call_from s =
    record {
      op = read_at 0 8 s;
      a = read_at 8 8 s;
      b = read_at 16 8 s;
      c = read_at 24 8 s;
      d = read_at 32 8 s;
      e = read_at 40 8 s;
    }

-- the first n calls
abbrev pub calls_of : ℕ → List ℕ → List Call
calls_of zero s = []
calls_of (suc n) s = call_from s ∷ calls_of n (drop 48 s)

-- the path after some calls
abbrev pub run_of : Liveness → List Call → Liveness
run_of p [] = p
run_of p (c ∷ cs) = run_of (call_of p c).path cs

-- the numbers of their answers, one answer after the other
abbrev pub answers_of : Liveness → List Call → List ℕ
answers_of p [] = []
answers_of p (c ∷ cs) = (call_of p c).words ++ answers_of (call_of p c).path cs

-- what calls on a new path make: the answers, then the image
abbrev pub bytes_of : List Call → List ℕ
bytes_of cs = words_of (answers_of new_liveness cs) ++ image_of (run_of new_liveness cs)

-- 13 where the script ends inside a call, 16 where fewer bytes are lent than it needs
unfoldable pub script_number : List ℕ → ℕ → ℕ
script_number s lent =
    cond (eqb (length s % 48) 0) (cond (ltb lent (length s + 1800)) (refusal_number Lent) 0) (refusal_number Cut)

-- the lent bytes after it: the script's over their front, or as they were where it is refused
unfoldable pub script_out : List ℕ → List ℕ → List ℕ
script_out s l = cond (eqb (script_number s (length l)) 0) (over (bytes_of (calls_of (length s / 48) s)) l) l
