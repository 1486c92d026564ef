-- A rival in twelve words: held, index, scored, score, timed, RTT, steadied, steady, based, base RTT, tier, marks (bit 0
-- preferred, 1 pinned, 2 fits, 4 and 5 the medium); a field in eight rows of them.
use Rattle.std.specs.Prelude.{ℕ, ◌+◌, ◌*◌, ◌/◌, ◌%◌, List, [], ◌∷◌, map, Bool, eqb, get_or}
use Rattle.base.specs.Seq.{flag_of}
use Rattle.total.specs.Patterns.{float_of, etx_bits}
use Rattle.select.specs.Media.{medium_bits, medium_of}
use Rattle.select.specs.declared.types.Rival.{Rival}

-- the words of a rival
abbrev pub row_len : ℕ
row_len = 12

-- an odd number is a mark that stands
abbrev pub bit_of : ℕ → Bool
bit_of x = eqb (x % 2) 1

-- the rival that a row says
unfoldable pub rival_in : List ℕ → Rival
rival_in w =
    record {
      score = float_of (get_or w 3 0);
      steady = float_of (get_or w 7 0);
      rtt = get_or w 5 0;
      base = get_or w 9 0;
      index = get_or w 1 0;
      tier = get_or w 10 0 % 256;
      held = bit_of (get_or w 0 0);
      scored = bit_of (get_or w 2 0);
      steadied = bit_of (get_or w 6 0);
      timed = bit_of (get_or w 4 0);
      based = bit_of (get_or w 8 0);
      preferred = bit_of (get_or w 11 0);
      pinned = bit_of (get_or w 11 0 / 2);
      fits = bit_of (get_or w 11 0 / 4);
      medium = medium_of (get_or w 11 0 / 16);
    }

-- the field that rows say
abbrev pub field_in : List (List ℕ) → List Rival
field_in l = map rival_in l

-- the marks of a rival in one word
abbrev pub marks_word : Rival → ℕ
marks_word r = flag_of r.preferred + 2 * flag_of r.pinned + 4 * flag_of r.fits + 16 * medium_bits r.medium

-- the row that says a rival
unfoldable pub row_of : Rival → List ℕ
row_of r =
    flag_of r.held ∷ r.index ∷ flag_of r.scored ∷ etx_bits r.score ∷ flag_of r.timed ∷ r.rtt
    ∷ flag_of r.steadied ∷ etx_bits r.steady ∷ flag_of r.based ∷ r.base ∷ r.tier ∷ marks_word r ∷ []
