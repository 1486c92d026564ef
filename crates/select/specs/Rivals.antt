-- Rivals and their orders (document 01, "Choice": "least score, then index, by totalOrder"; "by medium, score, index";
-- "known RTT first, then RTT, index"), and what the refusals 6 and 12 ask of a field of given rivals.
use Rattle.std.specs.Prelude.{ℕ, suc, Bool, true, false, not, cond, ◌&&◌, ◌||◌, List, [], ◌∷◌, ltb, eqb}
use Rattle.std.specs.Bool.{beq}
use Rattle.std.specs.Float.{binary64}
use Rattle.std.specs.Float.Ieee.{of_bits}
use Rattle.base.specs.Limits.{is_endless}
use Rattle.total.specs.Values.{total_of}
use Rattle.select.specs.Media.{speed_of}
use Rattle.select.specs.declared.types.Rival.{Rival}
use Rattle.select.specs.declared.types.Medium.TheVariants.{Ble}

-- the paths of a peer, and so the places of a field, `PATH_MAX_PER_PEER`
abbrev pub max_paths : ℕ
max_paths = 8

-- a place of the field with no rival
abbrev pub no_rival : Rival
no_rival =
    record {
      score = of_bits binary64 0;
      steady = of_bits binary64 0;
      rtt = 0;
      base = 0;
      index = 0;
      tier = 0;
      held = false;
      scored = false;
      steadied = false;
      timed = false;
      based = false;
      preferred = false;
      pinned = false;
      fits = false;
      medium = Ble;
    }

-- 6: a duration of 2 ^ 62 or more, an RTT or base RTT that the rival has
abbrev pub is_long : Rival → Bool
is_long r = (r.timed && is_endless r.rtt) || (r.based && is_endless r.base)

-- 12: a rival's index is not its place. At its place, or no rival
abbrev pub at_place : ℕ → Rival → Bool
at_place n r = not r.held || eqb r.index n

-- each rival from place n on is at its place
abbrev pub placed : ℕ → List Rival → Bool
placed n [] = true
placed n (r ∷ l) = cond (at_place n r) (placed (suc n) l) false

-- ---- the orders: a comes before b

-- the highest tier first
abbrev pub by_tier : Rival → Rival → Bool
by_tier a b = ltb b.tier a.tier

-- by score, then index, by totalOrder
abbrev pub by_score : Rival → Rival → Bool
by_score a b = not (total_of b.score a.score) || (total_of a.score b.score && ltb a.index b.index)

-- by medium, score, index
abbrev pub by_medium : Rival → Rival → Bool
by_medium a b =
    ltb (speed_of a.medium) (speed_of b.medium) || (eqb (speed_of a.medium) (speed_of b.medium) && by_score a b)

-- the RTT, and 0 where it is not known
abbrev pub trip_of : Rival → ℕ
trip_of r = cond r.timed r.rtt 0

-- known RTT first, then RTT, index
abbrev pub by_trip : Rival → Rival → Bool
by_trip a b =
    (a.timed && not b.timed)
    || (beq a.timed b.timed && (ltb (trip_of a) (trip_of b) ||
    (eqb (trip_of a) (trip_of b) && ltb a.index b.index)))
