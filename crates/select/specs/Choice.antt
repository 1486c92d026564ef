-- The choice (document 01, "Choice"): "If any is pinned, only pinned; then the highest tier (0 takes part); then the
-- fitting, if any. If one has a score: least score, then index, by totalOrder; the first preferred one with score <=
-- best × margin replaces it; then a quicker medium so near (preferred ones only, if one was picked), by medium, score,
-- index. With no score: known RTT first, then RTT, index."
use Rattle.base.specs.declared.types.Refusal.{Refusal}
use Rattle.std.specs.Prelude.{Bool, not, cond, List, Float, Option, None, Some, Result, Ok, Err, ℕ}
use Rattle.std.specs.Float.{binary64}
use Rattle.std.specs.Float.Ieee.{mul, le}
use Rattle.std.specs.List.{list_all, filter}
use Rattle.base.specs.First.{unbeaten, first_of}
use Rattle.base.specs.declared.types.Refusal.TheVariants.{Duration, Index, NoPath}
use Rattle.select.specs.Media.{quicker_of}
use Rattle.select.specs.Rivals.{is_long, placed, by_tier, by_score, by_medium, by_trip}
use Rattle.select.specs.declared.types.Medium.{Medium}
use Rattle.select.specs.declared.types.Rival.{Rival}

-- ---- who is ranked

-- no rival of a list passes a test
abbrev pub none_is : (Rival → Bool) → List Rival → Bool
none_is p l = list_all (λ r. not (p r)) l

-- if any passes a test, only those that pass
abbrev pub only_any : (Rival → Bool) → List Rival → List Rival
only_any p l = cond (none_is p l) l (filter p l)

-- the rivals of a field
abbrev pub rivals_of : List Rival → List Rival
rivals_of field = filter (λ r. r.held) field

-- if any is pinned, only pinned
abbrev pub named_of : List Rival → List Rival
named_of field = only_any (λ r. r.pinned) (rivals_of field)

-- then the highest tier (0 takes part): those whose tier none exceeds
abbrev pub high_of : List Rival → List Rival
high_of l = filter (unbeaten by_tier l) l

-- then the fitting, if any
unfoldable pub ranked_of : List Rival → List Rival
ranked_of field = only_any (λ r. r.fits) (high_of (named_of field))

-- ---- the first of a list in an order

-- the first that none comes before
abbrev pub first_by : (Rival → Rival → Bool) → List Rival → Option Rival
first_by before l = first_of before None Some l

-- what there is, else r
abbrev pub or_else : Option Rival → Rival → Option Rival
or_else (Some a) r = Some a
or_else None r = Some r

-- ---- the choice among the ranked

-- those with a score
abbrev pub scored_of : List Rival → List Rival
scored_of l = filter (λ r. r.scored) l

-- best × margin
abbrev pub limit_of : Rival → Float → Float
limit_of best margin = mul binary64 best.score margin

-- those with score <= limit, which is best × margin
abbrev pub near_of : Float → List Rival → List Rival
near_of limit l = filter (λ r. le r.score limit) (scored_of l)

-- the preferred ones
abbrev pub preferred_of : List Rival → List Rival
preferred_of l = filter (λ r. r.preferred) l

-- those over a quicker medium than m
abbrev pub quick_of : Medium → List Rival → List Rival
quick_of m l = filter (λ r. quicker_of r.medium m) l

-- then a quicker medium so near (preferred ones only, if one was picked), by medium, score, index
abbrev pub quickest : List Rival → Rival → Option Rival → Option Rival
quickest near least (Some p) = or_else (first_by by_medium (quick_of p.medium (preferred_of near))) p
quickest near least None = or_else (first_by by_medium (quick_of least.medium near)) least

-- the first preferred one with score <= best × margin replaces it
abbrev pub among_scored : List Rival → Rival → Option Rival
among_scored near least = quickest near least (first_by by_score (preferred_of near))

-- if one has a score: least score, then index; with no score: known RTT first, then RTT, index
abbrev pub among_ranked : List Rival → Float → Option Rival → Option Rival
among_ranked ranked margin (Some least) = among_scored (near_of (limit_of least margin) ranked) least
among_ranked ranked margin None = first_by by_trip ranked

-- the rival to take, or none
unfoldable pub picked_of : List Rival → Float → Option Rival
picked_of field margin = among_ranked (ranked_of field) margin (first_by by_score (scored_of (ranked_of field)))

-- ---- the answers, with the refusals 6, 12 and 11

-- 6: a held rival with a round trip of 2 ^ 62 or more
abbrev pub is_long_held : List Rival → Bool
is_long_held field = not (none_is is_long (rivals_of field))

-- 11: no path
abbrev pub slot_of : Option Rival → Result ℕ Refusal
slot_of (Some r) = Ok r.index
slot_of None = Err NoPath

-- `choose`
unfoldable pub choose_of : List Rival → Float → Result ℕ Refusal
choose_of field margin =
    cond (is_long_held field)
    (Err Duration)
    (cond (not (placed 0 field)) (Err Index) (slot_of (picked_of field margin)))

-- the score of what there is
abbrev pub best_score : Option Rival → Result (Option Float) Refusal
best_score (Some r) = Ok (Some r.score)
best_score None = Ok None

-- `best`: the least score among the ranked
unfoldable pub best_of : List Rival → Result (Option Float) Refusal
best_of field =
    cond (is_long_held field)
    (Err Duration)
    (cond (not (placed 0 field)) (Err Index) (best_score (first_by by_score (scored_of (ranked_of field)))))
