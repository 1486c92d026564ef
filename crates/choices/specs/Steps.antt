-- For the code of the choice: its steps, each by the least of some keys (Keys.antt, crate leads). That they make the choice
-- of Choice.antt (crate select) is proved in proofs/AnswerLaws.antt, by PickLaws.antt and TripLaws.antt.
use Rattle.std.specs.Prelude.{ℕ, Bool, true, not, cond, ◌||◌, List, map, ltb, leb, eqb, Float, get_or, Option, None, Some, Result, Ok, Err}
use Rattle.std.specs.Float.{binary64}
use Rattle.std.specs.Float.Ieee.{mul}
use Rattle.base.specs.Refusals.{refusal_number}
use Rattle.base.specs.declared.types.Refusal.{Refusal}
use Rattle.base.specs.declared.types.Refusal.TheVariants.{Duration, NoPath, Index}
use Rattle.total.specs.Places.{key_float, limit_key}
use Rattle.select.specs.Rivals.{no_rival, placed}
use Rattle.select.specs.Choice.{none_is, rivals_of, picked_of, slot_of}
use Rattle.select.specs.declared.types.Rival.{Rival}
use Rattle.leads.specs.Keys.{off_key, is_beyond, wait_key, trip_key, speed_key, left_keys, is_near_key, is_speed, least_lead}
use Rattle.leads.specs.declared.least.Lead.{Lead}

-- the choice among rivals whose round trips are not tried: 12, 11, or the slot. A record's are such
unfoldable pub seated_of : List Rival → Float → Result ℕ Refusal
seated_of field margin = cond (not (placed 0 field)) (Err Index) (slot_of (picked_of field margin))

-- the choice where round trips are let through up to a longest: 6, then as above
unfoldable pub answer_up_to : ℕ → List Rival → Float → Result ℕ Refusal
answer_up_to longest field margin =
    cond (not (none_is (is_beyond longest) (rivals_of field))) (Err Duration) (seated_of field margin)

-- the score of the rival at a place, if there is one
unfoldable pub score_at : List Rival → ℕ → Result (Option Float) Refusal
score_at field at = cond (get_or field at no_rival).scored (Ok (Some (get_or field at no_rival).score)) (Ok None)

-- of `best`: a refusal, and no score where there is no path
unfoldable pub best_refusal : Refusal → Result (Option Float) Refusal
best_refusal why = cond (eqb (refusal_number why) (refusal_number NoPath)) (Ok None) (Err why)

-- the first near one over a quicker medium than that at `at`: of the least speed among the near, the least score
unfoldable pub over_medium : List ℕ → ℕ → List ℕ → ℕ → ℕ
over_medium keys limit speeds at =
    let pace = get_or speeds at 0 in
    let quick = (least_lead (left_keys (is_near_key limit) keys speeds)).key in
    cond (eqb pace 3)
    at
    (cond (ltb quick pace) (least_lead (left_keys (is_speed quick) speeds (left_keys (is_near_key limit) keys keys))).at at)

-- those that are preferred, where only they are asked
abbrev pub isLeft : Bool → Rival → Bool
isLeft only r = r.preferred || not only

-- where one has a score: the first preferred one near the best, else the best; then over a quicker medium
unfoldable pub after_best : List Rival → List ℕ → Lead → Float → ℕ
after_best field keys best margin =
    let limit = limit_key (mul binary64 (key_float best.key) margin) in
    let second = least_lead (left_keys (isLeft true) field keys) in
    let only = leb second.key limit in
    over_medium (left_keys (isLeft only) field keys) limit (map speed_key field) (cond only second.at best.at)

-- where none has a score: the least known round trip; if there is none below 2 ^ 64 - 1, the first known one, else the
-- first
unfoldable pub soonest_of : List Rival → ℕ → ℕ
soonest_of field top =
    let trip = least_lead (map (trip_key top) field) in
    cond (eqb trip.key off_key) (least_lead (map (wait_key top) field)).at trip.at
