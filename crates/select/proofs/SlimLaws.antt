-- A choice reads no score over the horizon and no base RTT: among slim rivals it takes the same slot.
-- Assumes nothing.
use Rattle.std.specs.Prelude.{Option, None, Some}
use mathlib.Core.Path.{◌≡◌, refl, ap, ◌∙◌}
use mathlib.Core.Bool.{Bool, not, cond}
use mathlib.Core.List.{List, map}
use lib.Ieee.{Float, le}
use Rattle.std.specs.List.{filter}
use Rattle.base.proofs.Cases.{on-flag}
use Rattle.select.specs.Media.{quicker_of}
use Rattle.select.specs.Rivals.{by_tier, by_score, by_medium, by_trip}
use Rattle.select.specs.Choice.{
  none_is,
  only_any,
  rivals_of,
  named_of,
  high_of,
  ranked_of,
  first_by,
  or_else,
  scored_of,
  limit_of,
  near_of,
  preferred_of,
  quick_of,
  quickest,
  among_scored,
  among_ranked,
  picked_of,
  slot_of,
}
use Rattle.select.specs.Slim.{slim_of}
use Rattle.select.specs.declared.types.Medium.{Medium}
use Rattle.select.specs.declared.types.Rival.{Rival}
use Rattle.select.proofs.MapLaws.{every_map, keep-map, firsts-map, first-map}

-- ---- the choice among slim rivals

abbrev slims : List Rival → List Rival
slims l = map slim_of l

-- what is found, slim
abbrev found : Option Rival → Option Rival
found None = None
found (Some r) = Some (slim_of r)

module _ (p : Rival → Bool) (same : (r : Rival) → p (slim_of r) ≡ p r) (l : List Rival) where
  kept : filter p (slims l) ≡ slims (filter p l)
  kept = keep-map slim_of p p same l

  -- if any passes, only those that pass
  only : only_any p (slims l) ≡ slims (only_any p l)
  only =
      ap (λ (t : Bool). cond t (slims l) (filter p (slims l)))
      (every_map slim_of (λ (r : Rival). not (p r)) (λ (r : Rival). not (p r)) (λ r. ap not (same r)) l)
      ∙ on-flag (none_is p l) (λ h. rw h) (λ h. rw h kept)

first-slim : (before : Rival → Rival → Bool) → ((a b : Rival) → before (slim_of a) (slim_of b) ≡ before a b)
    → (l : List Rival)
    → first_by before (slims l) ≡ found (first_by before l)
first-slim before same l = first-map slim_of before before same found None Some Some (λ r. refl) l

or-slim : (f : Option Rival) (r : Rival) → or_else (found f) (slim_of r) ≡ found (or_else f r)
or-slim (Some a) r = refl
or-slim None r = refl

ranked-slim : (l : List Rival) → ranked_of (slims l) ≡ slims (ranked_of l)
unfolding ranked_of
ranked-slim l =
    ap (λ (m : List Rival). only_any (λ (r : Rival). r.fits) (high_of (only_any (λ (r : Rival). r.pinned) m)))
    (kept (λ (r : Rival). r.held) (λ r. refl) l)
    ∙ ap (λ (m : List Rival). only_any (λ (r : Rival). r.fits) (high_of m))
    (only (λ (r : Rival). r.pinned) (λ r. refl) (rivals_of l))
    ∙ ap (only_any (λ (r : Rival). r.fits)) (firsts-map slim_of by_tier by_tier (λ a b. refl) (named_of l))
    ∙ only (λ (r : Rival). r.fits) (λ r. refl) (high_of (named_of l))

near-slim : (limit : Float) (l : List Rival) → near_of limit (slims l) ≡ slims (near_of limit l)
near-slim limit l =
    ap (filter (λ (r : Rival). le r.score limit)) (kept (λ (r : Rival). r.scored) (λ r. refl) l)
    ∙ kept (λ (r : Rival). le r.score limit) (λ r. refl) (scored_of l)

preferred-slim : (l : List Rival) → preferred_of (slims l) ≡ slims (preferred_of l)
preferred-slim l = kept (λ (r : Rival). r.preferred) (λ r. refl) l

-- over a quicker medium than m, else r
quick-slim : (m : Medium) (l : List Rival) (r : Rival)
    → or_else (first_by by_medium (quick_of m (slims l))) (slim_of r) ≡ found (or_else (first_by by_medium (quick_of m l)) r)
quick-slim m l r =
    ap (λ (k : List Rival). or_else (first_by by_medium k) (slim_of r))
    (kept (λ (x : Rival). quicker_of x.medium m) (λ x. refl) l)
    ∙ ap (λ (f : Option Rival). or_else f (slim_of r)) (first-slim by_medium (λ a b. refl) (quick_of m l))
    ∙ or-slim (first_by by_medium (quick_of m l)) r

quickest-slim : (near : List Rival) (least : Rival) (f : Option Rival)
    → quickest (slims near) (slim_of least) (found f) ≡ found (quickest near least f)
quickest-slim near least (Some p) =
    ap (λ (k : List Rival). or_else (first_by by_medium (quick_of p.medium k)) (slim_of p)) (preferred-slim near)
    ∙ quick-slim p.medium (preferred_of near) p
quickest-slim near least None = quick-slim least.medium near least

scored-slim : (near : List Rival) (least : Rival)
    → among_scored (slims near) (slim_of least) ≡ found (among_scored near least)
scored-slim near least =
    ap (λ (k : List Rival). quickest (slims near) (slim_of least) (first_by by_score k)) (preferred-slim near)
    ∙ ap (quickest (slims near) (slim_of least)) (first-slim by_score (λ a b. refl) (preferred_of near))
    ∙ quickest-slim near least (first_by by_score (preferred_of near))

among-slim : (ranked : List Rival) (margin : Float) (f : Option Rival)
    → among_ranked (slims ranked) margin (found f) ≡ found (among_ranked ranked margin f)
among-slim ranked margin (Some least) =
    ap (λ (k : List Rival). among_scored k (slim_of least)) (near-slim (limit_of least margin) ranked)
    ∙ scored-slim (near_of (limit_of least margin) ranked) least
among-slim ranked margin None = first-slim by_trip (λ a b. refl) ranked

picked-slim : (l : List Rival) (margin : Float) → picked_of (slims l) margin ≡ found (picked_of l margin)
unfolding picked_of
picked-slim l margin =
    ap (λ (k : List Rival). among_ranked k margin (first_by by_score (scored_of k))) (ranked-slim l)
    ∙ ap (λ (k : List Rival). among_ranked (slims (ranked_of l)) margin (first_by by_score k))
    (kept (λ (r : Rival). r.scored) (λ r. refl) (ranked_of l))
    ∙ ap (among_ranked (slims (ranked_of l)) margin) (first-slim by_score (λ a b. refl) (scored_of (ranked_of l)))
    ∙ among-slim (ranked_of l) margin (first_by by_score (scored_of (ranked_of l)))

slot-slim : (f : Option Rival) → slot_of (found f) ≡ slot_of f
slot-slim (Some r) = refl
slot-slim None = refl

-- the slot that a choice among slim rivals takes
pub slot-picked : (l : List Rival) (margin : Float)
    → slot_of (picked_of (map slim_of l) margin) ≡ slot_of (picked_of l margin)
slot-picked l margin = ap slot_of (picked-slim l margin) ∙ slot-slim (picked_of l margin)
