-- The slot that a choice names is one of the record's.
-- Assumes nothing.
use Rattle.std.specs.Prelude.{Option, None, Some}
use Prim.Native.Nat.{ℕ, suc, ◌+◌, ◌≤◌, ◌<◌}
use mathlib.Core.Path.{◌≡◌, ap}
use mathlib.Core.List.Memᴰ
use mathlib.Core.List.{List, [], ◌∷◌}
use native.Mathlib.Omega.{arith}
use lib.Ieee.{binary64, of_bits}
use lib.ListN.{length}
use Rattle.base.proofs.Cases.{on-flag}
use Rattle.base.specs.First.{unbeaten}
use Rattle.select.specs.Rivals.{by_tier}
use Rattle.select.specs.Choice.{rivals_of, named_of, high_of, ranked_of, picked_of}
use Rattle.select.specs.declared.types.Rival.{Rival}
use Rattle.rules.specs.Event.{value_of}
use Rattle.rules.specs.Step.{rivals_at, is_margin, choice_reply}
use Rattle.rules.specs.declared.types.Slot.{Slot}
use Rattle.rules.proofs.Choosing.{In, From, keep-in, only-in, picked-from}
use Rattle.queries.specs.Choosing.{chosen_of}

-- a rival's index is its slot's number
index_below : {a : Rival} (l : List Slot) (i : ℕ) → In a (rivals_at i l) → a.index < i + length l
index_below [] i m = absurd (Memᴰ.not-nil m)
index_below {a} (s ∷ l) i (Memᴰ.head q) =
    let k : a.index ≡ i = ap (λ (r : Rival). r.index) q in omega arith
index_below (s ∷ l) i (Memᴰ.tail q) = omega (arith, index_below l (suc i) q)

-- the ranked are rivals of the field
ranked-in : {a : Rival} (field : List Rival) → In a (ranked_of field) → In a field
unfolding ranked_of
ranked-in field m =
    let high = (only-in (λ (r : Rival). r.fits) (high_of (named_of field)) m).0 in
    let named = (keep-in (unbeaten by_tier (named_of field)) (named_of field) high).0 in
    (keep-in (λ (r : Rival). r.held) field (only-in (λ (r : Rival). r.pinned) (rivals_of field) named).0).0

named-below : (slots : List Slot) (o : Option Rival) → From (ranked_of (rivals_at 0 slots)) o
    → value_of (choice_reply o) ≤ length slots
named-below slots None f = omega arith
named-below slots (Some r) f =
    omega (arith, index_below slots 0 (ranked-in (rivals_at 0 slots) f))

-- the value of a choice's answer: a slot's number, or 0
pub chosen-below : (slots : List Slot) (span : ℕ) → value_of (chosen_of slots span) ≤ length slots
unfolding chosen_of
chosen-below slots span =
    on-flag (is_margin (of_bits binary64 span))
    (λ q.
    rw q
    (named-below slots (picked_of (rivals_at 0 slots) (of_bits binary64 span))
    (picked-from (rivals_at 0 slots) (of_bits binary64 span))))
    (λ q. rw q (omega arith))
