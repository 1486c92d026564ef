-- One event on the record: what `step` leaves and answers, by the event's kind and slot.
-- Assumes nothing.
use Prim.Native.Nat.{ℕ, ◌<◌, ◌≤◌}
use mathlib.Core.Path.{◌≡◌, ap, sym, ◌∙◌}
use mathlib.Core.Bool.{false}
use mathlib.Core.List.{List}
use lib.Dec.{eqb}
use lib.ListN.{length, get_or, get_or-eq_default}
use lib.Seq.{set_out, drop-cons}
use Rattle.rules.specs.Rules.{empty_slot, on_slot}
use Rattle.rules.specs.Step.{choice_of, put, step}
use Rattle.rules.specs.declared.types.Event.{Event}
use Rattle.rules.specs.declared.types.Slot.{Slot}
use Rattle.rules.specs.declared.types.Record.{Record}
use Rattle.queries.specs.Choosing.{chosen_of}

-- in a list, what is read in place of a missing element does not matter
pub get_d_any : {A : Type 0} (l : List A) (i : ℕ) (d d' : A) → i < length l → get_or l i d ≡ get_or l i d'
get_d_any l i d d' h =
    sym (ap (λ (x : List _). get_or x 0 d) (drop-cons l i d h)) ∙ ap (λ (x : List _). get_or x 0 d) (drop-cons l i d' h)

module _ (r : Record) (e : Event) where
  -- choose: the record stays, and the answer is that of `chosen`
  pub step-choose : e.kind ≡ 15 → step r e ≡ record { next = r; reply = chosen_of r.slots e.span }
  unfolding step choice_of chosen_of
  step-choose k = rw k

  -- another kind on a slot of the record: its turn, put in its place; d is what is read in place of a missing slot
  pub step_in : (d : Slot) → eqb e.kind 15 ≡ false → e.slot < length r.slots
      → step r e ≡ put r e.slot (on_slot r.settings (get_or r.slots e.slot d) e)
  unfolding step
  step_in d k h = rw (k, get_d_any r.slots e.slot empty_slot d h)

  -- another kind on a slot that is none: the record stays, and the answer is that on an empty slot
  pub step-out : eqb e.kind 15 ≡ false → length r.slots ≤ e.slot
      → step r e ≡ record { next = r; reply = (on_slot r.settings empty_slot e).reply }
  unfolding step
  step-out k h =
      rw (
        k,
        get_or-eq_default r.slots empty_slot h,
        set_out r.slots e.slot (on_slot r.settings empty_slot e).slot h,
      )
