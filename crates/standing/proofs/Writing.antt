-- What a writer of a standing says and leaves, by whether the standing fits.
-- Assumes nothing.
use Rattle.std.specs.Prelude.{Result, Ok, Err}
use Rattle.base.specs.declared.types.Refusal.{Refusal}
use Prim.Native.Nat.{ℕ, zero, suc, ◌<◌, ◌≤◌}
use native.Mathlib.Omega.{arith}
use mathlib.Core.Bool.{true, false}
use mathlib.Core.Path.{◌≡◌, refl, sym, ap, ◌∙◌}
use mathlib.Core.List.{List, [], ◌∷◌}
use borrow.Author.Tests.{le-leb, lt-leb, le-ltb, lt-ltb}
use lib.ListN.{length, get_or}
use Rattle.base.specs.declared.types.Refusal.TheVariants as refusal
use Rattle.octets.specs.Octets.{flat, over}
use Rattle.octets.proofs.Fill.{Filled, filled-over, over-not}
use Rattle.rules.specs.Rules.{empty_slot}
use Rattle.rules.specs.Step.{slot_with}
use Rattle.rules.specs.declared.types.Slot.{Slot}
use Rattle.standing.specs.Standing.{standing_of, parts_of, bytes_in, standing_bytes, written_of, slot_written, slot_out}
use Rattle.standing.specs.declared.types.Standing.{Standing}
use Rattle.standing.specs.declared.types.Field.{Field}

module _ (s : Standing) (l : List ℕ) (fs : List Field) (e : fs ≡ parts_of s) where
  bytes : flat bytes_in fs ≡ standing_bytes s
  unfolding standing_bytes
  bytes = ap (flat bytes_in) e

  -- too few bytes are lent
  pub written-not : {n : ℕ} → n ≡ length (flat bytes_in fs) → length l < n
      → (Err refusal.Lent ≡ written_of s (length l)) × (l ≡ over (standing_bytes s) l)
  unfolding written_of
  written-not {n} q h =
      let k : length l < length (standing_bytes s) = omega (arith, q, ap length bytes) in
      (rw (lt-leb (length (standing_bytes s)) (length l) k), sym (over-not (standing_bytes s) l k))

  -- all is written
  pub written-whole : {m : List ℕ} {at : ℕ} → Filled l (flat bytes_in fs) m at
      → (Ok at ≡ written_of s (length l)) × (m ≡ over (standing_bytes s) l)
  unfolding written_of
  written-whole {m} {at} f =
      let q : length (standing_bytes s) ≡ at = ap length (sym bytes) ∙ f.long in
      let k : length (standing_bytes s) ≤ length l = omega (arith, q, f.room) in (
        rw (le-leb (length (standing_bytes s)) (length l) k) (ap (λ (n : ℕ). Ok n) (sym q)),
        filled-over f ∙ ap (λ (b : List ℕ). over b l) bytes,
      )

-- an element does not depend on what stands for a missing one
pub at-any : {A : Type 0} (l : List A) (i : ℕ) (d d₂ : A) → i < length l → get_or l i d ≡ get_or l i d₂
at-any [] i d d₂ h = absurd (omega arith)
at-any (x ∷ l) zero d d₂ h = refl
at-any (x ∷ l) (suc i) d d₂ h = at-any l i d d₂ (omega arith)

-- of a slot of a record, by its slots
module _ (r : List Slot) (i : ℕ) (l : List ℕ) where
  pub slot-above : 7 < i → (Err refusal.Slot ≡ slot_written r i (length l)) × (l ≡ slot_out r i l)
  unfolding slot_written slot_out
  slot-above h = (simp (lt-ltb 7 i h), simp (lt-ltb 7 i h))

  module _ (h : i ≤ 7) (eight : length r ≡ 8) (d : Slot) where
    inside : slot_with r i ≡ get_or r i d
    inside = at-any r i empty_slot d (omega (arith, eight))

    pub slot-empty : (get_or r i d).used ≡ false
        → (Err refusal.Empty ≡ slot_written r i (length l)) × (l ≡ slot_out r i l)
    unfolding slot_written slot_out
    slot-empty e =
        let u : (slot_with r i).used ≡ false = ap (λ (s : Slot). s.used) inside ∙ e in
        (simp (le-ltb 7 i h, u), simp (le-ltb 7 i h, u))

    pub slot-told : (get_or r i d).used ≡ true → {s : Standing} → s ≡ standing_of (get_or r i d).path
        → {w : Result ℕ Refusal} {m : List ℕ} → (w ≡ written_of s (length l)) × (m ≡ over (standing_bytes s) l)
        → (w ≡ slot_written r i (length l)) × (m ≡ slot_out r i l)
    unfolding slot_written slot_out
    slot-told e {s} q {w} {m} k =
        let u : (slot_with r i).used ≡ true = ap (λ (s : Slot). s.used) inside ∙ e in
        let p : s ≡ standing_of (slot_with r i).path = q ∙ ap (λ (s : Slot). standing_of s.path) (sym inside) in (
          rw (le-ltb 7 i h, u) (k.0 ∙ ap (λ (z : Standing). written_of z (length l)) p),
          rw (le-ltb 7 i h, u) (k.1 ∙ ap (λ (z : Standing). over (standing_bytes z) l) p),
        )
