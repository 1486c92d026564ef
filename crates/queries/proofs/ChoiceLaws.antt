-- One rival after the other, the answer, and the margin.
-- Assumes nothing.
use Rattle.std.specs.Prelude.{Option, None, Some, Result, Err}
use Rattle.base.specs.declared.types.Refusal.{Refusal}
use Prim.Native.Nat.{ℕ, zero, suc, ◌+◌, ◌<◌, ◌≤◌}
use mathlib.Core.Path.{◌≡◌, refl, ap, sym, ◌∙◌}
use mathlib.Core.Bool.{Bool, true, false, not, cond, ◌&&◌, ◌||◌, and-true}
use mathlib.Core.List.{List, [], ◌∷◌, ◌++◌, append_assoc, append-nil, map}
use native.Mathlib.Omega.{arith}
use native.Mathlib.Numerals.{add-one}
use lib.ListN.{length, take, drop, set, get_or, length-set, length-map, drop_of_length-le}
use lib.Seq.{take_all, take-suc-set, drop-cons}
use lib.Ieee.{Float, nan, inf, fin, binary64, of_bits, le, lt, div}
use Rattle.base.specs.declared.types.Refusal.TheVariants as refusal
use borrow.Author.Tests.{eq-eqb}
use Rattle.select.specs.Rivals.{at_place, placed}
use Rattle.select.specs.Choice.{picked_of, slot_of}
use Rattle.select.specs.Slim.{slim_of}
use Rattle.choices.specs.Steps.{seated_of}
use Rattle.rivalrows.specs.Rows.{rival_in, field_in, row_of}
use Rattle.select.specs.declared.types.Rival.{Rival}
use Rattle.rules.specs.Step.{rival_of, rivals_at, is_margin, choice_reply}
use Rattle.rules.specs.declared.types.Slot.{Slot}
use Rattle.rules.specs.declared.types.Reply.{Reply}
use Rattle.rules.specs.declared.types.Reply.TheVariants as reply
use Rattle.queries.specs.Choosing.{slot_reply, chosen_of}

-- of what f makes of the rivals of l those before i stand at the front of out
pub record Filling {B : Type 0} (f : Rival → B) (l : List Slot) (out : List B) (i : ℕ) : Type 0 where
  pub upto : i ≤ 8
  pub slots : length l ≡ 8
  pub long : length out ≡ 8
  pub done : map f (rivals_at 0 l) ≡ take i out ++ map f (rivals_at i (drop i l))

module _ {B : Type 0} {f : Rival → B} {l : List Slot} {out : List B} where
  pub filling-start : length l ≡ 8 → length out ≡ 8 → Filling f l out 0
  filling-start h k = record { upto = omega arith; slots = h; long = k; done = refl }

  pub filling-next : {i : ℕ} {r : B} (d : Slot) → Filling f l out i → i < 8 → r ≡ f (rival_of i (get_or l i d))
      → Filling f l (set out i r) (i + 1)
  filling-next {i} {r} d s h e =
      let a : i < length l = omega (arith, s.slots) in
      let b : i < length out = omega (arith, s.long) in
      let q : take (i + 1) (set out i r) ≡ take i out ++ (r ∷ []) = rw add-one (take-suc-set out i r b) in
      let w : map f (rivals_at i (drop i l)) ≡ f (rival_of i (get_or l i d)) ∷ map f (rivals_at (i + 1) (drop (i + 1) l)) =
      rw (drop-cons l i d a, add-one) in
      let v : map f (rivals_at i (drop i l)) ≡ r ∷ map f (rivals_at (i + 1) (drop (i + 1) l)) =
      w ∙ ap (λ (z : B). z ∷ map f (rivals_at (i + 1) (drop (i + 1) l))) (sym e) in
      record {
        upto = omega arith;
        slots = s.slots;
        long = length-set out i r ∙ s.long;
        done =
            s.done ∙ ap (λ (z : List B). take i out ++ z) v
            ∙ sym (append_assoc (take i out) (r ∷ []) (map f (rivals_at (i + 1) (drop (i + 1) l))))
            ∙ ap (λ (z : List B). z ++ map f (rivals_at (i + 1) (drop (i + 1) l))) (sym q);
      }

  pub filling-end : {i : ℕ} → Filling f l out i → 8 ≤ i → out ≡ map f (rivals_at 0 l)
  filling-end {i} s h =
      let k : length l ≤ i = omega (arith, s.slots) in
      let z : drop i l ≡ [] = drop_of_length-le l k in
      let a : take i out ≡ out = take_all i out (omega (arith, s.long)) in
      sym (rw (z, a, append-nil) at s.done)

-- ---- rows

-- the rival of a row that is put in
set_says : (ws : List (List ℕ)) (i : ℕ) (w : List ℕ) → set (field_in ws) i (rival_in w) ≡ field_in (set ws i w)
set_says [] i w = refl
set_says (v ∷ ws) zero w = refl
set_says (v ∷ ws) (suc i) w = ap (λ (m : List Rival). rival_in v ∷ m) (set_says ws i w)

-- the row of a slot's rival
abbrev slot_row : Rival → List ℕ
slot_row r = row_of (slim_of r)

-- the rows made, and what they say
pub record Rowing (l : List Slot) (out : List (List ℕ)) (i : ℕ) : Type 0 where
  pub made : Filling slot_row l out i
  pub says : Filling slim_of l (field_in out) i

pub rowing_start : {l : List Slot} {out : List (List ℕ)} → length l ≡ 8 → length out ≡ 8 → Rowing l out 0
rowing_start {l} {out} h k =
    record { made = filling-start h k; says = filling-start h (length-map out rival_in ∙ k) }

pub rowing-next : {l : List Slot} {out : List (List ℕ)} {i : ℕ} {r : Rival} {w : List ℕ} (d : Slot) → Rowing l out i → i < 8
    → r ≡ slim_of (rival_of i (get_or l i d)) → (w ≡ row_of r) × (rival_in w ≡ r) → Rowing l (set out i w) (i + 1)
rowing-next {l} {out} {i} {r} {w} d s h e f =
    record {
      made = filling-next d s.made h (f.0 ∙ ap row_of e);
      says = rw (sym (set_says out i w)) (filling-next d s.says h (f.1 ∙ e));
    }

pub rowing-end : {l : List Slot} {out : List (List ℕ)} {i : ℕ} → Rowing l out i → 8 ≤ i
    → (out ≡ map row_of (map slim_of (rivals_at 0 l))) × (field_in out ≡ map slim_of (rivals_at 0 l))
rowing-end {l} {out} s h = (filling-end s.made h ∙ two (rivals_at 0 l), filling-end s.says h)
  where
    two : (m : List Rival) → map slot_row m ≡ map row_of (map slim_of m)
    two [] = refl
    two (r ∷ m) = ap (λ (z : List (List ℕ)). slot_row r ∷ z) (two m)

-- the answer by what was picked
reply-slot : (m : Option Rival) → slot_reply (slot_of m) ≡ choice_reply m
reply-slot (Some r) = refl
reply-slot None = refl

-- a record's rivals have their places for index
rivals-placed : (n : ℕ) (l : List Slot) → placed n (map slim_of (rivals_at n l)) ≡ true
rivals-placed n [] = refl
rivals-placed n (s ∷ l) =
    let e : at_place n (slim_of (rival_of n s)) ≡ true =
    ap (λ (b : Bool). not (rival_of n s).held || b) (eq-eqb n n refl) ∙ or-true (rival_of n s).held in
    rw e (rivals-placed (suc n) l)
  where
    or-true : (b : Bool) → (not b || true) ≡ true
    or-true true = refl
    or-true false = refl

-- so that 12 is not given
seated-as : (slots : List Slot) (margin : Float)
    → seated_of (map slim_of (rivals_at 0 slots)) margin ≡ slot_of (picked_of (map slim_of (rivals_at 0 slots)) margin)
unfolding seated_of
seated-as slots margin = rw (rivals-placed 0 slots)

-- the slot picked among the rows of the slots' rivals
pub picked-as : {rows : List (List ℕ)} (slots : List Slot) (margin : Float) {k : Result ℕ Refusal}
    → (rows ≡ map row_of (map slim_of (rivals_at 0 slots))) × (field_in rows ≡ map slim_of (rivals_at 0 slots))
    → k ≡ seated_of (field_in rows) margin → k ≡ slot_of (picked_of (map slim_of (rivals_at 0 slots)) margin)
picked-as slots margin e f = f ∙ ap (λ (m : List Rival). seated_of m margin) e.1 ∙ seated-as slots margin

-- the answer where the margin is allowed
pub chosen-margin : (slots : List Slot) (span : ℕ) {margin : Float} {k : Result ℕ Refusal} {r : Result Reply Refusal}
    → margin ≡ of_bits binary64 span
    → is_margin margin ≡ true → k ≡ slot_of (picked_of (rivals_at 0 slots) margin) → r ≡ slot_reply k
    → r ≡ chosen_of slots span
unfolding chosen_of
chosen-margin slots span {margin} {k} {r} e m f h =
    h
    ∙ ap slot_reply f
    ∙ reply-slot (picked_of (rivals_at 0 slots) margin)
    ∙ sym
    (ap (λ (t : Bool). cond t (choice_reply (picked_of (rivals_at 0 slots) margin)) (Err refusal.Margin)) m)
    ∙ ap
    (λ (x : Float). cond (is_margin x) (choice_reply (picked_of (rivals_at 0 slots) x)) (Err refusal.Margin)) e

-- above 1 and below infinity
pub margin-is : (x : Float)
    → (le (of_bits binary64 0x3ff0_0000_0000_0000) x
    && lt x (div binary64 (of_bits binary64 0x3ff0_0000_0000_0000) (of_bits binary64 0)))
    ≡ is_margin x
unfolding div of_bits le
margin-is nan = refl
margin-is (inf true) = refl
margin-is (inf false) = refl
margin-is (fin s m e) = and-true _
