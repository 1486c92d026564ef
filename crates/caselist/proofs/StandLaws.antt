-- Laws of the standings of a list: one slot's 51 bytes, and the loop over eight slots.
-- Assumes nothing.
use Prim.Native.Nat.{ℕ, ◌+◌, ◌-◌, ◌*◌, ◌<◌, ◌≤◌}
use mathlib.Core.Path.{◌≡◌, refl, sym, ap, ◌∙◌}
use mathlib.Core.Bool.{Bool, true, false, not, cond, ◌&&◌, and_assoc, and-true}
use mathlib.Core.List.{List, [], ◌∷◌, ◌++◌, map}
use native.Mathlib.Numerals.{add-one}
use native.Mathlib.Omega.{arith}
use borrow.Author.Tests.{lt-ltb, le-ltb}
use lib.Dec.{eqb}
use lib.ListN.{length, take, drop, get_or, replicate, length-map, length-append, length-replicate}
use lib.ListN.{length-drop, drop_of_length-le, take-append-drop, get_or-eq_default}
use lib.Seq.{drop-cons, drop-drop, length-take-le}
use Rattle.base.proofs.Cases.{on-flag, on-order}
use Rattle.octets.specs.Octets.{flat, over}
use Rattle.octets.proofs.Fill.{over-fits, over-not, flat-length}
use Rattle.rules.specs.Rules.{empty_slot}
use Rattle.rules.specs.declared.types.Slot.{Slot}
use Rattle.standing.specs.Standing.{standing_of, standing_bytes, slot_out}
use Rattle.rows.specs.View.{slot_in}
use Rattle.replay.specs.Replay.{alike}
use Rattle.replay.proofs.ReplayLaws.{alike_same, alike-told}
use Rattle.caselist.specs.Lists.{slot_told, standings_agree}

-- ---- one slot

over_none : (l : List ℕ) → over [] l ≡ l
over_none l = over-fits [] l (omega arith)

-- the zeros, over which the standing of an open slot is written
by-used : (u : Bool) (b l : List ℕ) → cond (not u) l (over b l) ≡ over (cond u b []) l
by-used true b l = refl
by-used false b l = sym (over_none l)

module _ (a : List (List (List ℕ))) (i : ℕ) (eight : length a ≡ 8) where
  -- what a standing leaves of zeros
  left : slot_out (map slot_in a) i (replicate 51 0) ≡ slot_told (get_or (map slot_in a) i empty_slot)
  unfolding slot_out
  left =
      let s : Slot = get_or (map slot_in a) i empty_slot in
      on-order 7 i
      (λ h.
      let e : s ≡ empty_slot = get_or-eq_default (map slot_in a) empty_slot (omega (arith, h, eight, length-map a slot_in)) in
      rw (lt-ltb 7 i h) (sym (over_none (replicate 51 0)) ∙ (λ j. slot_told (sym e j))))
      (λ h. rw (le-ltb 7 i h) (by-used s.used (standing_bytes (standing_of s.path)) (replicate 51 0)))

  pub slot_same : {m : List ℕ} (given : List ℕ) {r : Bool} → m ≡ slot_out (map slot_in a) i (replicate 51 0)
      → (r ≡ true → m ≡ given) × (m ≡ given → r ≡ true)
      → r ≡ alike (slot_told (get_or (map slot_in a) i empty_slot)) given
  slot_same {m} given {r} e t = alike-told m given r t ∙ (λ j. alike ((e ∙ left) j) given)

-- ---- eight slots

-- bytes one behind the other are alike where both are
alike-append : (a c b d : List ℕ) → length a ≡ length c → alike (a ++ b) (c ++ d) ≡ (alike a c && alike b d)
alike-append [] [] b d h = refl
alike-append [] (y ∷ c) b d h = absurd (omega arith)
alike-append (x ∷ a) [] b d h = absurd (omega arith)
alike-append (x ∷ a) (y ∷ c) b d h =
    ap (λ (z : Bool). eqb x y && z) (alike-append a c b d (omega arith)) ∙ sym (and_assoc (eqb x y) (alike a c) (alike b d))

over-length : (b l : List ℕ) → length (over b l) ≡ length l
over-length b l =
    on-order (length l) (length b)
    (λ h. ap length (over-not b l h))
    (λ h.
    ap length (over-fits b l h)
    ∙ omega (arith, h, length-append b (drop (length b) l), length-drop (length b) l))

told-length : (s : Slot) → length (slot_told s) ≡ 51
told-length s = over-length (cond s.used (standing_bytes (standing_of s.path)) []) (replicate 51 0)
    ∙ length-replicate {A = ℕ} 51 0

-- of eight slots those before i agreed, if `same`
pub record Comparing (l : List Slot) (g : List ℕ) (same : Bool) (i : ℕ) : Type 0 where
  pub upto : i ≤ 8
  pub eight : length l ≡ 8
  pub long : length g ≡ 408
  pub rest : (same && standings_agree (drop i l) (drop (51 * i) g)) ≡ standings_agree l g

pub comparing-start : (l : List Slot) (g : List ℕ) → length l ≡ 8 → length g ≡ 408 → Comparing l g true 0
comparing-start l g e h =
    let y : 51 * 0 ≡ 0 = omega arith in
    record { upto = omega arith; eight = e; long = h; rest = λ j. standings_agree l (drop (y j) g) }

module _ {l : List Slot} {g : List ℕ} {same : Bool} {i : ℕ} (k : Comparing l g same i) where
  pub comparing-next : {one : Bool} → i < 8
      → one ≡ alike (slot_told (get_or l i empty_slot)) (take (51 * i + 51 - 51 * i) (drop (51 * i) g))
      → Comparing l g (same && one) (i + 1)
  unfolding flat
  comparing-next {one} h f =
      let z : 51 * i + 51 - 51 * i ≡ 51 = omega arith in
      let s : Slot = get_or l i empty_slot in
      let q : List ℕ = take 51 (drop (51 * i) g) in
      let d : 51 * i + 51 ≡ 51 * (i + 1) = omega arith in
      let u : drop i l ≡ s ∷ drop (i + 1) l = rw (add-one, drop-cons l i empty_slot (omega (arith, k.eight))) in
      let v : drop (51 * i) g ≡ q ++ drop (51 * (i + 1)) g =
      sym (take-append-drop 51 (drop (51 * i) g)) ∙ (λ j. q ++ (drop-drop 51 (51 * i) g ∙ (λ m. drop (d m) g)) j) in
      let n : length (slot_told s) ≡ length q =
      told-length s ∙ sym (length-take-le 51 (drop (51 * i) g) (omega (arith, length-drop (51 * i) g, k.long))) in
      let x : (one && standings_agree (drop (i + 1) l) (drop (51 * (i + 1)) g))
      ≡ standings_agree (drop i l) (drop (51 * i) g) =
      (λ j. (f ∙ (λ m. alike (slot_told s) (take (z m) (drop (51 * i) g)))) j && standings_agree (drop (i + 1) l) (drop (51 * (i + 1)) g))
      ∙ sym (alike-append (slot_told s) q (flat slot_told (drop (i + 1) l)) (drop (51 * (i + 1)) g) n)
      ∙ (λ j. standings_agree (sym u j) (sym v j)) in
      record {
        upto = omega arith;
        eight = k.eight;
        long = k.long;
        rest =
            and_assoc same one (standings_agree (drop (i + 1) l) (drop (51 * (i + 1)) g)) ∙ (λ j. same && x j) ∙ k.rest;
      }

  pub comparing-end : 8 ≤ i → same ≡ standings_agree l g
  unfolding flat
  comparing-end h =
      let u : drop i l ≡ [] = drop_of_length-le l {i = i} (omega (arith, k.eight)) in
      let v : drop (51 * i) g ≡ [] = drop_of_length-le g {i = 51 * i} (omega (arith, k.long, h)) in
      sym (and-true same) ∙ (λ j. same && standings_agree (sym u j) (sym v j)) ∙ k.rest

-- bytes of another length
pub standings-long : (l : List Slot) (g : List ℕ) → length l ≡ 8 → (length g ≡ 408 → ⊥) → false ≡ standings_agree l g
standings-long l g e h =
    on-flag (standings_agree l g)
    (λ t.
    let n : length g ≡ 408 =
    ap length (sym (alike_same (flat slot_told l) g t)) ∙ flat-length slot_told 51 told-length l ∙ omega (arith, e) in
    absurd (h n))
    (λ t. sym t)
