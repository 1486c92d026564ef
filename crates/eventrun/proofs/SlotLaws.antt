-- The standings of the open slots, one behind the other.
-- Assumes nothing.
use Prim.Native.Nat.{ℕ, zero, suc, ◌+◌, ◌-◌, ◌≤◌, ◌<◌}
use mathlib.Core.Bool.{Bool, true, false, cond}
use mathlib.Core.Path.{◌≡◌, refl, sym, ap, ◌∙◌}
use mathlib.Core.List.{List, [], ◌∷◌, ◌++◌, map}
use native.Mathlib.Omega.{arith}
use borrow.Rule.Slice.PartMut.{mid_of, put_mid}
use lib.ListN.{length, get_or, length-append, get_or-map}
use Rattle.octets.specs.Octets.{le, flat, over}
use Rattle.octets.proofs.Fill.{Filled, nothing, fill, filled-over, le-length, over-not}
use Rattle.rules.specs.declared.types.Slot.{Slot}
use Rattle.standing.specs.Standing.{standing_of, standing_bytes}
use Rattle.standing.specs.declared.types.Standing.{Standing}
use Rattle.standing.proofs.Laying.{Laying, laying-start, laying-room, laying-next, laying-end}
use Rattle.standing.proofs.Laying.{Adding, adding-start, adding-next, adding-end}
use Rattle.rows.specs.View.{slot_in}
use Rattle.eventrun.specs.Runs.{slot_bytes, slot_size, standings_from}

-- ---- numbered slots

-- the slots with their numbers, from i on
unfoldable pub numbered : ℕ → List Slot → List (ℕ × Slot)
numbered i [] = []
numbered i (s ∷ l) = (i, s) ∷ numbered (suc i) l

abbrev pub bytes_at : ℕ × Slot → List ℕ
bytes_at x = slot_bytes x.0 x.1

pub standings-flat : (i : ℕ) (l : List Slot) → flat bytes_at (numbered i l) ≡ standings_from i l
unfolding flat standings_from numbered
standings-flat i [] = refl
standings-flat i (s ∷ l) = ap (λ (z : List ℕ). slot_bytes i s ++ z) (standings-flat (suc i) l)

pub numbered-length : (i : ℕ) (l : List Slot) → length (numbered i l) ≡ length l
unfolding numbered
numbered-length i [] = refl
numbered-length i (s ∷ l) = ap suc (numbered-length (suc i) l)

numbered-from : (i : ℕ) (l : List Slot) (k : ℕ) (d : Slot) → k < length l
    → get_or (numbered i l) k (0, d) ≡ (i + k, get_or l k d)
unfolding numbered
numbered-from i [] k d h = absurd (omega arith)
numbered-from i (s ∷ l) zero d h = let e : i ≡ i + 0 = omega arith in λ j. (e j, s)
numbered-from i (s ∷ l) (suc k) d h =
    let e : suc i + k ≡ i + suc k = omega arith in
    numbered-from (suc i) l k d (omega arith) ∙ (λ j. (e j, get_or l k d))

pub numbered-at : (l : List Slot) (k : ℕ) (d : Slot) → k < length l → get_or (numbered 0 l) k (0, d) ≡ (k, get_or l k d)
numbered-at l k d h =
    let e : 0 + k ≡ k = omega arith in
    numbered-from 0 l k d h ∙ (λ j. (e j, get_or l k d))

-- ---- one slot

pub slot-length : (i : ℕ) (s : Slot) → length (slot_bytes i s) ≡ slot_size s
unfolding slot_bytes
slot-length i s = go s.used
  where
    go : (used : Bool) → length (cond used (le 1 i ++ standing_bytes (standing_of s.path)) [])
        ≡ cond used (1 + length (standing_bytes (standing_of s.path))) 0
    go true =
        length-append (le 1 i) (standing_bytes (standing_of s.path))
        ∙ ap (λ (n : ℕ). n + length (standing_bytes (standing_of s.path))) (le-length 1 i)
    go false = refl

-- it does not fit
pub slot-not : (i : ℕ) (s : Slot) {l : List ℕ} {n : ℕ} → n ≡ slot_size s → length l < n → l ≡ over (slot_bytes i s) l
slot-not i s {l} e h = sym (over-not (slot_bytes i s) l (omega (arith, e, slot-length i s)))

-- it is empty
pub slot-none : (i : ℕ) (s : Slot) (l : List ℕ) → s.used ≡ false → l ≡ over (slot_bytes i s) l
unfolding slot_bytes
slot-none i s l e =
    filled-over (nothing l) ∙ (λ j. over (cond (sym e j) (le 1 i ++ standing_bytes (standing_of s.path)) []) l)

-- its number, then its standing
pub slot-told : (i : ℕ) (s : Slot) (l : List ℕ) {n : ℕ} → s.used ≡ true → n ≡ slot_size s → n ≤ length l
    → {m₁ : List ℕ} → m₁ ≡ over (le 1 i) (mid_of 0 (length l - 0) l)
    → {t : Standing} {m₂ : List ℕ} → t ≡ standing_of s.path
    → m₂ ≡ over (standing_bytes t) (mid_of 1 (length (put_mid 0 (length l - 0) l m₁) - 1) (put_mid 0 (length l - 0) l m₁))
    → put_mid 1 (length (put_mid 0 (length l - 0) l m₁) - 1) (put_mid 0 (length l - 0) l m₁) m₂ ≡ over (slot_bytes i s) l
unfolding slot_bytes le
slot-told i s l {n} u e h {m₁} a {t} {m₂} q b =
    let k : n ≡ 1 + length (standing_bytes t) = e ∙ (λ j. cond (u j) (1 + length (standing_bytes (sym q j))) 0) in
    let f₁ : Filled l (le 1 i) (put_mid 0 (length l - 0) l m₁) 1 =
    fill (le 1 i) (nothing l) (omega (arith, le-length 1 i, k, h)) a in
    let f₂ = fill (standing_bytes t) f₁ (omega (arith, le-length 1 i, k, h)) b in
    filled-over f₂
    ∙ ap (λ (t : Standing). over (le 1 i ++ standing_bytes t) l) q
    ∙ (λ j. over (cond (sym u j) (le 1 i ++ standing_bytes (standing_of s.path)) []) l)

-- how many bytes one slot has
pub size-open : (s : Slot) {t : Standing} {n : ℕ} → s.used ≡ true → t ≡ standing_of s.path
    → (n ≡ length (standing_bytes t)) × (n ≤ 51) → (1 + n ≡ slot_size s) × (1 + n ≤ 52)
size-open s {t} {n} u q e = (
  (λ j. 1 + e.0 j) ∙ (λ j. 1 + length (standing_bytes (q j)))
      ∙ (λ j. cond (sym u j) (1 + length (standing_bytes (standing_of s.path))) 0),
  omega (arith, e.1),
)

pub size-empty : (s : Slot) → s.used ≡ false → (0 ≡ slot_size s) × (0 ≤ 52)
size-empty s u = (λ j. cond (sym u j) (1 + length (standing_bytes (standing_of s.path))) 0, omega arith)

pub size-some : (s : Slot) → s.used ≡ true → 1 ≤ slot_size s
size-some s u =
    let e : slot_size s ≡ 1 + length (standing_bytes (standing_of s.path)) =
    λ j. cond (u j) (1 + length (standing_bytes (standing_of s.path))) 0 in
    omega (arith, e)

-- ---- eight slots

same_size : (l : List Slot) (i : ℕ) (d : Slot) → i < length l
    → slot_size (get_or l i d) ≡ length (bytes_at (get_or (numbered 0 l) i (0, d)))
same_size l i d h =
    sym (slot-length i (get_or l i d)) ∙ ap (λ (x : ℕ × Slot). length (bytes_at x)) (sym (numbered-at l i d h))

-- a slot in words, as one of those that they say
pub size-at : (a : List (List (List ℕ))) (i : ℕ) {n : ℕ} → n ≡ slot_size (slot_in (get_or a i []))
    → n ≡ slot_size (get_or (map slot_in a) i (slot_in []))
size-at a i e = e ∙ ap slot_size (sym (get_or-map slot_in a i []))

pub bytes-at : (a : List (List (List ℕ))) (i : ℕ) (l : List ℕ) {m : List ℕ} → m ≡ over (slot_bytes i (slot_in (get_or a i []))) l
    → m ≡ over (slot_bytes i (get_or (map slot_in a) i (slot_in []))) l
bytes-at a i l e = e ∙ ap (λ (s : Slot). over (slot_bytes i s) l) (sym (get_or-map slot_in a i []))

module _ (l : List Slot) (eight : length l ≡ 8) where
  pub sizes-start : Adding bytes_at 52 (numbered 0 l) 8 0 0
  sizes-start = adding-start (numbered-length 0 l ∙ eight)

  pub sizes-next : {n i : ℕ} → Adding bytes_at 52 (numbered 0 l) 8 n i → i < 8 → (d : Slot) {k : ℕ}
      → (k ≡ slot_size (get_or l i d)) × (k ≤ 52) → Adding bytes_at 52 (numbered 0 l) 8 (n + k) (i + 1)
  sizes-next {n} {i} s h d e = adding-next s h (0, d) (e.0 ∙ same_size l i d (omega (arith, eight))) e.1

  pub sizes-end : {n i : ℕ} → Adding bytes_at 52 (numbered 0 l) 8 n i → 8 ≤ i
      → (n ≡ length (standings_from 0 l)) × (n ≤ 416)
  sizes-end {n} {i} s h =
      (adding-end s h ∙ ap length (standings-flat 0 l), omega (arith, s.few, s.upto))

  pub told-start : {n : ℕ} {l₀ : List ℕ} → n ≡ length (standings_from 0 l) → n ≤ length l₀
      → Laying bytes_at (numbered 0 l) 8 l₀ [] l₀ 0 0
  told-start {n} {l₀} e h =
      laying-start (numbered-length 0 l ∙ eight) (omega (arith, e, h, ap length (standings-flat 0 l))) (nothing l₀)

  module _ {l₀ out : List ℕ} {at i : ℕ} (s : Laying bytes_at (numbered 0 l) 8 l₀ [] out at i) where
    pub told-room : i < 8 → (d : Slot) {k : ℕ} → k ≡ slot_size (get_or l i d) → at + k ≤ length out
    told-room h d e = laying-room s h (0, d) (e ∙ same_size l i d (omega (arith, eight)))

    pub told-next : i < 8 → (d : Slot) {k : ℕ} {m : List ℕ} → k ≡ slot_size (get_or l i d)
        → m ≡ over (slot_bytes i (get_or l i d)) (mid_of at (length out - at) out)
        → Laying bytes_at (numbered 0 l) 8 l₀ [] (put_mid at (length out - at) out m) (at + k) (i + 1)
    told-next h d {k} {m} e f =
        laying-next s h (0, d) (e ∙ same_size l i d (omega (arith, eight)))
        (f
        ∙ ap (λ (x : ℕ × Slot). over (bytes_at x) (mid_of at (length out - at) out))
        (sym (numbered-at l i d (omega (arith, eight)))))

    pub told-end : 8 ≤ i → out ≡ over (standings_from 0 l) l₀
    told-end h = filled-over (laying-end s h) ∙ ap (λ (z : List ℕ). over z l₀) (standings-flat 0 l)

-- they do not fit
pub told-not : (l : List Slot) {l₀ : List ℕ} {n : ℕ} → n ≡ length (standings_from 0 l) → length l₀ < n
    → l₀ ≡ over (standings_from 0 l) l₀
told-not l {l₀} e h = sym (over-not (standings_from 0 l) l₀ (omega (arith, e)))
