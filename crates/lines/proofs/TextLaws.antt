-- A number's places counted, its digits written from the last to the first, and four numbers one after the other.
-- Assumes nothing.
use Prim.Native.Nat.{ℕ, zero, suc, ◌+◌, ◌-◌, ◌*◌, ◌/◌, ◌%◌, ◌^◌, ◌<◌, ◌≤◌}
use mathlib.Core.Path.{◌≡◌, refl, sym, ap, ◌∙◌}
use mathlib.Core.List.{List, [], ◌∷◌, ◌++◌, append_assoc, append-nil}
use mathlib.Core.Bool.{cond}
use native.Mathlib.Omega.{arith}
use native.Mathlib.Numerals.{add-one}
use native.Mathlib.Nat.{pow-suc, le_of_eq}
use borrow.Rule.Slice.PartMut.{mid_of, put_mid}
use borrow.Author.Tests.{ne_eqb, le-leb, lt-leb, lt-ltb, le-ltb}
use lib.Dec.{eqb}
use lib.ListN.{length, take, drop, set, length-append, length-set, length-drop, drop_of_length-le}
use lib.Seq.{take_all, take-set-lt, drop-set-lt, drop-cons, drop-drop, set_split, get_or-set_same, length-take-le}
use Rattle.base.proofs.Cases.{on-order, on-flag}
use Rattle.octets.specs.Octets.{over}
use Rattle.octets.proofs.Fill.{over-fits, over-not, Filled, fill, filled-over, filled-length}
use Rattle.lines.specs.Text.{last_digit, digits, decimal, cell_of, line_of, written}

-- ---- the digits by their number, which the loops go by

-- how often a tenth can be taken until nothing is left, at most f times
abbrev pub tenths : ℕ → ℕ → ℕ
tenths zero n = 0
tenths (suc f) n = cond (eqb n 0) 0 (suc (tenths f (n / 10)))

-- the last k digits, the highest first
unfoldable pub last_of : ℕ → ℕ → List ℕ
last_of zero x = []
last_of (suc k) x = last_of k (x / 10) ++ (last_digit x ∷ [])

pub last-length : (k x : ℕ) → length (last_of k x) ≡ k
unfolding last_of
last-length zero x = refl
last-length (suc k) x = length-append (last_of k (x / 10)) (last_digit x ∷ []) ∙ omega (arith, last-length k (x / 10))

digits_last : (f x : ℕ) → digits f x ≡ last_of (suc (tenths f (x / 10))) x
unfolding digits last_of
digits_last zero x = refl
digits_last (suc f) x =
    on-order x 10
    (λ h. let z : x / 10 ≡ 0 = omega arith in rw (lt-ltb x 10 h, z))
    (λ h. let n : (x / 10 ≡ 0) → ⊥ = λ e. omega (arith, e) in
    rw (le-ltb x 10 h, ne_eqb (x / 10) 0 n) (ap (λ (z : List ℕ). z ++ (last_digit x ∷ [])) (digits_last f (x / 10))))

-- the places of a number below 10^20: one, and one more for each tenth that is left
unfoldable pub places_of : ℕ → ℕ
places_of x = suc (tenths 19 (x / 10))

pub decimal-last : (x : ℕ) → decimal x ≡ last_of (places_of x) x
unfolding decimal places_of
decimal-last x = digits_last 19 x

pub decimal-length : (x : ℕ) → length (decimal x) ≡ places_of x
decimal-length x = ap (λ (l : List ℕ). length l) (decimal-last x) ∙ last-length (places_of x) x

-- ---- places

-- k places are counted, and `rest` is left
pub record Counted (x k rest : ℕ) : Type 0 where
  pub few : k ≤ 20
  pub small : rest < 10 ^ (20 - k)
  pub is : places_of x ≡ k + tenths (20 - k) rest

pub counted_start : (x : ℕ) → x < 2 ^ 64 → Counted x 1 (x / 10)
unfolding places_of
counted_start x h = record { few = omega arith; small = omega arith; is = omega arith }

fuel : (k rest : ℕ) → rest < 10 ^ (20 - k) → 0 < rest → k < 20
fuel k rest h g =
    let z : (20 - k ≡ 0) → 10 ^ (20 - k) ≡ 1 = λ e. rw e in
    on-order k 20 (λ a. a) (λ a. absurd (let y : 20 - k ≡ 0 = omega arith in omega (arith, z y)))

pub counted_next : {x k rest : ℕ} → Counted x k rest → 0 < rest → Counted x (k + 1) (rest / 10)
counted_next {x} {k} {rest} c h =
    let a : k < 20 = fuel k rest c.small h in
    let m : 20 - k ≡ suc (20 - (k + 1)) = omega arith in
    let p : 10 ^ (20 - k) ≡ 10 ^ (20 - (k + 1)) * 10 = (λ i. 10 ^ (m i)) ∙ pow-suc 10 (20 - (k + 1)) in
    let t : tenths (20 - k) rest ≡ suc (tenths (20 - (k + 1)) (rest / 10)) =
    rw (m, ne_eqb rest 0 (λ e. absurd (omega (arith, e)))) in
    record { few = omega arith; small = omega (arith, p, c.small); is = omega (arith, c.is, t) }

pub counted-end : {x k rest : ℕ} → Counted x k rest → rest ≤ 0 → k ≡ length (decimal x)
counted-end {x} {k} {rest} c h =
    let z : rest ≡ 0 = omega arith in
    let t : tenths (20 - k) rest ≡ 0 = rw z (nothing (20 - k)) in
    omega (arith, c.is, t, decimal-length x)
  where
    nothing : (f : ℕ) → tenths f 0 ≡ 0
    nothing zero = refl
    nothing (suc f) = refl

-- ---- digits

pub cell-length : (x after : ℕ) → length (cell_of x after) ≡ length (decimal x) + 1
unfolding cell_of
cell-length x after = length-append (decimal x) (after ∷ [])

-- of the k digits of x those from i on stand in l, and `rest` is left of x; behind them l is l₀
pub record Spelt (l₀ : List ℕ) (x k : ℕ) (l : List ℕ) (i rest : ℕ) : Type 0 where
  pub places : k ≡ length (decimal x)
  pub most : k ≤ 20
  pub bound : i ≤ k
  pub room : k < length l₀
  pub same : length l ≡ length l₀
  pub front : last_of k x ≡ last_of i rest ++ drop i (take k l)
  pub back : drop k l ≡ drop k l₀

pub spelt-start : (l₀ : List ℕ) (x k : ℕ) → k ≡ length (decimal x) → k ≤ 20 → k < length l₀ → Spelt l₀ x k l₀ k x
spelt-start l₀ x k e m h =
    let n : length (take k l₀) ≤ k = omega (arith, length-take-le k l₀ (omega arith)) in
    record {
      places = e;
      most = m;
      bound = omega arith;
      room = h;
      same = refl;
      front =
          sym (ap (λ (z : List ℕ). last_of k x ++ z) (drop_of_length-le (take k l₀) n) ∙ append-nil (last_of k x));
      back = refl;
    }

pub spelt-next : {l₀ l : List ℕ} {x k i rest : ℕ} → Spelt l₀ x k l i rest → 0 < i
    → Spelt l₀ x k (set l (i - 1) (48 + rest % 10)) (i - 1) (rest / 10)
unfolding last_of
spelt-next {l₀} {l} {x} {k} {i} {rest} s h =
    let j = i - 1 in
    let b = 48 + rest % 10 in
    let q : i ≡ suc j = omega arith in
    let r : j < length (take k l) =
    omega (arith, s.bound, s.room, s.same, length-take-le k l (omega (arith, s.room, s.same))) in
    let t : take k (set l j b) ≡ set (take k l) j b = take-set-lt k l j b (omega (arith, s.bound)) in
    let u : drop j (set (take k l) j b) ≡ b ∷ drop (suc j) (take k l) =
    drop-cons (set (take k l) j b) j 0 (omega (arith, r, length-set (take k l) j b))
    ∙ (λ z. get_or-set_same (take k l) j b 0 r z ∷ drop-set-lt (suc j) (take k l) j b (omega arith) z) in
    let v : last_of i rest ++ drop i (take k l) ≡ (last_of j (rest / 10) ++ (b ∷ [])) ++ drop (suc j) (take k l) =
    λ z. last_of (q z) rest ++ drop (q z) (take k l) in
    record {
      places = s.places;
      most = s.most;
      bound = omega (arith, s.bound);
      room = s.room;
      same = length-set l j b ∙ s.same;
      front =
          s.front
          ∙ v
          ∙ append_assoc (last_of j (rest / 10)) (b ∷ []) (drop (suc j) (take k l))
          ∙ ap (λ (z : List ℕ). last_of j (rest / 10) ++ z) (sym (ap (drop j) t ∙ u));
      back = drop-set-lt k l j b (omega (arith, s.bound)) ∙ s.back;
    }

pub spelt-end : {l₀ l : List ℕ} {x k i rest : ℕ} (after : ℕ) → Spelt l₀ x k l i rest → i ≤ 0
    → set l k after ≡ over (cell_of x after) l₀
unfolding last_of cell_of
spelt-end {l₀} {l} {x} {k} {i} {rest} after s h =
    let z : i ≡ 0 = omega arith in
    let n : length (cell_of x after) ≡ suc k = cell-length x after ∙ omega (arith, s.places) in
    let f : last_of k x ≡ take k l = s.front ∙ (λ j. last_of (z j) rest ++ drop (z j) (take k l)) in
    let w : decimal x ≡ last_of k x =
    decimal-last x ∙ (λ j. last_of ((sym (decimal-length x) ∙ sym s.places) j) x) in
    let d : drop (k + 1) l ≡ drop (k + 1) l₀ = sym (drop-drop 1 k l) ∙ ap (drop 1) s.back ∙ drop-drop 1 k l₀ in
    let e : drop (suc k) l ≡ drop (suc k) l₀ = rw add-one at d in
    set_split l k after (omega (arith, s.room, s.same))
    ∙ (λ j. sym (w ∙ f) j ++ after ∷ e j)
    ∙ sym (append_assoc (decimal x) (after ∷ []) (drop (suc k) l₀))
    ∙ (λ j. (decimal x ++ (after ∷ [])) ++ drop (sym n j) l₀)
    ∙ sym (over-fits (cell_of x after) l₀ (omega (arith, n, s.room)))

-- the bytes written, where they fit and where not
pub all-written : (b l : List ℕ) → length b ≤ length l → written b l ≡ length b
all-written b l h = rw (le-leb (length b) (length l) h)

pub none_written : (b l : List ℕ) → length l < length b → (0 ≡ written b l) × (l ≡ over b l)
none_written b l h = (rw (lt-leb (length b) (length l) h), sym (over-not b l h))

-- ---- lines

pub cell-few : (x after : ℕ) → length (cell_of x after) ≤ 21
unfolding places_of
cell-few x after = omega (arith, cell-length x after, decimal-length x, tenths-few 19 (x / 10))
  where
    tenths-few : (f n : ℕ) → tenths f n ≤ f
    tenths-few zero n = omega arith
    tenths-few (suc f) n =
        on-flag (eqb n 0) (λ e. rw e (omega arith)) (λ e. rw e (omega (arith, tenths-few f (n / 10))))

-- the bytes of four cells, one after the other
four-length : (a b c d : List ℕ) → length (((a ++ b) ++ c) ++ d) ≡ length a + length b + length c + length d
four-length a b c d = omega (arith, length-append ((a ++ b) ++ c) d, length-append (a ++ b) c, length-append a b)

pub line-length : (number kind refusal value : ℕ)
    → length (line_of number kind refusal value)
    ≡ length (decimal number) + length (decimal kind) + length (decimal refusal) + length (decimal value) + 4
unfolding line_of
line-length number kind refusal value =
    omega (
      arith,
      four-length (cell_of number 32) (cell_of kind 32) (cell_of refusal 32) (cell_of value 10),
      cell-length number 32,
      cell-length kind 32,
      cell-length refusal 32,
      cell-length value 10,
    )

-- a line has 84 bytes at most
pub line-few : (number kind refusal value : ℕ) → length (line_of number kind refusal value) ≤ 84
unfolding line_of
line-few number kind refusal value =
    omega (
      arith,
      four-length (cell_of number 32) (cell_of kind 32) (cell_of refusal 32) (cell_of value 10),
      cell-few number 32,
      cell-few kind 32,
      cell-few refusal 32,
      cell-few value 10,
    )

laid-first : {l₀ m : List ℕ} {r : ℕ} (b : List ℕ) → length b ≤ length l₀ → r ≡ written b l₀ → m ≡ over b l₀
    → Filled l₀ b m r
laid-first {l₀} {m} {r} b h e q =
    let z : r ≡ length b = e ∙ all-written b l₀ h in
    record { long = sym z; room = omega (arith, z); is = q ∙ over-fits b l₀ h ∙ ap (λ (n : ℕ). b ++ drop n l₀) (sym z) }

-- a cell was written over the tail of l from `at` on, which is m then; l' is l with that tail
pub record Laid (b l : List ℕ) (at : ℕ) (m : List ℕ) (r : ℕ) (l' : List ℕ) : Type 0 where
  pub count : r ≡ written b (mid_of at (length l - at) l)
  pub is : m ≡ over b (mid_of at (length l - at) l)
  pub into : l' ≡ put_mid at (length l - at) l m

laid : {l₀ p l m l' : List ℕ} {at r : ℕ} (b : List ℕ) → Filled l₀ p l at → at + length b ≤ length l₀
    → Laid b l at m r l' → Filled l₀ (p ++ b) l' (at + r)
laid {l₀} {p} {l} {m} {l'} {at} {r} b f h d =
    let n : length (mid_of at (length l - at) l) ≡ length l₀ - at =
    ap (λ (z : List ℕ). length z) (take_all (length l - at) (drop at l) (le_of_eq (length-drop at l)))
    ∙ length-drop at l
    ∙ ap (λ (z : ℕ). z - at) (filled-length f) in
    let z : r ≡ length b = d.count ∙ all-written b (mid_of at (length l - at) l) (omega (arith, n)) in
    let q : l' ≡ put_mid at (length l - at) l m = d.into in
    rw (z, q) (fill b f h d.is)

-- four cells, each over the tail that the one before it left
pub line-laid : (number kind refusal value : ℕ) (l₀ : List ℕ) {l₁ m₂ l₂ m₃ l₃ m₄ l₄ : List ℕ} {r₁ r₂ r₃ r₄ : ℕ}
    → length (line_of number kind refusal value) ≤ length l₀ → r₁ ≡ written (cell_of number 32) l₀
    → l₁ ≡ over (cell_of number 32) l₀ → Laid (cell_of kind 32) l₁ r₁ m₂ r₂ l₂
    → Laid (cell_of refusal 32) l₂ (r₁ + r₂) m₃ r₃ l₃ → Laid (cell_of value 10) l₃ (r₁ + r₂ + r₃) m₄ r₄ l₄
    → (r₁ + r₂ + r₃ + r₄ ≡ written (line_of number kind refusal value) l₀)
    × (r₁ + r₂ + r₃ + r₄ ≤ 84)
    × (l₄ ≡ over (line_of number kind refusal value) l₀)
unfolding line_of
line-laid number kind refusal value l₀ h e q d₂ d₃ d₄ =
    let a = cell_of number 32 in
    let b = cell_of kind 32 in
    let c = cell_of refusal 32 in
    let d = cell_of value 10 in
    let n = four-length a b c d in
    let f₁ = laid-first a (omega (arith, h, n)) e q in
    let f₂ = laid b f₁ (omega (arith, h, n, f₁.long)) d₂ in
    let f₃ = laid c f₂ (omega (arith, h, n, f₂.long, length-append a b)) d₃ in
    let f₄ = laid d f₃ (omega (arith, h, n, f₃.long, length-append a b, length-append (a ++ b) c)) d₄ in
    let w = all-written (line_of number kind refusal value) l₀ h in
    (sym f₄.long ∙ sym w, omega (arith, f₄.long, line-few number kind refusal value), filled-over f₄)
