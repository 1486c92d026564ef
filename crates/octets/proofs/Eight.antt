-- Eight bytes in one step.
-- Assumes nothing.
use Prim.Native.Nat.{ℕ, suc, ◌+◌, ◌-◌, ◌*◌, ◌<◌, ◌≤◌}
use mathlib.Core.Path.{◌≡◌, refl, ap, sym, ◌∙◌}
use mathlib.Core.Bool.{Bool, cond}
use mathlib.Core.List.{List}
use native.Mathlib.Nat.{le_of_eq}
use native.Mathlib.Omega.{arith}
use borrow.Author.Tests.{le-leb, lt-leb}
use lib.ListN.{length, take, drop, get_or, length-drop}
use lib.Seq.{drop-cons, take_all, length-take-le}
use Rattle.std.specs.Array.{IsFirstChunk}
use Rattle.std.specs.Int.{w64, from_le_bytes}
use Rattle.octets.specs.Octets.{le_number, read_at}

-- one byte more of those from a place on
step : (s : List ℕ) (at next n : ℕ) → at < length s → suc at ≡ next
    → le_number (take (suc n) (drop at s)) ≡ get_or s at 0 + 256 * le_number (take n (drop next s))
unfolding le_number
step s at next n h e = rw (drop-cons s at 0 h, e)

-- no byte
empty : (l : List ℕ) → le_number (take 0 l) ≡ 0
unfolding le_number
empty l = refl

-- the number of eight bytes
eight : (l : List ℕ) → 8 ≤ length l → from_le_bytes w64 l ≡ le_number (take 8 l)
eight l h =
    omega (
      arith,
      empty (drop 8 l),
      step l 0 1 7 (omega arith) refl,
      step l 1 2 6 (omega arith) refl,
      step l 2 3 5 (omega arith) refl,
      step l 3 4 4 (omega arith) refl,
      step l 4 5 3 (omega arith) refl,
      step l 5 6 2 (omega arith) refl,
      step l 6 7 1 (omega arith) refl,
      step l 7 8 0 (omega arith) refl,
    )

-- the bytes from a place on, as a part of all
part : (s : List ℕ) (at : ℕ) → take (length s - at) (drop at s) ≡ drop at s
part s at = take_all (length s - at) (drop at s) (le_of_eq (length-drop at s))

-- too few
pub eight-short : (s : List ℕ) (at : ℕ) → length s < at + 8 → 0 ≡ read_at at 8 s
unfolding read_at
eight-short s at h =
    sym (ap (λ (b : Bool). cond b (le_number (take 8 (drop at s))) 0) (lt-leb (at + 8) (length s) h))

-- too few from a place on
pub eight-none : (s : List ℕ) (at : ℕ) → at ≤ length s → length (take (length s - at) (drop at s)) < 8 → 0 ≡ read_at at 8 s
eight-none s at k h = eight-short s at (omega (arith, ap length (part s at), length-drop at s))

-- the number by its bytes
pub eight-read : (s l : List ℕ) (at x : ℕ) → at ≤ length s → IsFirstChunk (take (length s - at) (drop at s)) l 8
    → x ≡ from_le_bytes w64 l → x ≡ read_at at 8 s
unfolding read_at
eight-read s l at x h e y =
    let n : 8 ≤ length (drop at s) = omega (arith, e.enough, ap length (part s at)) in
    let q : l ≡ take 8 (drop at s) = e.same ∙ ap (take 8) (part s at) in
    let k : length l ≡ 8 = ap length q ∙ length-take-le 8 (drop at s) n in
    let t : take 8 l ≡ take 8 (drop at s) = take_all 8 l (le_of_eq k) ∙ q in
    let w : x ≡ le_number (take 8 (drop at s)) = y ∙ eight l (omega (arith, k)) ∙ ap le_number t in
    rw (le-leb (at + 8) (length s) (omega (arith, n, length-drop at s))) w

-- the number by eight bytes one by one
pub eight-sum : (s : List ℕ) (at : ℕ) → at + 8 ≤ length s → {a b c d e f g h x : ℕ} → a ≡ get_or s at 0
    → b ≡ get_or s (at + 1) 0 → c ≡ get_or s (at + 2) 0 → d ≡ get_or s (at + 3) 0 → e ≡ get_or s (at + 4) 0
    → f ≡ get_or s (at + 5) 0 → g ≡ get_or s (at + 6) 0 → h ≡ get_or s (at + 7) 0
    → x ≡ (a + b * 0x100 + c * 0x1_0000 + d * 0x100_0000) + (e + f * 0x100 + g * 0x1_0000 + h * 0x100_0000) * 0x1_0000_0000
    → x ≡ read_at at 8 s
unfolding read_at
eight-sum s at n {a} {b} {c} {d} {e} {f} {g} {h} {x} i j k l m o p q y =
    let none : le_number (take 0 (drop (at + 8) s)) ≡ 0 = empty (drop (at + 8) s) in
    let w : x ≡ le_number (take 8 (drop at s)) =
    omega (
      arith,
      y,
      none,
      step s at (at + 1) 7 (omega arith) (omega arith),
      step s (at + 1) (at + 2) 6 (omega arith) (omega arith),
      step s (at + 2) (at + 3) 5 (omega arith) (omega arith),
      step s (at + 3) (at + 4) 4 (omega arith) (omega arith),
      step s (at + 4) (at + 5) 3 (omega arith) (omega arith),
      step s (at + 5) (at + 6) 2 (omega arith) (omega arith),
      step s (at + 6) (at + 7) 1 (omega arith) (omega arith),
      step s (at + 7) (at + 8) 0 (omega arith) (omega arith),
    ) in
    w ∙ sym (ap (λ (z : Bool). cond z (le_number (take 8 (drop at s))) 0) (le-leb (at + 8) (length s) n))
