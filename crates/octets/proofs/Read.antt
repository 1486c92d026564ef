-- One law for every width: a loop that reads bytes from the highest down makes the number whose bytes they are.
-- Assumes nothing.
use mathlib.Core.Path.{◌≡◌, sym, ap, ◌∙◌}
use mathlib.Core.Bool.{cond, ◌&&◌}
use mathlib.Core.List.{List, ◌++◌}
use Prim.Native.Nat.{ℕ, zero, suc, ◌+◌, ◌-◌, ◌*◌, ◌/◌, ◌<◌, ◌≤◌, ◌^◌, zero-le}
use native.Mathlib.Omega.{arith}
use native.Mathlib.Nat.{pow-suc, pow-le-pow_right}
use borrow.Author.Tests.{le-leb, lt-leb}
use lib.Dec.{leb}
use lib.ListN.{length, take, drop, get_or, length-append, length-drop}
use lib.Seq.{drop-cons, take_at, drop_at, take-append-le, drop-append-le}
use Rattle.octets.specs.Octets.{le, le_number, read_at}
use Rattle.octets.proofs.Fill.{le-length}

-- of w bytes from `at` on, all but the first `left` make x
pub record Reading (l : List ℕ) (at w left x : ℕ) : Type 0 where
  pub few : left ≤ w
  pub narrow : w ≤ 8
  pub there : at + w ≤ length l
  pub is : x ≡ le_number (take (w - left) (drop (at + left) l))
  pub small : x < 256 ^ (w - left)

pub reading-start : {l : List ℕ} {at w : ℕ} → w ≤ 8 → at + w ≤ length l → Reading l at w w 0
unfolding le_number
reading-start {l} {at} {w} h k =
    let z : w - w ≡ 0 = omega arith in
    record { few = omega arith; narrow = h; there = k; is = rw z; small = rw z (omega arith) }

-- one byte more keeps the number below the power, and the power below 2 ^ 64
grow : (k x b : ℕ) → x < 256 ^ k → b < 256 → b + 256 * x < 256 ^ suc k
grow k x b h g = omega (arith, pow-suc 256 k)

pub reading-fits : {l : List ℕ} {at w left x b : ℕ} → Reading l at w left x → 0 < left → b < 256 → x * 256 + b < 2 ^ 64
reading-fits {l} {at} {w} {left} {x} {b} r h g =
    let n : w - left ≤ 7 = omega arith in
    let p : 256 ^ (w - left) ≤ 256 ^ 7 = pow-le-pow_right (omega arith) n in
    omega arith

pub reading-next : {l : List ℕ} {at w left x b : ℕ} (d : ℕ) → Reading l at w left x → 0 < left → b ≡ get_or l (at + (left - 1)) d → b < 256 → Reading l at w (left - 1) (x * 256 + b)
unfolding le_number
reading-next {l} {at} {w} {left} {x} {b} d r h e g =
    let n : w - (left - 1) ≡ suc (w - left) = omega arith in
    let k : at + (left - 1) < length l = omega arith in
    let s : suc (at + (left - 1)) ≡ at + left = omega arith in
    let q : le_number (take (suc (w - left)) (drop (at + (left - 1)) l)) ≡ b + 256 * le_number (take (w - left) (drop (at + left) l)) =
    rw (drop-cons l (at + (left - 1)) d k, s, sym e) in
    let y : x ≡ le_number (take (w - left) (drop (at + left) l)) = r.is in
    record {
      few = omega arith;
      narrow = r.narrow;
      there = r.there;
      is = rw (n, q, sym y) (omega arith);
      small = rw n (omega (arith, grow (w - left) x b r.small g));
    }

pub reading-end : {l : List ℕ} {at w left x : ℕ} → Reading l at w left x → left ≤ 0 → x ≡ read_at at w l
unfolding read_at
reading-end {l} {at} {w} {left} {x} r h =
    let z : left ≡ 0 = omega arith in
    let n : w - left ≡ w = omega arith in
    let m : at + left ≡ at = omega arith in
    rw (le-leb w 8 r.narrow, le-leb (at + w) (length l) r.there) (rw (n, m) at r.is)

pub reading_small : {l : List ℕ} {at w left x : ℕ} → Reading l at w left x → left ≤ 0 → x < 256 ^ w
reading_small {l} {at} {w} {left} {x} r h = let n : w - left ≡ w = omega arith in rw n at r.small

-- nothing is below any power
pub none-small : (w : ℕ) → 0 < 256 ^ w
none-small w =
    let a : 0 < 256 = omega arith in
    let p : 256 ^ 0 ≤ 256 ^ w = pow-le-pow_right a (zero-le) in
    omega (arith, p)

pub read_wide : (at w : ℕ) (l : List ℕ) → 8 < w → 0 ≡ read_at at w l
unfolding read_at
read_wide at w l h = rw (lt-leb w 8 h)

pub read_short : (at w : ℕ) (l : List ℕ) → w ≤ 8 → length l < at + w → 0 ≡ read_at at w l
unfolding read_at
read_short at w l h k = rw (le-leb w 8 h, lt-leb (at + w) (length l) k)

-- ---- bytes before and behind

-- a number is read the same with more bytes behind it
pub read_more : (at w : ℕ) (l t : List ℕ) → at + w ≤ length l → read_at at w (l ++ t) ≡ read_at at w l
unfolding read_at
read_more at w l t h =
    let a : drop at (l ++ t) ≡ drop at l ++ t = drop-append-le at l t (omega arith) in
    let b : take w (drop at l ++ t) ≡ take w (drop at l) =
    take-append-le w (drop at l) t (omega (arith, length-drop at l)) in
    let c : leb (at + w) (length (l ++ t)) ≡ leb (at + w) (length l) =
    le-leb (at + w) (length (l ++ t)) (omega (arith, length-append l t)) ∙ sym (le-leb (at + w) (length l) h) in
    λ j. cond (leb w 8 && c j) (le_number ((ap (take w) a ∙ b) j)) 0

-- the bytes of a number make the number
le-number : (w x : ℕ) → x < 256 ^ w → le_number (le w x) ≡ x
unfolding le_number le
le-number zero x h = omega (arith, h)
le-number (suc w) x h =
    let k : x / 256 < 256 ^ w = omega (arith, h, pow-suc 256 w) in
    let e : le_number (le w (x / 256)) ≡ x / 256 = le-number w (x / 256) k in
    omega (arith, e)

-- a number is read back as it was written, whatever is before it and behind it
pub read_back : (at w x : ℕ) (p t : List ℕ) → length p ≡ at → w ≤ 8 → x < 256 ^ w → read_at at w (p ++ (le w x ++ t)) ≡ x
unfolding read_at
read_back at w x p t e h k =
    let n : length (le w x) ≡ w = le-length w x in
    let m : at + w ≤ length (p ++ (le w x ++ t)) =
    omega (arith, e, n, length-append p (le w x ++ t), length-append (le w x) t) in
    let b : take w (drop at (p ++ (le w x ++ t))) ≡ le w x =
    ap (take w) (drop_at p (le w x ++ t) at e) ∙ take_at (le w x) t w n in
    rw (le-leb w 8 h, le-leb (at + w) (length (p ++ (le w x ++ t))) m) (ap le_number b ∙ le-number w x k)
