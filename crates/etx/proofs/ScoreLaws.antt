-- The score of an ETX within 1 and 100 and of any round trip is 1 at least: so it is no NaN, whatever the round trip.
-- Assumes nothing.
use mathlib.Core.Path.{◌≡◌, refl, sym, subst}
use mathlib.Core.Logic.{◌⊎◌, inl, inr}
use mathlib.Core.Bool.{Bool, true, false, cond, not, false≢true}
use Prim.Native.Nat.{ℕ, suc, zero, ◌+◌, ◌*◌, ◌/◌, ◌%◌, ◌^◌, ◌≤◌, ◌<◌}
use native.Mathlib.Nat.{mul-pos, zero-lt-suc}
use native.Mathlib.Omega.{arith}
use lib.IntN.{ℤ}
use lib.Dec.{T, ltb, eqb, ltb→lt, eqb→eq}
use lib.Ieee.{Float, nan, inf, fin, Format, binary64, prec, emax, low, up, down, of_bits, odd, units, round, sum, add, mul, div, of_int, le, is_nan}
use lib.Ieee.Fits.{round_is, down_pos}
use lib.Ieee.Order.{round_mono}
use lib.Ieee.Positive.{above, positive, above_of_le, between, mul_mono}
use lib.Ieee.Bits.{is_true}
use Rattle.etx.specs.Etx.{one, hundred, thousand, billion, float, seconds_of, quality_of, score_of, Within}
use Rattle.etx.proofs.Literals.{nearest, one-is}
use Rattle.etx.proofs.WithinLaws.{of-true}

-- no NaN, and the sign is clear
abbrev plus : Float → Bool
plus nan = false
plus (inf s) = not s
plus (fin s m e) = not s

odd-plus : (d q k l : ℕ) → T (plus (odd d false q k l))
unfolding odd
odd-plus d zero k l = tt
odd-plus d (suc q) k l = tt

units-plus : (f : Format) (q k : ℕ) → T (plus (units f false q k))
unfolding units
units-plus f q k = go (ltb (q * 2 ^ k) (2 ^ (low f + suc (emax f))))
  where
    go : (b : Bool) → T (plus (cond b (odd (suc (prec f)) false q k (low f)) (inf false)))
    go true = odd-plus (suc (prec f)) q k (low f)
    go false = tt

round-plus : (f : Format) (n d : ℕ) → T (plus (round f false n d))
round-plus f n d = subst (λ (x : Float). T (plus x)) (sym (round_is f false n d)) (units-plus f _ _)

float-plus : (n : ℕ) → T (plus (float n))
unfolding of_int
float-plus n = round-plus binary64 n 1

add-plus : (f : Format) (x y : Float) → T (plus x) → T (plus y) → T (plus (add f x y))
unfolding add sum
add-plus f nan y p q = absurd p
add-plus f (inf true) y p q = absurd p
add-plus f (inf false) nan p q = absurd q
add-plus f (inf false) (inf true) p q = absurd q
add-plus f (inf false) (inf false) p q = tt
add-plus f (inf false) (fin t n d) p q = tt
add-plus f (fin true m e) y p q = absurd p
add-plus f (fin false m e) nan p q = absurd q
add-plus f (fin false m e) (inf t) p q = q
add-plus f (fin false m e) (fin true n d) p q = absurd q
add-plus f (fin false m e) (fin false n d) p q = round-plus f (m * up e * down d + n * up d * down e) (down e * down d)

-- over, and times, a number above zero
div-plus : (f : Format) (x : Float) (n : ℕ) (d : ℤ) → eqb n 0 ≡ false → T (plus x) → T (plus (div f x (fin false n d)))
unfolding div
div-plus f nan n d z p = absurd p
div-plus f (inf true) n d z p = absurd p
div-plus f (inf false) n d z p = tt
div-plus f (fin true m e) n d z p = absurd p
div-plus f (fin false m e) n d z p = simp z (round-plus f (m * up e * down d) (n * up d * down e))

mul-plus : (f : Format) (x : Float) (n : ℕ) (d : ℤ) → eqb n 0 ≡ false → T (plus x) → T (plus (mul f x (fin false n d)))
unfolding mul
mul-plus f nan n d z p = absurd p
mul-plus f (inf true) n d z p = absurd p
mul-plus f (inf false) n d z p = simp z tt
mul-plus f (fin true m e) n d z p = absurd p
mul-plus f (fin false m e) n d z p = round-plus f (m * up e * (n * up d)) (down e * down d)

seconds-plus : (ns : ℕ) → T (plus (seconds_of ns))
unfolding of_bits
seconds-plus ns = add-plus binary64 (float (ns / 1000000000)) (div binary64 (float (ns % 1000000000)) billion) (float-plus (ns / 1000000000)) (div-plus binary64 (float (ns % 1000000000)) _ _ refl (float-plus (ns % 1000000000)))

-- 1 + x is 1 at least
one_more : (x : Float) → T (plus x) → T (le one (add binary64 one x))
unfolding of_bits
one_more x p = go x p
  where
    grown : (a c : ℕ) → 1 * c ≤ (c + a) * 1
    grown a c = omega arith

    at : (n : ℕ) (d : ℤ) → T (le (nearest 1 1) (round binary64 false (1 * 1 * down d + n * up d * 1) (1 * down d)))
    at n d = round_mono binary64 1 1 (1 * 1 * down d + n * up d * 1) (1 * down d) (zero-lt-suc 0) (mul-pos (zero-lt-suc 0) (down_pos d)) (fits (down d) (n * up d))
      where
        fits : (c a : ℕ) → 1 * (1 * c) ≤ (1 * 1 * c + a * 1) * 1
        fits c a = omega arith

    go : (x : Float) → T (plus x) → T (le one (add binary64 one x))
    go nan p = absurd p
    go (inf true) p = absurd p
    go (inf false) p = unfold add le in tt
    go (fin true n d) p = absurd p
    go (fin false n d) p = subst (λ (z : Float). T (le z (add binary64 one (fin false n d)))) (sym one-is) (unfold add sum in at n d)

-- ---- the product of two values that are 1 at least
above-split : (z : Float) → T (above z) → T (positive z) ⊎ (z ≡ inf false)
above-split nan h = absurd h
above-split (inf true) h = absurd h
above-split (inf false) h = inr refl
above-split (fin true m e) h = absurd h
above-split (fin false m e) h = inl h

one-positive : T (positive one)
unfolding of_bits
one-positive = tt

hundred-positive : T (positive hundred)
unfolding of_bits
hundred-positive = tt

one_by_one : mul binary64 one one ≡ one
unfolding mul of_bits
one_by_one = refl

le-inf : T (le one (inf false))
unfolding le of_bits
le-inf = tt

times-inf : (x : Float) → T (positive x) → T (le one (mul binary64 x (inf false)))
unfolding mul
times-inf nan p = absurd p
times-inf (inf s) p = absurd p
times-inf (fin true m e) p = absurd p
times-inf (fin false m e) p = go (eqb m 0) (eqb→eq m 0)
  where
    no : (m : ℕ) → 0 < m → m ≡ 0 → ⊥
    no m h k = omega arith

    go : (b : Bool) → (T b → m ≡ 0) → T (le one (cond b nan (inf false)))
    go true k = absurd (no m (ltb→lt 0 m p) (k tt))
    go false k = le-inf

times : (x z : Float) → T (positive x) → T (le one x) → T (le one z) → T (le one (mul binary64 x z))
times x z p h k = elim (above-split z (above_of_le one z one-positive k)) [
  | inl q ↦ subst (λ (y : Float). T (le y (mul binary64 x z))) one_by_one (mul_mono binary64 one x one z one-positive p one-positive q h k)
  | inr e ↦ subst (λ (y : Float). T (le one (mul binary64 x y))) (sym e) (times-inf x p)
]

pub score-least : (etx : Float) (rtt : ℕ) → Within etx → le one (score_of etx rtt) ≡ true
unfolding score_of quality_of of_bits
score-least etx rtt w =
    let ms = mul binary64 (seconds_of rtt) thousand in
    let l = of-true (le one etx) w.low in
    is_true
    (le one (score_of etx rtt))
    (times etx (add binary64 one (div binary64 ms hundred))
    (between one etx hundred one-positive hundred-positive l (of-true (le etx hundred) w.high))
    l
    (one_more (div binary64 ms hundred)
    (div-plus binary64 ms _ _ refl (mul-plus binary64 (seconds_of rtt) _ _ refl (seconds-plus rtt)))))

real : (x y : Float) → le x y ≡ true → is_nan y ≡ false
unfolding le is_nan
real nan nan h = absurd (false≢true h)
real (inf s) nan h = absurd (false≢true h)
real (fin s m e) nan h = absurd (false≢true h)
real x (inf t) h = refl
real x (fin t n d) h = refl

-- so no score of the record is a NaN
pub score-real : (etx : Float) (rtt : ℕ) → Within etx → is_nan (score_of etx rtt) ≡ false
score-real etx rtt w = real one (score_of etx rtt) (score-least etx rtt w)
