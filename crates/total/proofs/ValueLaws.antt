-- What a program's tests on floats say of `is_nan`, of the order of values and of the sign of a zero.
-- Assumes nothing.
use mathlib.Core.Path.{◌≡◌, refl, sym, ap, ◌∙◌, subst}
use mathlib.Core.Bool.{Bool, true, false, not, ◌&&◌, ◌||◌, beq, true≢false, false≢true}
use Prim.Native.Nat.{ℕ, zero, suc, ◌+◌, ◌*◌}
use native.Mathlib.Nat.{mul-pos, zero-mul, zero-lt-suc}
use native.Mathlib.Omega.{arith}
use borrow.Author.Tests.{eq-eqb, eqb-true, ltb-false}
use lib.IntN.{ℤ, pos}
use lib.Dec.{T, eqb}
use lib.Ieee.{Float, nan, inf, fin, binary64, of_bits, div, up, down, lt, eq, le, ne, is_nan, below, level}
use lib.Ieee.Fits.{up_pos, down_pos}
use lib.Ieee.Compare.{differs_from_itself}
use Rattle.base.proofs.Cases.{on-flag}
use Rattle.total.specs.Values.{negative}

-- ---- x != x

nan_at : (x : Float) → x ≡ nan → is_nan x ≡ true
unfolding is_nan
nan_at x e = ap is_nan e

pub is-nan : (x : Float) → ne x x ≡ true → is_nan x ≡ true
is-nan x h = nan_at x (differs_from_itself x (subst T (sym h) tt))

pub no_nan : (x : Float) → ne x x ≡ false → is_nan x ≡ false
unfolding ne is_nan
no_nan nan h = absurd (true≢false h)
no_nan (inf s) h = refl
no_nan (fin s m e) h = refl

-- a NaN is the one
pub the_nan : (x : Float) → is_nan x ≡ true → nan ≡ x
unfolding is_nan
the_nan nan h = refl
the_nan (inf s) h = absurd (false≢true h)
the_nan (fin s m e) h = absurd (false≢true h)

-- ---- of two numbers, one is below the other or they are equal

level-of : (s t : Bool) (a b : ℕ) → below s a t b ≡ false → below t b s a ≡ false → level s a t b ≡ true
level-of false false a b h k = simp (eq-eqb a b (omega (arith, ltb-false a b h, ltb-false b a k)))
level-of false true a b h k = simp (eq-eqb a b (omega (arith, ltb-false 0 (b + a) k)), eq-eqb a 0 (omega (arith, ltb-false 0 (b + a) k)))
level-of true false a b h k = simp (eq-eqb a b (omega (arith, ltb-false 0 (a + b) h)), eq-eqb a 0 (omega (arith, ltb-false 0 (a + b) h)))
level-of true true a b h k = simp (eq-eqb a b (omega (arith, ltb-false b a h, ltb-false a b k)))

pub equal : (x y : Float) → is_nan x ≡ false → is_nan y ≡ false → lt x y ≡ false → lt y x ≡ false → eq x y ≡ true
unfolding lt eq is_nan
equal nan y m n h k = absurd (true≢false m)
equal (inf s) nan m n h k = absurd (true≢false n)
equal (inf true) (inf true) m n h k = refl
equal (inf true) (inf false) m n h k = absurd (true≢false h)
equal (inf false) (inf true) m n h k = absurd (true≢false k)
equal (inf false) (inf false) m n h k = refl
equal (inf true) (fin t q d) m n h k = absurd (true≢false h)
equal (inf false) (fin t q d) m n h k = absurd (true≢false k)
equal (fin s p e) nan m n h k = absurd (true≢false n)
equal (fin s p e) (inf true) m n h k = absurd (true≢false k)
equal (fin s p e) (inf false) m n h k = absurd (true≢false h)
equal (fin s p e) (fin t q d) m n h k = level-of s t (p * up e * down d) (q * up d * down e) h k

-- so x is at most y where y is not below x
pub le_of_not_lt : (x y : Float) → is_nan x ≡ false → is_nan y ≡ false → lt y x ≡ false → le x y ≡ true
unfolding le
le_of_not_lt x y m n h = on-flag (lt x y) (λ k. simp k) (λ k. simp (k, equal x y m n k h))

pub le_of_lt : (x y : Float) → lt x y ≡ true → le x y ≡ true
unfolding le
le_of_lt x y h = simp h

-- ---- two equal numbers: the signs of zeros, and of others

-- the literals 0.0 and 1.0
abbrev zero-f : Float
zero-f = of_bits binary64 0

abbrev one-f : Float
one-f = of_bits binary64 0x3ff0_0000_0000_0000

pub both : (a b : Bool) → a && b ≡ true → (a ≡ true) × (b ≡ true)
both true true h = (refl, refl)
both true false h = absurd (false≢true h)
both false b h = absurd (false≢true h)

pub no-mag : (m : ℕ) (e d : ℤ) → m * up e * down d ≡ 0 → m ≡ 0
no-mag zero e d h = refl
no-mag (suc m) e d h = absurd (omega (arith, mul-pos (mul-pos (zero-lt-suc m) (up_pos e)) (down_pos d)))

pub mag-zero : (m : ℕ) (e d : ℤ) → m ≡ 0 → m * up e * down d ≡ 0
mag-zero m e d h = simp (h, zero-mul)

-- a number that equals 0.0 has m = 0
pub zero-m : (s : Bool) (m : ℕ) (e : ℤ) → eq (fin s m e) zero-f ≡ true → m ≡ 0
unfolding eq of_bits
zero-m s m e h = no-mag m e (pos 0) (eqb-true (m * up e * 1) (0 * 1 * down e) (both _ _ h).0 ∙ simp zero-mul)

at_zero : (s t : Bool) (e d : ℤ) → le (div binary64 one-f (fin s 0 e)) (div binary64 one-f (fin t 0 d)) ≡ (s || not t)
unfolding le div of_bits
at_zero true true e d = refl
at_zero true false e d = refl
at_zero false true e d = refl
at_zero false false e d = refl

-- 1 / -0 is -∞, and 1 / +0 is +∞
pub zeros : (x y : Float) → eq x y ≡ true → eq x zero-f ≡ true → le (div binary64 one-f x) (div binary64 one-f y) ≡ (negative x || not (negative y))
unfolding eq negative of_bits
zeros nan y h z = absurd (false≢true h)
zeros (inf s) y h z = absurd (false≢true z)
zeros (fin s m e) nan h z = absurd (false≢true h)
zeros (fin s m e) (inf t) h z = absurd (false≢true h)
zeros (fin s m e) (fin t n d) h z =
    let p : m ≡ 0 = zero-m s m e z in
    let q : n ≡ 0 = no-mag n d e (sym (eqb-true _ _ (both _ _ h).0) ∙ mag-zero m e d p) in
    simp (p, q) (at_zero s t e d)

like : (s t : Bool) → beq s t ≡ true → (s || not t) ≡ true
like true t h = refl
like false true h = absurd (false≢true h)
like false false h = refl

pub is_zero : (s : Bool) (m : ℕ) (e : ℤ) → m ≡ 0 → eq (fin s m e) zero-f ≡ true
unfolding eq of_bits
is_zero true m e h =
    simp (eq-eqb (m * up e * 1) (0 * 1 * down e) (mag-zero m e (pos 0) h ∙ sym (simp zero-mul)), eq-eqb (m * up e * 1) 0 (mag-zero m e (pos 0) h))
is_zero false m e h = simp (eq-eqb (m * up e * 1) (0 * 1 * down e) (mag-zero m e (pos 0) h ∙ sym (simp zero-mul)))

-- equal numbers other than zeros have one sign
pub others : (x y : Float) → eq x y ≡ true → eq x zero-f ≡ false → (negative x || not (negative y)) ≡ true
unfolding eq negative
others nan y h z = absurd (false≢true h)
others (inf s) nan h z = absurd (false≢true h)
others (inf s) (inf t) h z = like s t h
others (inf s) (fin t n d) h z = absurd (false≢true h)
others (fin s m e) nan h z = absurd (false≢true h)
others (fin s m e) (inf t) h z = absurd (false≢true h)
others (fin true m e) (fin t n d) h z = refl
others (fin false m e) (fin false n d) h z = refl
others (fin false m e) (fin true n d) h z =
    let p : m ≡ 0 = no-mag m e d (eqb-true (m * up e * down d) 0 (both (eqb (m * up e * down d) (n * up d * down e)) (eqb (m * up e * down d) 0) h).1) in
    absurd (true≢false (sym (is_zero false m e p) ∙ z))
