-- What `fold_of` gives lies within 1 and 100, whatever the ETX before it, a NaN or an infinity too.
-- Assumes nothing.
use mathlib.Core.Path.{◌≡◌, refl, sym, ap, ◌∙◌, subst}
use mathlib.Core.Bool.{Bool, true, false, cond}
use Prim.Native.Nat.{ℕ, suc, zero, ◌+◌, ◌*◌, ◌^◌}
use native.Mathlib.Omega.{arith}
use borrow.Author.Tests.{ne_eqb}
use lib.IntN.{ℤ, pos}
use lib.Dec.{T, ltb, ltb→lt}
use lib.Ieee.{Float, nan, inf, fin, Format, binary64, prec, emax, low, up, down, of_bits, odd, units, round, div, lt, le, is_nan}
use lib.Ieee.Fits.{round_is}
use lib.Ieee.Positive.{above, positive, above_of_le}
use Rattle.base.proofs.Cases.{on-flag}
use Rattle.total.specs.Values.{clamp_of, max_of}
use Rattle.total.proofs.ValueLaws.{le_of_not_lt}
use Rattle.etx.specs.Etx.{one, hundred, hundredth, ratio_of, outcome_of, next_ratio, fold_of, Within}

-- ---- a clamped value that is no NaN

one-real : is_nan one ≡ false
unfolding is_nan of_bits
one-real = refl

hundred-real : is_nan hundred ≡ false
unfolding is_nan of_bits
hundred-real = refl

pub one-within : Within one
unfolding le of_bits
one-within = record { low = refl; high = refl }

hundred-within : Within hundred
unfolding le of_bits
hundred-within = record { low = refl; high = refl }

pub clamp-within : (x : Float) → is_nan x ≡ false → Within (clamp_of x one hundred)
clamp-within x n =
    on-flag (lt x one)
    (λ a. simp a one-within)
    (λ a.
    on-flag (lt hundred x)
    (λ b. simp (a, b) hundred-within)
    (λ b. simp (a, b) (record { low = le_of_not_lt one x one-real n a; high = le_of_not_lt x hundred n hundred-real b })))

-- ---- what is rounded is no NaN

odd-real : (d : ℕ) (s : Bool) (q k l : ℕ) → is_nan (odd d s q k l) ≡ false
unfolding odd is_nan
odd-real d s zero k l = refl
odd-real d s (suc q) k l = refl

cond-real : (b : Bool) (x y : Float) → is_nan x ≡ false → is_nan y ≡ false → is_nan (cond b x y) ≡ false
cond-real true x y h k = h
cond-real false x y h k = k

inf-real : (s : Bool) → is_nan (inf s) ≡ false
unfolding is_nan
inf-real s = refl

units-real : (f : Format) (s : Bool) (q k : ℕ) → is_nan (units f s q k) ≡ false
unfolding units
units-real f s q k =
    cond-real (ltb (q * 2 ^ k) (2 ^ (low f + suc (emax f)))) (odd (suc (prec f)) s q k (low f)) (inf s) (odd-real (suc (prec f)) s q k (low f)) (inf-real s)

pub round-real : (f : Format) (s : Bool) (n d : ℕ) → is_nan (round f s n d) ≡ false
round-real f s n d = ap is_nan (round_is f s n d) ∙ units-real f s _ _

-- ---- 1 / z for a z above zero is no NaN

div-real : (f : Format) (m : ℕ) (e : ℤ) (z : Float) → T (above z) → is_nan (div f (fin false m e) z) ≡ false
unfolding div is_nan
div-real f m e nan h = absurd h
div-real f m e (inf true) h = absurd h
div-real f m e (inf false) h = refl
div-real f m e (fin true n d) h = absurd h
div-real f m e (fin false n d) h =
    simp (ne_eqb n 0 (λ z. omega (arith, ltb→lt 0 n h))) (round-real f false (m * up e * down d) (n * up d * down e))

one-by : (z : Float) → T (above z) → is_nan (div binary64 one z) ≡ false
unfolding of_bits
one-by z h = div-real binary64 1 (pos 0) z h

hundredth-real : is_nan hundredth ≡ false
unfolding is_nan of_bits
hundredth-real = refl

hundredth-positive : T (positive hundredth)
unfolding of_bits
hundredth-positive = tt

hundredth-above : T (above hundredth)
unfolding of_bits
hundredth-above = tt

pub of-true : (b : Bool) → b ≡ true → T b
of-true b h = subst T (sym h) tt

max-above : (x : Float) → T (above (max_of x hundredth))
max-above x =
    on-flag (is_nan x)
    (λ a. simp a hundredth-above)
    (λ a.
    on-flag (lt x hundredth)
    (λ b. simp (a, b) hundredth-above)
    (λ b. simp (a, b) (above_of_le hundredth x hundredth-positive (of-true (le hundredth x) (le_of_not_lt hundredth x hundredth-real a b)))))

pub fold-within : (etx : Float) (delivered : Bool) → Within (fold_of etx delivered)
unfolding fold_of
fold-within etx delivered =
    let next = next_ratio (ratio_of etx) (outcome_of delivered) in
    clamp-within (div binary64 one (max_of next hundredth)) (one-by (max_of next hundredth) (max-above next))
