-- The places of floats in totalOrder: their order is totalOrder, each is its float's alone, and what is at most a limit
-- stands at or before the limit's.
-- Assumes nothing.
use mathlib.Core.Path.{◌≡◌, refl, sym, ap, ◌∙◌, subst}
use mathlib.Core.Logic.{inl, inr}
use mathlib.Core.Bool.{Bool, true, false, not, cond, ◌||◌, false≢true}
use Prim.Native.Nat.{ℕ, ◌+◌, ◌-◌, ◌*◌, ◌%◌, ◌<◌, ◌≤◌}
use native.Mathlib.Omega.{arith}
use borrow.Author.Tests.{lt-ltb, le-ltb, le-leb, lt-leb, eq-eqb, ne_eqb, ltb-true, ltb-false, eqb-true, eqb-false}
use lib.IntN.{ℤ, pos}
use lib.Dec.{T, ltb, leb, eqb}
use lib.Ieee.{Float, nan, inf, fin, binary64, of_bits, to_bits, nan_bits, is_nan, fits, up, down, lt, le, eq, below, level}
use lib.Ieee.Bits.{of_bits-to_bits, to_bits-of_bits, to_bits-lt, of_bits-fits, nan_bits_is, nan_bits_above}
use Rattle.base.proofs.Cases.{on-flag, on-order, never}
use Rattle.total.specs.Total.{key_at}
use Rattle.total.specs.Values.{negative, total_of}
use Rattle.total.specs.Patterns.{float_of, etx_bits}
use Rattle.total.specs.Places.{key_of, key_float, limit_key}
use Rattle.total.proofs.KeyLaws.{total-key}
use Rattle.total.proofs.OrderLaws.{Told, total-patterns}
use Rattle.total.proofs.ValueLaws.{the_nan, equal, le_of_lt, le_of_not_lt, both, zero-m, no-mag, mag-zero, is_zero, others}

-- the weight of the sign, an infinity's pattern, the NaN's pattern and its place
abbrev pub half : ℕ
half = 0x8000_0000_0000_0000

abbrev pub infinite : ℕ
infinite = 0x7ff0_0000_0000_0000

abbrev quiet : ℕ
quiet = 0x7ff8_0000_0000_0000

abbrev pub last : ℕ
last = 0xfff8_0000_0000_0000

-- ---- a float's pattern

-- the NaN's is the constant's
pub quiet-nan : float_of quiet ≡ nan
unfolding of_bits
quiet-nan = refl

-- its float again
pub float-again : (x : Float) → T (fits binary64 x) → float_of (etx_bits x) ≡ x
float-again x f =
    on-flag (is_nan x)
    (λ h. rw h (quiet-nan ∙ the_nan x h))
    (λ h. rw h (of_bits-to_bits binary64 x f))

under : (x : Float) → T (fits binary64 x) → etx_bits x < 2 * half
under x f = on-flag (is_nan x) (λ h. rw h (omega arith)) (λ h. rw h (to_bits-lt binary64 x f))

-- no pattern of a number is a NaN's
number : (x : Float) → T (fits binary64 x) → is_nan x ≡ false → nan_bits binary64 (to_bits binary64 x) ≡ false
number x f h = nan_bits_is binary64 (to_bits binary64 x) ∙ ap is_nan (of_bits-to_bits binary64 x f) ∙ h

told : (x : Float) → T (fits binary64 x) → Told binary64 (etx_bits x)
told x f = on-flag (is_nan x) (λ h. inr (rw h)) (λ h. inl (rw h (number x f h)))

-- ---- the place

place-total : (x y : Float) → T (fits binary64 x) → T (fits binary64 y) → total_of x y ≡ leb (key_of x) (key_of y)
unfolding key_of
place-total x y f g =
    sym (λ i. total_of (float-again x f i) (float-again y g i))
    ∙ total-patterns binary64 (etx_bits x) (etx_bits y) (told x f) (told y g)
    ∙ sym (total-key binary64 (etx_bits x) (etx_bits y) (under x f) (under y g))

at-nan : (x : Float) → is_nan x ≡ true → key_of x ≡ last
unfolding key_of key_at
at-nan x h = rw h

at-number : (x : Float) → is_nan x ≡ false → key_of x ≡ key_at binary64 (to_bits binary64 x)
unfolding key_of
at-number x h = rw h

-- between the NaN's and 0, by the lower bits
between : (b : ℕ) → b < 2 * half → nan_bits binary64 b ≡ false → (0 < key_at binary64 b) × (key_at binary64 b < last)
unfolding key_at
between b u n =
    let m : b % half ≤ infinite = ltb-false infinite (b % half) (sym (nan_bits_above binary64 b) ∙ n) in
    on-order b half
    (λ h. rw (lt-leb half b h) (omega arith, omega arith))
    (λ h. rw (le-leb half b h) (omega arith, omega arith))

place-within : (x : Float) → T (fits binary64 x) → (0 < key_of x) × (key_of x ≤ last)
place-within x f =
    on-flag (is_nan x)
    (λ h. let e : key_of x ≡ last = at-nan x h in (omega arith, omega arith))
    (λ h.
    let e : key_of x ≡ key_at binary64 (to_bits binary64 x) = at-number x h in
    let w = between (to_bits binary64 x) (to_bits-lt binary64 x f) (number x f h) in
    let v : 0 < key_at binary64 (to_bits binary64 x) = w.0 in
    let u : key_at binary64 (to_bits binary64 x) < last = w.1 in
    (omega arith, omega arith))

place-off : (x : Float) → T (fits binary64 x) → key_of x < 18446744073709551615
place-off x f = let u : key_of x ≤ last = (place-within x f).1 in omega arith

-- the pattern that stands at a pattern's place
turned : (b : ℕ) → b < 2 * half
    → cond (ltb (key_at binary64 b) half) (0xffff_ffff_ffff_ffff - key_at binary64 b) (key_at binary64 b - half) ≡ b
unfolding key_at
turned b u =
    on-order b half
    (λ h. rw (lt-leb half b h) (rw (le-ltb (b + half) half (omega arith)) (omega arith)))
    (λ h. rw (le-leb half b h) (rw (lt-ltb (2 * half - 1 - b) half (omega arith)) (omega arith)))

place-back : (x : Float) → T (fits binary64 x) → key_float (key_of x) ≡ x
unfolding key_of key_float
place-back x f = ap float_of (turned (etx_bits x) (under x f)) ∙ float-again x f

-- the place of a pattern's float, as `pattern_key` has it
abbrev place_at : ℕ → ℕ
place_at b = cond (ltb infinite (b % half)) last (cond (ltb b half) (b % half + half) (0x7fff_ffff_ffff_ffff - b % half))

placed : (b : ℕ) → b < 2 * half → key_at binary64 b ≡ cond (ltb b half) (b % half + half) (0x7fff_ffff_ffff_ffff - b % half)
unfolding key_at
placed b u =
    on-order b half
    (λ h. rw (lt-leb half b h, lt-ltb b half h) (omega arith))
    (λ h. rw (le-leb half b h, le-ltb b half h) (omega arith))

pub key-pattern : (b : ℕ) → b < 2 * half → key_of (float_of b) ≡ place_at b
key-pattern b u =
    on-flag (nan_bits binary64 b)
    (λ h. at-nan (float_of b) (sym (nan_bits_is binary64 b) ∙ h) ∙ sym (rw (sym (nan_bits_above binary64 b) ∙ h)))
    (λ h.
    let n : is_nan (float_of b) ≡ false = sym (nan_bits_is binary64 b) ∙ h in
    at-number (float_of b) n
    ∙ ap (key_at binary64) (to_bits-of_bits binary64 b u (subst (λ (t : Bool). T (not t)) (sym n) tt))
    ∙ placed b u
    ∙ sym (rw (sym (nan_bits_above binary64 b) ∙ h)))

-- ---- at most

no-limit : (y x : Float) → is_nan x ≡ true → le y x ≡ false
unfolding le is_nan
no-limit nan nan h = refl
no-limit (inf s) nan h = refl
no-limit (fin s m e) nan h = refl
no-limit y (inf s) h = absurd (false≢true h)
no-limit y (fin s m e) h = absurd (false≢true h)

no-float : (y x : Float) → is_nan y ≡ true → le y x ≡ false
unfolding le is_nan
no-float nan x h = refl
no-float (inf s) x h = absurd (false≢true h)
no-float (fin s m e) x h = absurd (false≢true h)

above : (s t : Bool) (a b : ℕ) → below s a t b ≡ true → (below t b s a || level t b s a) ≡ false
above false false a b h =
    let l : a < b = ltb-true a b h in
    simp (le-ltb b a (omega arith), ne_eqb b a (λ e. omega arith))
above false true a b h = absurd (false≢true h)
above true false a b h =
    let l : 0 < a + b = ltb-true 0 (a + b) h in
    on-flag (eqb b a)
    (λ e. let q : b ≡ a = eqb-true b a e in simp (e, ne_eqb b 0 (λ z. omega arith)))
    (λ e. simp e)
above true true a b h =
    let l : b < a = ltb-true b a h in
    simp (le-ltb a b (omega arith), ne_eqb b a (λ e. omega arith))

not-le : (x y : Float) → lt x y ≡ true → le y x ≡ false
unfolding lt le
not-le nan y h = absurd (false≢true h)
not-le (inf s) nan h = absurd (false≢true h)
not-le (inf true) (inf true) h = absurd (false≢true h)
not-le (inf true) (inf false) h = refl
not-le (inf false) (inf t) h = absurd (false≢true h)
not-le (inf true) (fin t n d) h = refl
not-le (inf false) (fin t n d) h = absurd (false≢true h)
not-le (fin s m e) nan h = absurd (false≢true h)
not-le (fin s m e) (inf true) h = absurd (false≢true h)
not-le (fin s m e) (inf false) h = refl
not-le (fin s m e) (fin t n d) h = above s t (m * up e * down d) (n * up d * down e) h

-- at most is totalOrder where the signs of equal ones do not matter
total-le : (y x : Float) → is_nan x ≡ false → (eq y x ≡ true → (negative y || not (negative x)) ≡ true) → total_of y x ≡ le y x
unfolding total_of
total-le y x n s =
    on-flag (is_nan y)
    (λ m. rw (n, m) (sym (no-float y x m)))
    (λ m.
    on-flag (lt y x)
    (λ h. rw (n, m, h) (sym (le_of_lt y x h)))
    (λ h.
    on-flag (lt x y)
    (λ k. rw (n, m, h, k) (sym (not-le x y k)))
    (λ k. rw (n, m, h, k) (s (equal y x m n h k) ∙ sym (le_of_not_lt y x m n k)))))

-- ---- zeros

flat : (s t : Bool) (a b : ℕ) → b ≡ 0 → (below s a t b || level s a t b) ≡ (s || eqb a 0)
flat false false a b z = rw z (on-flag (eqb a 0) (λ e. simp (e, le-ltb a 0 (omega arith))) (λ e. simp (e, le-ltb a 0 (omega arith))))
flat false true a b z = rw z (on-flag (eqb a 0) (λ e. simp e) (λ e. simp e))
flat true false a b z = rw z (on-order 0 a (λ l. simp (lt-ltb 0 (a + 0) (omega arith))) (λ l. simp (le-ltb 0 (a + 0) (omega arith), eq-eqb a 0 (omega arith))))
flat true true a b z = rw z (on-order 0 a (λ l. simp (lt-ltb 0 a l)) (λ l. simp (le-ltb 0 a l, eq-eqb a 0 (omega arith))))

nothing : (n : ℕ) (d e : ℤ) → eqb (n * up d * down e) 0 ≡ eqb n 0
nothing n d e =
    on-flag (eqb n 0)
    (λ h. eq-eqb (n * up d * down e) 0 (mag-zero n d e (eqb-true n 0 h)) ∙ sym h)
    (λ h. ne_eqb (n * up d * down e) 0 (λ z. eqb-false n 0 h (no-mag n d e z)) ∙ sym h)

-- at most a zero is at most +0
at_zero : (y x : Float) → eq x (float_of 0) ≡ true → le y x ≡ le y (float_of 0)
unfolding le eq of_bits
at_zero y nan z = absurd (false≢true z)
at_zero y (inf s) z = absurd (false≢true z)
at_zero nan (fin s m e) z = refl
at_zero (inf true) (fin s m e) z = refl
at_zero (inf false) (fin s m e) z = refl
at_zero (fin t n d) (fin s m e) z =
    flat t s (n * up d * down e) (m * up e * down d) (mag-zero m e d (zero-m s m e z))
    ∙ ap (λ (b : Bool). t || b) (nothing n d e ∙ sym (nothing n d (pos 0)))
    ∙ sym (flat t false (n * up d * 1) (0 * 1 * down d) (mag-zero 0 (pos 0) d refl))

-- what equals a zero is one
zero-too : (y x : Float) → eq y x ≡ true → eq y (float_of 0) ≡ true → eq x (float_of 0) ≡ true
unfolding eq of_bits
zero-too nan x h z = absurd (false≢true h)
zero-too (inf t) x h z = absurd (false≢true z)
zero-too (fin t n d) nan h z = absurd (false≢true h)
zero-too (fin t n d) (inf s) h z = absurd (false≢true h)
zero-too (fin t n d) (fin s m e) h z =
    is_zero s m e (no-mag m e d (sym (eqb-true _ _ (both _ _ h).0) ∙ mag-zero n d e (zero-m t n d z)))

signs : (y x : Float) → eq x (float_of 0) ≡ false → eq y x ≡ true → (negative y || not (negative x)) ≡ true
signs y x n h = others y x h (on-flag (eq y (float_of 0)) (λ z. never (zero-too y x h z) n) (λ z. z))

plus : (t : Bool) → (t || not (negative (float_of 0))) ≡ true
unfolding negative of_bits
plus true = refl
plus false = refl

zero_number : is_nan (float_of 0) ≡ false
unfolding is_nan of_bits
zero_number = refl

place-limit : (y x : Float) → T (fits binary64 y) → T (fits binary64 x) → le y x ≡ leb (key_of y) (limit_key x)
unfolding limit_key
place-limit y x g f =
    on-flag (is_nan x)
    (λ n. no-limit y x n ∙ sym (rw n (lt-leb (key_of y) 0 (place-within y g).0)))
    (λ n.
    on-flag (eq x (float_of 0))
    (λ z.
    at_zero y x z
    ∙ sym (total-le y (float_of 0) zero_number (λ h. plus (negative y)))
    ∙ place-total y (float_of 0) g (of_bits-fits binary64 0)
    ∙ sym (rw (n, z)))
    (λ z. sym (total-le y x n (signs y x z)) ∙ place-total y x g f ∙ sym (rw (n, z))))

-- ---- the laws, of the floats of patterns

-- totalOrder is the order of the places
pub key-total : (a b : ℕ) → total_of (float_of a) (float_of b) ≡ leb (key_of (float_of a)) (key_of (float_of b))
key-total a b = place-total (float_of a) (float_of b) (of_bits-fits binary64 a) (of_bits-fits binary64 b)

-- the last of 64 bits is no float's place
pub key-off : (a : ℕ) → key_of (float_of a) < 18446744073709551615
key-off a = place-off (float_of a) (of_bits-fits binary64 a)

-- at a float's place stands the float
pub key_back : (a : ℕ) → key_float (key_of (float_of a)) ≡ float_of a
key_back a = place-back (float_of a) (of_bits-fits binary64 a)

-- a float is at most x where it stands at or before the limit's place
pub key-limit : (a : ℕ) (x : Float) → T (fits binary64 x) → le (float_of a) x ≡ leb (key_of (float_of a)) (limit_key x)
key-limit a x f = place-limit (float_of a) x (of_bits-fits binary64 a) f

pub limit-under : (x : Float) → T (fits binary64 x) → limit_key x < 18446744073709551615
unfolding limit_key
limit-under x f =
    on-flag (is_nan x)
    (λ n. rw n (omega arith))
    (λ n.
    on-flag (eq x (float_of 0))
    (λ z. rw (n, z) (key-off 0))
    (λ z. rw (n, z) (place-off x f)))
