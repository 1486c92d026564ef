-- totalOrder as one comparison of numbers, over either format: the order of the patterns' keys is 5.10's.
-- Assumes nothing.
use mathlib.Core.Path.{◌≡◌, refl, sym, ap, ◌∙◌, subst}
use mathlib.Core.Logic.{◌⊎◌, inl, inr}
use mathlib.Core.Bool.{Bool, true, false, not, cond, ◌&&◌, ◌||◌, beq, true≢false, false≢true}
use Prim.Native.Nat.{ℕ, zero, suc, ◌+◌, ◌-◌, ◌*◌, ◌/◌, ◌%◌, ◌^◌, ◌≤◌, ◌<◌}
use native.Mathlib.Nat.{add-zero, mul-one, mul_assoc, mul_comm, mul_right_comm, mul-pos, suc-mul, mul-le-mul_right, mul-le-mul_left, mul-lt-mul_of_pos_right, lt_of_mul-lt-mul_right, le_of_mul-le-mul_right, lt_of_lt_of_le, lt_of_le_of_lt, le_trans, le_of_eq, le_of_lt, eq-or-lt_of_le, zero-lt-suc, div-add-mod', mul-div_cancel, mod-lt, mod-mod_of_dvd, dvd-mul_right, pow-suc, mod-eq_of_lt, mod-eq-sub-mod}
use native.Mathlib.Omega.{arith}
use borrow.Author.Tests.{lt-ltb, le-ltb, le-leb, lt-leb, ltb-true, ltb-false, leb-true, leb-false, eqb-true, eqb-false}
use lib.Dec.{leb, ltb, eqb}
use lib.Pow.{pow_pos, pow_mono}
use lib.Ieee.{Float, nan, inf, fin, Format, binary32, binary64, prec, low, hid, ones, top, up, down, odd, of_fields, of_bits, nan_bits, is_nan, lt}
use lib.Ieee.Fits.{down_pos}
use lib.Ieee.Exact.{HasValue, odd_sign}
use lib.Ieee.Bits.{nan_bits_is, nan_bits_above}
use Rattle.base.proofs.Cases.{on-flag, on-order}
use Rattle.total.specs.Total.{sign, nan_le, nans_le, numbers_le, total_at, key_at}

-- ---- two tests of orders that follow from each other

ltb-same : (a b c d : ℕ) → (a < b → c < d) → (b ≤ a → d ≤ c) → ltb c d ≡ ltb a b
ltb-same a b c d f g = on-order a b (λ h. lt-ltb c d (f h) ∙ sym (lt-ltb a b h)) (λ h. le-ltb c d (g h) ∙ sym (le-ltb a b h))

leb-same : (a b c d : ℕ) → (a ≤ b → c ≤ d) → (b < a → d < c) → leb c d ≡ leb a b
leb-same a b c d f g = on-order b a (λ h. lt-leb c d (g h) ∙ sym (lt-leb a b h)) (λ h. le-leb c d (f h) ∙ sym (le-leb a b h))

-- ---- what a pattern's fields say of its value
-- the size in units of the smallest value: of the exponent's field x and the digits t
abbrev pub mag_at : ℕ → ℕ → ℕ → ℕ
mag_at h zero t = t
mag_at h (suc y) t = (h + t) * 2 ^ y

-- either finite, or an infinity
abbrev pub View : Format → Bool → ℕ → ℕ → Float → Type 0
View f s x t v =
    (HasValue v s (mag_at (hid f) x t) (2 ^ low f) × (x ≡ ones f → ⊥)) ⊎ ((v ≡ inf s) × (x ≡ ones f) × (t ≡ 0))

nan-there : is_nan nan ≡ true
unfolding is_nan
nan-there = refl

view : (f : Format) (s : Bool) (x t : ℕ) → is_nan (of_fields f s x t) ≡ false → View f s x t (of_fields f s x t)
unfolding of_fields
view f s zero t h =
    inl (subst (λ (k : ℕ). HasValue (odd (prec f) s t 0 (low f)) s k (2 ^ low f)) (mul-one t) (odd_sign (prec f) s t 0 (low f)), λ e. omega arith)
view f s (suc y) t h =
    on-flag (eqb (suc y) (ones f))
    (λ e.
    on-flag (eqb t 0)
    (λ z. inr (simp (e, z), eqb-true (suc y) (ones f) e, eqb-true t 0 z))
    (λ z. absurd (true≢false (sym nan-there ∙ simp (e, z) at h))))
    (λ e. inl (rw e (odd_sign (prec f) s (hid f + t) y (low f)), eqb-false (suc y) (ones f) e))

-- ---- the size grows with the pattern
upper : (h x t : ℕ) → t < h → mag_at h x t < h * 2 ^ x
upper h zero t k = omega (arith, mul-one h)
upper h (suc y) t k =
    let more : h + t < h * 2 = omega arith in
    subst (λ (n : ℕ). (h + t) * 2 ^ y < n) (twice h y) (mul-lt-mul_of_pos_right more (pow_pos y))
  where
    twice : (h y : ℕ) → h * 2 * 2 ^ y ≡ h * 2 ^ suc y
    twice h y = mul_assoc h 2 (2 ^ y) ∙ ap (λ (n : ℕ). h * n) (mul_comm 2 (2 ^ y) ∙ sym (pow-suc 2 y))

lower : (h y t : ℕ) → h * 2 ^ y ≤ mag_at h (suc y) t
lower h y t = mul-le-mul_right (2 ^ y) (let more : h ≤ h + t = omega arith in more)

-- by the exponent's field first, then the digits
by_field : (h x t x' t' : ℕ) → t < h → x < x' → mag_at h x t < mag_at h x' t'
by_field h x t zero t' k l = absurd (omega arith)
by_field h x t (suc y) t' k l =
    let down1 : x ≤ y = omega arith in
    lt_of_lt_of_le (upper h x t k) (le_trans (mul-le-mul_left h (pow_mono down1)) (lower h y t'))

by_digits : (h x t t' : ℕ) → t < t' → mag_at h x t < mag_at h x t'
by_digits h zero t t' l = l
by_digits h (suc y) t t' l = mul-lt-mul_of_pos_right (let more : h + t < h + t' = omega arith in more) (pow_pos y)

abbrev mag_r : ℕ → ℕ → ℕ
mag_r h r = mag_at h (r / h) (r % h)

-- the quotients q and q' of the lower and the higher number, by h
fields : (h q t q' t' : ℕ) → t' < h → q * h + t < q' * h + t' → q' ≤ q → (q ≡ q') × (t < t')
fields h q t q' t' k l m = elim (eq-or-lt_of_le m) [
  | inl e ↦ (sym e, omega (arith, ap (λ (n : ℕ). n * h) e))
  | inr n ↦ absurd (omega (arith, mul-le-mul_right h n, suc-mul q' h))
]

grows : (h r r' : ℕ) → 0 < h → r < r' → mag_r h r < mag_r h r'
grows h r r' p l =
    on-order (r / h) (r' / h)
    (λ k. by_field h (r / h) (r % h) (r' / h) (r' % h) (mod-lt r p) k)
    (λ k.
    let q = fields h (r / h) (r % h) (r' / h) (r' % h) (mod-lt r' p) (omega (arith, div-add-mod' r h, div-add-mod' r' h)) k in
    subst (λ (x : ℕ). mag_at h x (r % h) < mag_r h r') (sym q.0) (by_digits h (r' / h) (r % h) (r' % h) q.1))

grows-iff : (h r r' : ℕ) → 0 < h → ltb (mag_r h r) (mag_r h r') ≡ ltb r r'
grows-iff h r r' p = ltb-same r r' (mag_r h r) (mag_r h r') (grows h r r' p) (λ k. back (eq-or-lt_of_le k))
  where
    back : (r' ≡ r) ⊎ (r' < r) → mag_r h r' ≤ mag_r h r
    back (inl q) = le_of_eq (ap (mag_r h) q)
    back (inr l) = le_of_lt (grows h r' r p l)

-- ---- two finite values of one sign
scaled : (X Y A B L D : ℕ) → 0 < L → 0 < D → X * L ≡ A * D → Y * L ≡ B * D → ltb X Y ≡ ltb A B
scaled X Y A B L D l d p q =
    ltb-same A B X Y
    (λ h. lt_of_mul-lt-mul_right L (rw (p, q) (mul-lt-mul_of_pos_right h d)))
    (λ h. le_of_mul-le-mul_right (rw (p, q) (mul-le-mul_right D h)) l)

across : (m u d e A L : ℕ) → m * u * L ≡ A * e → m * u * d * L ≡ A * (e * d)
across m u d e A L h = mul_right_comm (m * u) d L ∙ ap (λ (n : ℕ). n * d) h ∙ mul_assoc A e d

lt-fin : (x y : Float) (s : Bool) (A B L : ℕ) → 0 < L → HasValue x s A L → HasValue y s B L → lt x y ≡ cond s (ltb B A) (ltb A B)
unfolding lt
lt-fin nan y s A B L l v w = absurd v
lt-fin (inf t) y s A B L l v w = absurd v
lt-fin (fin t m e) nan s A B L l v w = absurd w
lt-fin (fin t m e) (inf u) s A B L l v w = absurd w
lt-fin (fin true m e) (fin true n d) true A B L l v w =
    scaled (n * up d * down e) (m * up e * down d) B A L (down d * down e) l (mul-pos (down_pos d) (down_pos e))
    (across n (up d) (down e) (down d) B L w.1)
    (across m (up e) (down d) (down e) A L v.1 ∙ ap (λ (k : ℕ). A * k) (mul_comm (down e) (down d)))
lt-fin (fin false m e) (fin false n d) false A B L l v w =
    scaled (m * up e * down d) (n * up d * down e) A B L (down e * down d) l (mul-pos (down_pos e) (down_pos d))
    (across m (up e) (down d) (down e) A L v.1)
    (across n (up d) (down e) (down d) B L w.1 ∙ ap (λ (k : ℕ). B * k) (mul_comm (down d) (down e)))
lt-fin (fin true m e) (fin t n d) false A B L l v w = absurd (true≢false v.0)
lt-fin (fin false m e) (fin t n d) true A B L l v w = absurd (false≢true v.0)
lt-fin (fin true m e) (fin false n d) true A B L l v w = absurd (false≢true w.0)
lt-fin (fin false m e) (fin true n d) false A B L l v w = absurd (true≢false w.0)

-- ---- a pattern that is no NaN's
hid-pos : (f : Format) → 0 < hid f
hid-pos f = pow_pos (prec f - 1)

pub read : (f : Format) (b : ℕ) → nan_bits f b ≡ false → View f (sign f b) (b % top f / hid f) (b % top f % hid f) (of_bits f b)
read f b h =
    subst (λ (t : ℕ). View f (sign f b) (b % top f / hid f) t (of_bits f b)) (sym (mod-mod_of_dvd (hid f) b (dvd-mul_right (hid f) (suc (ones f)))))
    (subst (λ (v : Float). View f (sign f b) (b % top f / hid f) (b % hid f) v) (sym opened)
    (view f (sign f b) (b % top f / hid f) (b % hid f) (ap is_nan (sym opened) ∙ sym (nan_bits_is f b) ∙ h)))
  where
    opened : of_bits f b ≡ of_fields f (sign f b) (b % top f / hid f) (b % hid f)
    opened = unfold of_bits in refl

-- the lower bits of an infinity's pattern, and of a number's
at_ones : (f : Format) (r : ℕ) → r / hid f ≡ ones f → r % hid f ≡ 0 → r ≡ ones f * hid f
at_ones f r p q =
    sym (div-add-mod' r (hid f)) ∙ ap (λ (k : ℕ). r / hid f * hid f + k) q ∙ add-zero (r / hid f * hid f) ∙ ap (λ (k : ℕ). k * hid f) p

-- a pattern that is no NaN's is at most an infinity's; and a finite one's below it
at_most : (f : Format) (b : ℕ) → nan_bits f b ≡ false → b % top f ≤ ones f * hid f
at_most f b h = ltb-false (ones f * hid f) (b % top f) (sym (nan_bits_above f b) ∙ h)

below-ones : (f : Format) (r : ℕ) → r ≤ ones f * hid f → (r / hid f ≡ ones f → ⊥) → r < ones f * hid f
below-ones f r l n = elim (eq-or-lt_of_le l) [
  | inl e ↦ absurd (n (ap (λ (k : ℕ). k / hid f) e ∙ mul-div_cancel (ones f) (hid-pos f)))
  | inr k ↦ k
]

lt-inf : (x : Float) (s t : Bool) (A L : ℕ) → HasValue x s A L → lt x (inf t) ≡ not t
unfolding lt
lt-inf nan s t A L v = absurd v
lt-inf (inf u) s t A L v = absurd v
lt-inf (fin u m e) s t A L v = refl

inf-lt : (y : Float) (s t : Bool) (B L : ℕ) → HasValue y s B L → lt (inf t) y ≡ t
unfolding lt
inf-lt nan s t B L v = absurd v
inf-lt (inf u) s t B L v = absurd v
inf-lt (fin u m e) s t B L v = refl

inf-inf : (s : Bool) → lt (inf s) (inf s) ≡ false
unfolding lt
inf-inf true = refl
inf-inf false = refl

-- numbers of one sign are in the order of their patterns, turned round for negative ones
pub lt-patterns : (f : Format) (a b : ℕ) (s : Bool) → nan_bits f a ≡ false → nan_bits f b ≡ false → sign f a ≡ s → sign f b ≡ s
    → lt (of_bits f a) (of_bits f b) ≡ cond s (ltb (b % top f) (a % top f)) (ltb (a % top f) (b % top f))
lt-patterns f a b s na nb sa sb =
    go
    (subst (λ (t : Bool). View f t (a % top f / hid f) (a % top f % hid f) (of_bits f a)) sa (read f a na))
    (subst (λ (t : Bool). View f t (b % top f / hid f) (b % top f % hid f) (of_bits f b)) sb (read f b nb))
  where
    ra : ℕ
    ra = a % top f

    rb : ℕ
    rb = b % top f

    less : (s : Bool) → ra < rb → not s ≡ cond s (ltb rb ra) (ltb ra rb)
    less true l = sym (le-ltb rb ra (le_of_lt l))
    less false l = sym (lt-ltb ra rb l)

    more : (s : Bool) → rb < ra → s ≡ cond s (ltb rb ra) (ltb ra rb)
    more true l = sym (lt-ltb rb ra l)
    more false l = sym (le-ltb ra rb (le_of_lt l))

    same : (s : Bool) → ra ≡ rb → false ≡ cond s (ltb rb ra) (ltb ra rb)
    same true l = sym (le-ltb rb ra (le_of_eq l))
    same false l = sym (le-ltb ra rb (le_of_eq (sym l)))

    both : (s : Bool) → cond s (ltb (mag_r (hid f) rb) (mag_r (hid f) ra)) (ltb (mag_r (hid f) ra) (mag_r (hid f) rb)) ≡ cond s (ltb rb ra) (ltb ra rb)
    both true = grows-iff (hid f) rb ra (hid-pos f)
    both false = grows-iff (hid f) ra rb (hid-pos f)

    go : View f s (ra / hid f) (ra % hid f) (of_bits f a) → View f s (rb / hid f) (rb % hid f) (of_bits f b) → lt (of_bits f a) (of_bits f b) ≡ cond s (ltb rb ra) (ltb ra rb)
    go (inl v) (inl w) =
        lt-fin (of_bits f a) (of_bits f b) s (mag_r (hid f) ra) (mag_r (hid f) rb) (2 ^ low f) (pow_pos (low f)) v.0 w.0 ∙ both s
    go (inl v) (inr w) =
        ap (lt (of_bits f a)) w.0
        ∙ lt-inf (of_bits f a) s s (mag_r (hid f) ra) (2 ^ low f) v.0
        ∙ less s (lt_of_lt_of_le (below-ones f ra (at_most f a na) v.1) (le_of_eq (sym (at_ones f rb w.1 w.2))))
    go (inr v) (inl w) =
        ap (λ (z : Float). lt z (of_bits f b)) v.0
        ∙ inf-lt (of_bits f b) s s (mag_r (hid f) rb) (2 ^ low f) w.0
        ∙ more s (lt_of_lt_of_le (below-ones f rb (at_most f b nb) w.1) (le_of_eq (sym (at_ones f ra v.1 v.2))))
    go (inr v) (inr w) =
        ap (λ (z : Float). lt z (of_bits f b)) v.0
        ∙ ap (lt (inf s)) w.0
        ∙ inf-inf s
        ∙ same s (at_ones f ra v.1 v.2 ∙ sym (at_ones f rb w.1 w.2))

-- ---- numbers of two signs
pos-neg : (x y : Float) (A B K L : ℕ) → HasValue x false A K → HasValue y true B L → lt x y ≡ false
unfolding lt
pos-neg nan y A B K L v w = absurd v
pos-neg (inf t) y A B K L v w = absurd v
pos-neg (fin t m e) nan A B K L v w = absurd w
pos-neg (fin t m e) (inf u) A B K L v w = absurd w
pos-neg (fin true m e) (fin u n d) A B K L v w = absurd (true≢false v.0)
pos-neg (fin false m e) (fin false n d) A B K L v w = absurd (false≢true w.0)
pos-neg (fin false m e) (fin true n d) A B K L v w = refl

inf-pos-neg : lt (inf false) (inf true) ≡ false
unfolding lt
inf-pos-neg = refl

-- no positive number is below a negative one
pub lt-signs : (f : Format) (a b : ℕ) → nan_bits f a ≡ false → nan_bits f b ≡ false → sign f a ≡ false → sign f b ≡ true → lt (of_bits f a) (of_bits f b) ≡ false
lt-signs f a b na nb sa sb =
    go
    (subst (λ (t : Bool). View f t (a % top f / hid f) (a % top f % hid f) (of_bits f a)) sa (read f a na))
    (subst (λ (t : Bool). View f t (b % top f / hid f) (b % top f % hid f) (of_bits f b)) sb (read f b nb))
  where
    go : View f false (a % top f / hid f) (a % top f % hid f) (of_bits f a) → View f true (b % top f / hid f) (b % top f % hid f) (of_bits f b) → lt (of_bits f a) (of_bits f b) ≡ false
    go (inl v) (inl w) = pos-neg (of_bits f a) (of_bits f b) _ _ _ _ v.0 w.0
    go (inl v) (inr w) = ap (lt (of_bits f a)) w.0 ∙ lt-inf (of_bits f a) false true _ _ v.0
    go (inr v) (inl w) = ap (λ (z : Float). lt z (of_bits f b)) v.0 ∙ inf-lt (of_bits f b) true false _ _ w.0
    go (inr v) (inr w) = ap (λ (z : Float). lt z (of_bits f b)) v.0 ∙ ap (lt (inf false)) w.0 ∙ inf-pos-neg

-- ---- NaNs of one sign: signaling and payload together are the digits
rest : (h t : ℕ) → h ≤ t → t < h + h → t % h ≡ t - h
rest h t e l = mod-eq-sub-mod e ∙ mod-eq_of_lt (let under : t - h < h = omega arith in under)

lex : (h t t' : ℕ) → t < h + h → t' < h + h → ((not (leb h t) && leb h t') || (beq (leb h t) (leb h t') && leb (t % h) (t' % h))) ≡ leb t t'
lex h t t' p q =
    on-order t h
    (λ a.
    on-order t' h
    (λ b. simp (lt-leb h t a, lt-leb h t' b, mod-eq_of_lt a, mod-eq_of_lt b))
    (λ b. simp (lt-leb h t a, le-leb h t' b) (sym (le-leb t t' (omega arith)))))
    (λ a.
    on-order t' h
    (λ b. simp (le-leb h t a, lt-leb h t' b) (sym (lt-leb t t' (omega arith))))
    (λ b. simp (le-leb h t a, le-leb h t' b, rest h t a p, rest h t' b q) (leb-same t t' (t - h) (t' - h) (λ k. omega arith) (λ k. omega arith))))

halves : (f : Format) → hid f ≡ hid f / 2 + hid f / 2
halves binary32 = refl
halves binary64 = refl

both_true : (a b : Bool) → a && b ≡ true → a ≡ true
both_true true b h = refl
both_true false b h = absurd (false≢true h)

-- the lower bits of a NaN's pattern
nan-bits : (f : Format) (b : ℕ) → nan_bits f b ≡ true → b % top f ≡ ones f * hid f + b % hid f
unfolding nan_bits
nan-bits f b h =
    sym (div-add-mod' (b % top f) (hid f))
    ∙ ap (λ (k : ℕ). k * hid f + b % top f % hid f) (eqb-true (b % top f / hid f) (ones f) (both_true (eqb (b % top f / hid f) (ones f)) (not (eqb (b % hid f) 0)) h))
    ∙ ap (λ (k : ℕ). ones f * hid f + k) (mod-mod_of_dvd (hid f) b (dvd-mul_right (hid f) (suc (ones f))))

shift : (k m n : ℕ) → leb (k + m) (k + n) ≡ leb m n
shift k m n = leb-same m n (k + m) (k + n) (λ h. omega arith) (λ h. omega arith)

nan-le : (f : Format) (a b : ℕ) → nan_bits f a ≡ true → nan_bits f b ≡ true → nan_le f a b ≡ leb (a % top f) (b % top f)
nan-le f a b na nb =
    lex (hid f / 2) (a % hid f) (b % hid f) (subst (λ (k : ℕ). a % hid f < k) (halves f) (mod-lt a (hid-pos f))) (subst (λ (k : ℕ). b % hid f < k) (halves f) (mod-lt b (hid-pos f)))
    ∙ sym (shift (ones f * hid f) (a % hid f) (b % hid f))
    ∙ ap (λ (k : ℕ). leb k (ones f * hid f + b % hid f)) (sym (nan-bits f a na))
    ∙ ap (leb (a % top f)) (sym (nan-bits f b nb))

-- ---- both sides as one: by the signs, then the lower bits
abbrev Target : Bool → Bool → ℕ → ℕ → Bool
Target s t m n = cond s (cond t (leb n m) true) (cond t false (leb m n))

tri : (m n : ℕ) → cond (ltb m n) true (cond (ltb n m) false true) ≡ leb m n
tri m n =
    on-order m n
    (λ a. simp (lt-ltb m n a, le-leb m n (le_of_lt a)))
    (λ a. on-order n m (λ b. simp (le-ltb m n a, lt-ltb n m b, lt-leb m n b)) (λ b. simp (le-ltb m n a, le-ltb n m b, le-leb m n b)))

settle : (p q : Bool) → cond p q q ≡ q
settle true q = refl
settle false q = refl

numbers : (f : Format) (a b : ℕ) (s t : Bool) → nan_bits f a ≡ false → nan_bits f b ≡ false → sign f a ≡ s → sign f b ≡ t → numbers_le f a b ≡ Target s t (a % top f) (b % top f)
numbers f a b true true na nb sa sb =
    simp (lt-patterns f a b true na nb sa sb, lt-patterns f b a true nb na sb sa, sa, sb) (tri (b % top f) (a % top f))
numbers f a b false false na nb sa sb =
    simp (lt-patterns f a b false na nb sa sb, lt-patterns f b a false nb na sb sa, sa, sb) (tri (a % top f) (b % top f))
numbers f a b true false na nb sa sb = simp (lt-signs f b a nb na sb sa, sa, sb) (settle (lt (of_bits f a) (of_bits f b)) true)
numbers f a b false true na nb sa sb = simp (lt-signs f a b na nb sa sb, sa, sb) (settle (lt (of_bits f b) (of_bits f a)) false)

nans : (f : Format) (a b : ℕ) (s t : Bool) → nan_bits f a ≡ true → nan_bits f b ≡ true → sign f a ≡ s → sign f b ≡ t → nans_le f a b ≡ Target s t (a % top f) (b % top f)
nans f a b true true na nb sa sb = simp (sa, sb) (nan-le f b a nb na)
nans f a b false false na nb sa sb = simp (sa, sb) (nan-le f a b na nb)
nans f a b true false na nb sa sb = simp (sa, sb)
nans f a b false true na nb sa sb = simp (sa, sb)

-- a NaN's lower bits are above every number's
above : (f : Format) (a b : ℕ) → nan_bits f a ≡ true → nan_bits f b ≡ false → b % top f < a % top f
above f a b na nb = lt_of_le_of_lt (at_most f b nb) (ltb-true (ones f * hid f) (a % top f) (sym (nan_bits_above f a) ∙ na))

left-nan : (f : Format) (a b : ℕ) (s t : Bool) → nan_bits f a ≡ true → nan_bits f b ≡ false → s ≡ Target s t (a % top f) (b % top f)
left-nan f a b true true na nb = sym (le-leb (b % top f) (a % top f) (le_of_lt (above f a b na nb)))
left-nan f a b true false na nb = refl
left-nan f a b false true na nb = refl
left-nan f a b false false na nb = sym (lt-leb (a % top f) (b % top f) (above f a b na nb))

right-nan : (f : Format) (a b : ℕ) (s t : Bool) → nan_bits f a ≡ false → nan_bits f b ≡ true → not t ≡ Target s t (a % top f) (b % top f)
right-nan f a b true true na nb = sym (lt-leb (b % top f) (a % top f) (above f b a nb na))
right-nan f a b true false na nb = refl
right-nan f a b false true na nb = refl
right-nan f a b false false na nb = sym (le-leb (a % top f) (b % top f) (le_of_lt (above f b a nb na)))

total-target : (f : Format) (a b : ℕ) → total_at f a b ≡ Target (sign f a) (sign f b) (a % top f) (b % top f)
unfolding total_at
total-target f a b =
    on-flag (nan_bits f a)
    (λ na.
    on-flag (nan_bits f b)
    (λ nb. simp (na, nb) (nans f a b (sign f a) (sign f b) na nb refl refl))
    (λ nb. simp (na, nb) (left-nan f a b (sign f a) (sign f b) na nb)))
    (λ na.
    on-flag (nan_bits f b)
    (λ nb. simp (na, nb) (right-nan f a b (sign f a) (sign f b) na nb))
    (λ nb. simp (na, nb) (numbers f a b (sign f a) (sign f b) na nb refl refl)))

top_pos : (f : Format) → 0 < top f
top_pos f = mul-pos (hid-pos f) (zero-lt-suc (ones f))

-- the key, by the sign and the lower bits
lower-bits : (n a : ℕ) → n ≤ a → a < 2 * n → 2 * n - 1 - a ≡ n - 1 - a % n
lower-bits n a k h =
    let e : a % n ≡ a - n = rest n a k (omega arith) in
    rw e (omega arith)

key-is : (f : Format) (a : ℕ) (s : Bool) → a < 2 * top f → sign f a ≡ s → key_at f a ≡ cond s (top f - 1 - a % top f) (a % top f + top f)
unfolding key_at
key-is f a true h e = simp e (lower-bits (top f) a (leb-true (top f) a e) h)
key-is f a false h e = simp e (ap (λ (k : ℕ). k + top f) (sym (mod-eq_of_lt (leb-false (top f) a e))))

key-target : (n : ℕ) (s t : Bool) (p q : ℕ) → p < n → q < n → leb (cond s (n - 1 - p) (p + n)) (cond t (n - 1 - q) (q + n)) ≡ Target s t p q
key-target n true true p q h k = leb-same q p (n - 1 - p) (n - 1 - q) (λ l. omega arith) (λ l. omega arith)
key-target n true false p q h k = le-leb (n - 1 - p) (q + n) (omega arith)
key-target n false true p q h k = lt-leb (p + n) (n - 1 - q) (omega arith)
key-target n false false p q h k = leb-same p q (p + n) (q + n) (λ l. omega arith) (λ l. omega arith)

-- totalOrder is the order of the keys, on every pattern
pub total-key : (f : Format) (a b : ℕ) → a < 2 * top f → b < 2 * top f → leb (key_at f a) (key_at f b) ≡ total_at f a b
total-key f a b h k =
    ap (λ (z : ℕ). leb z (key_at f b)) (key-is f a (sign f a) h refl)
    ∙ ap (leb (cond (sign f a) (top f - 1 - a % top f) (a % top f + top f))) (key-is f b (sign f b) k refl)
    ∙ key-target (top f) (sign f a) (sign f b) (a % top f) (b % top f) (mod-lt a (top_pos f)) (mod-lt b (top_pos f))
    ∙ sym (total-target f a b)
