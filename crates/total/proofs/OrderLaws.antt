-- The order on values against totalOrder of the patterns (IEEE 754-2019, 5.10): one and the same where no pattern is a
-- NaN's, and with the NaN taken for the positive quiet one with no payload.
-- Assumes nothing.
use mathlib.Core.Path.{◌≡◌, refl, sym, ap, ◌∙◌}
use mathlib.Core.Logic.{◌⊎◌, inl, inr}
use mathlib.Core.Bool.{Bool, true, false}
use Prim.Native.Nat.{ℕ, ◌+◌, ◌*◌, ◌/◌, ◌%◌}
use lib.Ieee.{Float, nan, inf, fin, Format, binary32, binary64, hid, ones, top, of_bits, nan_bits}
use lib.Ieee.Exact.{HasValue}
use lib.Ieee.Bits.{nan_bits_is}
use Rattle.total.specs.Total.{sign, total_at}
use Rattle.total.specs.Values.{negative, total_of}
use Rattle.total.proofs.KeyLaws.{View, read}

-- the pattern of the positive quiet NaN with no payload
abbrev pub quiet_nan : Format → ℕ
quiet_nan f = ones f * hid f + hid f / 2

-- a number's pattern, or that one
abbrev pub Told : Format → ℕ → Type 0
Told f b = (nan_bits f b ≡ false) ⊎ (b ≡ quiet_nan f)

-- a number's sign is its pattern's
value-sign : (x : Float) (s : Bool) (a l : ℕ) → HasValue x s a l → negative x ≡ s
unfolding negative
value-sign nan s a l v = absurd v
value-sign (inf t) s a l v = absurd v
value-sign (fin t m e) s a l v = v.0

view-sign : (f : Format) (s : Bool) (x t : ℕ) (v : Float) → View f s x t v → negative v ≡ s
unfolding negative
view-sign f s x t v (inl w) = value-sign v s _ _ w.0
view-sign f s x t v (inr w) = ap negative w.0

pub negative-sign : (f : Format) (b : ℕ) → nan_bits f b ≡ false → negative (of_bits f b) ≡ sign f b
negative-sign f b h = view-sign f (sign f b) (b % top f / hid f) (b % top f % hid f) (of_bits f b) (read f b h)

nan-there : (f : Format) → nan_bits f (quiet_nan f) ≡ true
unfolding nan_bits
nan-there binary32 = refl
nan-there binary64 = refl

nan-plus : (f : Format) → sign f (quiet_nan f) ≡ false
nan-plus binary32 = refl
nan-plus binary64 = refl

nan-itself : (f : Format) → total_at f (quiet_nan f) (quiet_nan f) ≡ true
unfolding total_at nan_bits
nan-itself binary32 = refl
nan-itself binary64 = refl

last-itself : (f : Format) → total_of (of_bits f (quiet_nan f)) (of_bits f (quiet_nan f)) ≡ true
unfolding total_of
last-itself f = simp (← nan_bits_is f (quiet_nan f), nan-there f)

-- the order on values is totalOrder of the patterns
pub total-patterns : (f : Format) (a b : ℕ) → Told f a → Told f b → total_of (of_bits f a) (of_bits f b) ≡ total_at f a b
unfolding total_of total_at
total-patterns f a b (inl m) (inl n) =
    simp (← nan_bits_is f a, ← nan_bits_is f b, m, n, negative-sign f a m, negative-sign f b n)
total-patterns f a b (inl m) (inr e) = rw e (simp (← nan_bits_is f (quiet_nan f), nan-there f, m, nan-plus f))
total-patterns f a b (inr e) (inl n) = rw e (simp (← nan_bits_is f (quiet_nan f), ← nan_bits_is f b, nan-there f, n, nan-plus f))
total-patterns f a b (inr e) (inr g) = rw (e, g) (last-itself f ∙ sym (nan-itself f))

-- off NaN: on every two patterns of numbers
pub total-numbers : (f : Format) (a b : ℕ) → nan_bits f a ≡ false → nan_bits f b ≡ false → total_of (of_bits f a) (of_bits f b) ≡ total_at f a b
total-numbers f a b m n = total-patterns f a b (inl m) (inl n)
