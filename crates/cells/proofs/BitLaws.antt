-- Bits of a word by induction on their place; and a word with one of them anew.
-- Assumes nothing.
use Prim.Native.Nat.{ℕ, suc, ◌+◌, ◌*◌, ◌-◌, ◌/◌, ◌%◌, ◌<◌, ◌^◌}
use mathlib.Core.Path.{◌≡◌, ap, sym, ◌∙◌, subst}
use mathlib.Core.Bool.{Bool}
use native.Mathlib.Omega.{arith}
use native.Mathlib.Nat.{pow-suc, mul_assoc, one-mul, mod-lt}
use native.Mathlib.Numerals.{one-add}
use lib.Arith.{mod-mul, digits_lt}
use lib.Pow.{pow_pos, pow-add, shr-shr, shr_lt, shl_exact}
use Rattle.base.specs.Seq.{flag_of}
use Rattle.base.proofs.Cases.{flag_small}
use Rattle.cells.specs.Cells.{odd_in, bit_in, with_bit}

-- the lowest bit
pub bit-zero : (m : ℕ) → bit_in m 0 ≡ odd_in m
unfolding bit_in
bit-zero m =
    let e : m / 2 ^ 0 ≡ m = omega arith in
    ap odd_in e

-- a bit above it
pub bit-suc : (m i : ℕ) → bit_in m (suc i) ≡ bit_in (m / 2) i
unfolding bit_in
bit-suc m i = ap (λ (k : ℕ). odd_in (m / 2 ^ k)) (sym (one-add i)) ∙ ap odd_in (sym (shr-shr m 1 i))

-- the lowest bit anew
pub with-zero : (m : ℕ) (on : Bool) → with_bit m 0 on ≡ m / 2 * 2 + flag_of on
unfolding with_bit
with-zero m on = omega arith

-- and a bit above it
pub with-suc : (m i : ℕ) (on : Bool) → with_bit m (suc i) on ≡ m % 2 + with_bit (m / 2) i on * 2
unfolding with_bit
with-suc m i on =
    let x : ℕ = m / 2 / 2 ^ i / 2 * 2 + flag_of on in
    let a : m / 2 ^ suc i ≡ m / 2 / 2 ^ i = ap (λ (k : ℕ). m / 2 ^ k) (sym (one-add i)) ∙ sym (shr-shr m 1 i) in
    let b : m % 2 ^ suc i ≡ m / 2 % 2 ^ i * 2 + m % 2 =
    ap (λ (k : ℕ). m % k) (pow-suc 2 i) ∙ mod-mul m (pow_pos i) (omega arith) in
    let d : x * 2 ^ suc i ≡ x * 2 ^ i * 2 = ap (λ (k : ℕ). x * k) (pow-suc 2 i) ∙ sym (mul_assoc x (2 ^ i) 2) in
    (λ j. (a j / 2 * 2 + flag_of on) * 2 ^ suc i + m % 2 ^ suc i) ∙ omega (arith, b, d)

-- with a bit anew a word is as wide as it was
pub bit-fits : (m i : ℕ) (on : Bool) → m < 2 ^ 64 → i < 64
    → ((m / 2 ^ i / 2 * 2 + flag_of on) * 2 ^ i % 2 ^ 64 ≡ (m / 2 ^ i / 2 * 2 + flag_of on) * 2 ^ i)
    × ((m / 2 ^ i / 2 * 2 + flag_of on) * 2 ^ i + m % 2 ^ i < 2 ^ 64)
bit-fits m i on h k =
    let j : ℕ = 63 - i in
    let s : suc j + i ≡ 64 = omega arith in
    let a : m / 2 ^ i < 2 ^ suc j = shr_lt (suc j) i (subst (λ (e : ℕ). m < 2 ^ e) (sym s) h) in
    let b : 2 ^ suc j ≡ 2 ^ j * 2 = pow-suc 2 j in
    let c : m / 2 ^ i / 2 * 2 + flag_of on < 2 ^ suc j = omega (arith, a, b, flag_small on) in (
      shl_exact (suc j) i 64 c (omega arith),
      subst (λ (e : ℕ). (m / 2 ^ i / 2 * 2 + flag_of on) * 2 ^ i + m % 2 ^ i < e)
          (sym (pow-add 2 (suc j) i) ∙ ap (λ (e : ℕ). 2 ^ e) s)
          (digits_lt c (mod-lt m (pow_pos i))),
    )

-- a bit by itself
pub one_shl : (i : ℕ) → i < 64 → 1 * 2 ^ i % 2 ^ 64 ≡ 2 ^ i
one_shl i h = shl_exact 1 i 64 (omega arith) (omega arith) ∙ one-mul (2 ^ i)

-- the same as the code has it, f the flag's number
pub bit-made : (m i : ℕ) (on : Bool) {f : ℕ} → f ≡ flag_of on → m < 2 ^ 64 → i < 64
    → ((m / 2 ^ i / 2 * 2 + f) * 2 ^ i % 2 ^ 64 + m % (1 * 2 ^ i % 2 ^ 64) < 2 ^ 64)
    × ((m / 2 ^ i / 2 * 2 + f) * 2 ^ i % 2 ^ 64 + m % (1 * 2 ^ i % 2 ^ 64) ≡ with_bit m i on)
unfolding with_bit
bit-made m i on {f} e h k =
    let w = bit-fits m i on h k in
    let a : (m / 2 ^ i / 2 * 2 + f) * 2 ^ i % 2 ^ 64 + m % (1 * 2 ^ i % 2 ^ 64) ≡ (m / 2 ^ i / 2 * 2 + flag_of on) * 2 ^ i + m % 2 ^ i =
    (λ j. (m / 2 ^ i / 2 * 2 + e j) * 2 ^ i % 2 ^ 64 + m % (one_shl i k j)) ∙ (λ j. w.0 j + m % 2 ^ i) in
    (subst (λ (x : ℕ). x < 2 ^ 64) (sym a) w.1, a)
