-- Samples two to a row, with their marks the bits of a word: read, and stored one by one.
-- Assumes nothing.
use Prim.Native.Nat.{ℕ, zero, suc, ◌+◌, ◌*◌, ◌/◌, ◌%◌, ◌<◌}
use mathlib.Core.Path.{◌≡◌, refl, ap, sym, ◌∙◌}
use mathlib.Core.Bool.{Bool, true, false}
use mathlib.Core.List.{List, [], ◌∷◌}
use native.Mathlib.Omega.{arith}
use lib.Dec.{eqb}
use lib.ListN.{length, get_or, set}
use Rattle.base.specs.Seq.{flag_of}
use Rattle.base.proofs.Cases.{flag_small, flag-bit}
use Rattle.rtt.specs.Samples.{no_sample}
use Rattle.rtt.specs.declared.types.Sample.{Sample}
use Rattle.cells.specs.Cells.{with_half, odd_in, bit_in, with_bit, sample_in, samples_from}
use Rattle.cells.specs.Code.{sample_rows, sample_bits}
use Rattle.cells.proofs.BitLaws.{bit-zero, bit-suc, with-zero, with-suc}

-- the second of a row's two
abbrev pub is_last : ℕ → Bool
is_last i = eqb (i % 2) 1

-- a sample stored at its place in the rows
abbrev pub put_sample : List (List ℕ) → ℕ → Sample → List (List ℕ)
put_sample l i s = set l (i / 2) (with_half (get_or l (i / 2) []) (is_last i) s.at s.rtt)

-- the row and the half of a place two further on
next_row : (i : ℕ) → suc (suc i) / 2 ≡ suc (i / 2)
next_row i = omega arith

next-half : (i : ℕ) → suc (suc i) % 2 ≡ i % 2
next-half i = omega arith

next-put : (r : List ℕ) (l : List (List ℕ)) (i : ℕ) (s : Sample) → put_sample (r ∷ l) (suc (suc i)) s ≡ r ∷ put_sample l i s
next-put r l i s =
    λ j. set (r ∷ l) (next_row i j) (with_half (get_or (r ∷ l) (next_row i j) []) (eqb (next-half i j) 1) s.at s.rtt)

-- the bit of a place two further on
bit-next : (m i : ℕ) → bit_in m (suc (suc i)) ≡ bit_in (m / 4) i
bit-next m i =
    let e : m / 2 / 2 ≡ m / 4 = omega arith in
    bit-suc m (suc i) ∙ bit-suc (m / 2) i ∙ ap (λ (x : ℕ). bit_in x i) e

-- what a place says
pub samples-at : (m : ℕ) (l : List (List ℕ)) (i : ℕ) → i < 2 * length l
    → get_or (samples_from m l) i no_sample ≡ sample_in (get_or l (i / 2) []) (is_last i) (bit_in m i)
samples-at m [] i h = absurd (omega arith)
samples-at m (r ∷ l) zero h = λ j. sample_in r false (sym (bit-zero m) j)
samples-at m (r ∷ l) (suc zero) h = λ j. sample_in r true (sym (bit-suc m 0 ∙ bit-zero (m / 2)) j)
samples-at m (r ∷ l) (suc (suc i)) h =
    samples-at (m / 4) l i (omega arith)
    ∙ (λ j. sample_in (get_or (r ∷ l) (sym (next_row i) j) []) (eqb (sym (next-half i) j) 1) (sym (bit-next m i) j))

-- as many as two to a row
pub samples-count : (m : ℕ) (l : List (List ℕ)) → length (samples_from m l) ≡ 2 * length l
samples-count m [] = refl
samples-count m (r ∷ l) = omega (arith, samples-count (m / 4) l)

-- words whose two lowest bits are a and b, and the rest of them
record Lows (w a b r : ℕ) : Type 0 where
  pub first : w % 2 ≡ a
  pub second : w / 2 % 2 ≡ b
  pub rest : w / 4 ≡ r

-- the lowest bit anew
lows-zero : (m : ℕ) (on : Bool) (w f : ℕ) → w ≡ m / 2 * 2 + f → f ≡ flag_of on → f < 2 → Lows w f (m / 2 % 2) (m / 4)
lows-zero m on w f e g h = record { first = omega arith; second = omega arith; rest = omega arith }

-- the next one
lows-one : (m w v f : ℕ) → w ≡ m % 2 + v * 2 → v ≡ m / 2 / 2 * 2 + f → f < 2 → Lows w (m % 2) f (m / 4)
lows-one m w v f e g h = record { first = omega arith; second = omega arith; rest = omega arith }

-- one above these
lows-more : (m w v r : ℕ) → w ≡ m % 2 + v * 2 → v ≡ m / 2 % 2 + r * 2 → Lows w (m % 2) (m / 2 % 2) r
lows-more m w v r e g = record { first = omega arith; second = omega arith; rest = omega arith }

-- one stored, with its mark
pub samples-set : (m : ℕ) (l : List (List ℕ)) (i : ℕ) (s : Sample) → i < 2 * length l
    → samples_from (with_bit m i s.used) (put_sample l i s) ≡ set (samples_from m l) i s
samples-set m [] i s h = absurd (omega arith)
samples-set m (r ∷ l) zero s h =
    let w = lows-zero m s.used _ _ (with-zero m s.used) refl (flag_small s.used) in
    λ j. record { at = s.at; rtt = s.rtt; used = flag-bit s.used _ w.first j }
    ∷ sample_in r true (eqb (w.second j) 1) ∷ samples_from (w.rest j) l
samples-set m (r ∷ l) (suc zero) s h =
    let w = lows-one m _ _ _ (with-suc m 0 s.used) (with-zero (m / 2) s.used) (flag_small s.used) in
    λ j. sample_in r false (eqb (w.first j) 1)
    ∷ record { at = s.at; rtt = s.rtt; used = flag-bit s.used _ w.second j } ∷ samples_from (w.rest j) l
samples-set m (r ∷ l) (suc (suc i)) s h =
    let w = lows-more m _ _ _ (with-suc m (suc i) s.used) (with-suc (m / 2) i s.used) in
    let e : m / 2 / 2 ≡ m / 4 = omega arith in
    ap (samples_from (with_bit m (suc (suc i)) s.used)) (next-put r l i s)
    ∙ (λ j. sample_in r false (eqb (w.first j) 1) ∷ sample_in r true (eqb (w.second j) 1) ∷ samples_from (w.rest j) (put_sample l i s))
    ∙ (λ j. sample_in r false (odd_in m) ∷ sample_in r true (odd_in (m / 2)) ∷ samples_from (with_bit (e j) i s.used) (put_sample l i s))
    ∙ ap (λ (x : List Sample). sample_in r false (odd_in m) ∷ sample_in r true (odd_in (m / 2)) ∷ x)
    (samples-set (m / 4) l i s (omega arith))

-- in the encoder's rows that makes the encoder's
pub rows-set : (l : List Sample) (i : ℕ) (s : Sample) → i < length l → put_sample (sample_rows l) i s ≡ sample_rows (set l i s)
rows-set [] i s h = absurd (omega arith)
rows-set (t ∷ []) zero s h = refl
rows-set (t ∷ []) (suc i) s h = absurd (omega arith)
rows-set (t ∷ u ∷ l) zero s h = refl
rows-set (t ∷ u ∷ l) (suc zero) s h = refl
rows-set (t ∷ u ∷ l) (suc (suc i)) s h =
    next-put (t.at ∷ t.rtt ∷ u.at ∷ u.rtt ∷ []) (sample_rows l) i s
    ∙ ap (λ (x : List (List ℕ)). (t.at ∷ t.rtt ∷ u.at ∷ u.rtt ∷ []) ∷ x) (rows-set l i s (omega arith))

-- and in their word the encoder's
pub bits-set : (l : List Sample) (i : ℕ) (s : Sample) → i < length l
    → with_bit (sample_bits l) i s.used ≡ sample_bits (set l i s)
bits-set [] i s h = absurd (omega arith)
bits-set (t ∷ l) zero s h =
    omega (arith, with-zero (sample_bits (t ∷ l)) s.used, flag_small t.used)
bits-set (t ∷ l) (suc i) s h =
    let a : sample_bits (t ∷ l) / 2 ≡ sample_bits l = omega (arith, flag_small t.used) in
    let b : sample_bits (t ∷ l) % 2 ≡ flag_of t.used = omega (arith, flag_small t.used) in
    with-suc (sample_bits (t ∷ l)) i s.used
    ∙ (λ j. b j + with_bit (a j) i s.used * 2)
    ∙ omega (arith, bits-set l i s (omega arith))

-- half as many rows as samples
pub rows-count : (l : List Sample) → length (sample_rows l) ≡ (length l + 1) / 2
rows-count [] = refl
rows-count (t ∷ []) = refl
rows-count (t ∷ u ∷ l) = omega (arith, rows-count l)
