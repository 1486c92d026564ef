-- One law for elements of any widths that are written one behind the other into lent bytes, each into the part that
-- starts after the one before it.
-- Assumes nothing.
use mathlib.Core.Path.{◌≡◌, refl, sym, ap, ◌∙◌}
use mathlib.Core.List.{List, [], ◌∷◌, ◌++◌, append_assoc, append-nil}
use Prim.Native.Nat.{ℕ, suc, ◌+◌, ◌-◌, ◌*◌, ◌<◌, ◌≤◌, zero-le}
use native.Mathlib.Numerals.{add-one}
use native.Mathlib.Omega.{arith}
use native.Mathlib.Nat.{mul-suc}
use borrow.Rule.Slice.PartMut.{mid_of, put_mid}
use lib.ListN.{length, take, drop, get_or, length-append}
use lib.Seq.{take_all, take-suc, drop-cons}
use Rattle.octets.specs.Octets.{flat, over}
use Rattle.octets.proofs.Fill.{Filled, fill, filled-length, flat_append}

-- the bytes of one element more
pub taken-bytes : {A : Type 0} (f : A → List ℕ) (xs : List A) (i : ℕ) (d : A) → i < length xs
    → flat f (take (suc i) xs) ≡ flat f (take i xs) ++ f (get_or xs i d)
unfolding flat
taken-bytes f xs i d h =
    ap (flat f) (take-suc xs i d h)
    ∙ flat_append f (take i xs) (get_or xs i d ∷ [])
    ∙ ap (λ (z : List ℕ). flat f (take i xs) ++ z) (append-nil (f (get_or xs i d)))

-- of the n elements of xs those before i have been written behind p, and the others fit
pub record Laying {A : Type 0} (f : A → List ℕ) (xs : List A) (n : ℕ) (l₀ p l : List ℕ) (at i : ℕ) : Type 0 where
  pub long : length xs ≡ n
  pub upto : i ≤ n
  pub left : at + length (flat f (drop i xs)) ≤ length l₀
  pub done : Filled l₀ (p ++ flat f (take i xs)) l at

module _ {A : Type 0} {f : A → List ℕ} {xs : List A} {n : ℕ} {l₀ p l : List ℕ} where
  pub laying-start : {at : ℕ} → length xs ≡ n → at + length (flat f xs) ≤ length l₀ → Filled l₀ p l at
      → Laying f xs n l₀ p l at 0
  unfolding flat
  laying-start {at} h k d = record { long = h; upto = zero-le; left = k; done = rw append-nil d }

  pub laying-end : {at i : ℕ} → Laying f xs n l₀ p l at i → n ≤ i → Filled l₀ (p ++ flat f xs) l at
  laying-end {at} {i} s h = let q : take i xs ≡ xs = take_all i xs (omega (arith, s.long)) in rw q at s.done

  pub laying-inside : {at i : ℕ} → Laying f xs n l₀ p l at i → at ≤ length l
  laying-inside s = omega (arith, s.left, filled-length s.done)

  module _ {at i : ℕ} (s : Laying f xs n l₀ p l at i) (h : i < n) (d : A) where
    split : length (flat f (drop i xs)) ≡ length (f (get_or xs i d)) + length (flat f (drop (suc i) xs))
    unfolding flat
    split = rw (drop-cons xs i d (omega (arith, s.long))) (length-append (f (get_or xs i d)) (flat f (drop (suc i) xs)))

    pub laying-room : {k : ℕ} → k ≡ length (f (get_or xs i d)) → at + k ≤ length l
    laying-room {k} b = omega (arith, b, split, s.left, filled-length s.done)

    pub laying-next : {m : List ℕ} {k : ℕ} → k ≡ length (f (get_or xs i d))
        → m ≡ over (f (get_or xs i d)) (mid_of at (length l - at) l)
        → Laying f xs n l₀ p (put_mid at (length l - at) l m) (at + k) (i + 1)
    laying-next {m} {k} b e =
        let r : at + length (f (get_or xs i d)) ≤ length l₀ = omega (arith, split, s.left) in
        let b₁ = f (get_or xs i d) in
        let g : Filled l₀ ((p ++ flat f (take i xs)) ++ b₁) (put_mid at (length l - at) l m) (at + length b₁) =
        fill b₁ s.done r e in
        rw (add-one i)
        (record {
          long = s.long;
          upto = h;
          left = omega (arith, split, s.left);
          done =
              rw (taken-bytes f xs i d (omega (arith, s.long)), sym (append_assoc p (flat f (take i xs)) b₁), b) g;
        })

-- of the n elements of xs those before i have so many bytes, each at most w
pub record Adding {A : Type 0} (f : A → List ℕ) (w : ℕ) (xs : List A) (n sum i : ℕ) : Type 0 where
  pub long : length xs ≡ n
  pub upto : i ≤ n
  pub few : sum ≤ w * i
  pub done : sum ≡ length (flat f (take i xs))

module _ {A : Type 0} {f : A → List ℕ} {w : ℕ} {xs : List A} {n : ℕ} where
  pub adding-start : length xs ≡ n → Adding f w xs n 0 0
  unfolding flat
  adding-start h = record { long = h; upto = zero-le; few = zero-le; done = refl }

  pub adding-end : {sum i : ℕ} → Adding f w xs n sum i → n ≤ i → sum ≡ length (flat f xs)
  adding-end {sum} {i} s h = let q : take i xs ≡ xs = take_all i xs (omega (arith, s.long)) in rw q at s.done

  pub adding-next : {sum i : ℕ} → Adding f w xs n sum i → i < n → (d : A) {k : ℕ} → k ≡ length (f (get_or xs i d)) → k ≤ w
      → Adding f w xs n (sum + k) (i + 1)
  unfolding flat
  adding-next {sum} {i} s h d {k} b g =
      rw (add-one i)
      (record {
        long = s.long;
        upto = h;
        few = omega (arith, mul-suc w i, s.few);
        done =
            (λ j. s.done j + b j)
            ∙ sym (length-append (flat f (take i xs)) (f (get_or xs i d)))
            ∙ ap length (sym (taken-bytes f xs i d (omega (arith, s.long))));
      })
