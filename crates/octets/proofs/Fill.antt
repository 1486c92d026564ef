-- One law for every field and place: bytes that are written into the tail of lent ones, after the bytes before them.
-- Assumes nothing.
use mathlib.Core.Path.{◌≡◌, refl, sym, ap, ◌∙◌}
use mathlib.Core.List.{List, [], ◌∷◌, ◌++◌, append_assoc, append-nil}
use Prim.Native.Nat.{ℕ, zero, suc, ◌+◌, ◌-◌, ◌*◌, ◌/◌, ◌<◌, ◌≤◌, zero-le}
use native.Mathlib.Nat.{le_of_eq, mul-suc}
use native.Mathlib.Numerals.{add-one}
use native.Mathlib.Omega.{arith}
use borrow.Author.Tests.{le-leb, lt-leb}
use borrow.Rule.Slice.PartMut.{mid_of, post_of, put_mid}
use lib.ListN.{length, take, drop, length-append, length-drop, drop_of_length-le, get_or}
use lib.Seq.{take_all, take_at, take-suc, drop_at, drop-drop}
use Rattle.octets.specs.Octets.{le, flat, over}

pub le-length : (w x : ℕ) → length (le w x) ≡ w
unfolding le
le-length zero x = refl
le-length (suc w) x = ap suc (le-length w (x / 256))

-- elements of w bytes each
pub flat-length : {A : Type 0} (f : A → List ℕ) (w : ℕ) → ((x : A) → length (f x) ≡ w) → (xs : List A) → length (flat f xs) ≡ w * length xs
unfolding flat
flat-length f w h [] = omega arith
flat-length f w h (x ∷ xs) = length-append (f x) (flat f xs) ∙ omega (arith, h x, flat-length f w h xs, mul-suc w (length xs))

pub flat_append : {A : Type 0} (f : A → List ℕ) (a b : List A) → flat f (a ++ b) ≡ flat f a ++ flat f b
unfolding flat
flat_append f [] b = refl
flat_append f (x ∷ a) b = ap (λ (r : List ℕ). f x ++ r) (flat_append f a b) ∙ sym (append_assoc (f x) (flat f a) (flat f b))

pub over-fits : (b l : List ℕ) → length b ≤ length l → over b l ≡ b ++ drop (length b) l
unfolding over
over-fits b l h = rw (le-leb (length b) (length l) h)

pub over-not : (b l : List ℕ) → length l < length b → over b l ≡ l
unfolding over
over-not b l h = rw (lt-leb (length b) (length l) h)

-- l is p, the bytes so far, over the first bytes of l₀
pub record Filled (l₀ p l : List ℕ) (at : ℕ) : Type 0 where
  pub long : length p ≡ at
  pub room : at ≤ length l₀
  pub is : l ≡ p ++ drop at l₀

pub nothing : (l : List ℕ) → Filled l [] l 0
nothing l = record { long = refl; room = zero-le; is = refl }

-- what is filled is as long as it was
pub filled-length : {l₀ p l : List ℕ} {at : ℕ} → Filled l₀ p l at → length l ≡ length l₀
filled-length {l₀} {p} {l} {at} f =
    let a : length l ≡ length p + length (drop at l₀) = ap (λ (z : List ℕ). length z) f.is ∙ length-append p (drop at l₀) in
    let b : length (drop at l₀) ≡ length l₀ - at = length-drop at l₀ in
    let c : length p ≡ at = f.long in
    let d : at ≤ length l₀ = f.room in
    omega arith

-- all that was to be written is there
pub filled-over : {l₀ p l : List ℕ} {at : ℕ} → Filled l₀ p l at → l ≡ over p l₀
filled-over {l₀} {p} {l} {at} f =
    let c : length p ≡ at = f.long in
    let d : at ≤ length l₀ = f.room in
    f.is ∙ ap (λ (n : ℕ). p ++ drop n l₀) (sym c) ∙ sym (over-fits p l₀ (omega arith))

module _ {l₀ p l m : List ℕ} {at : ℕ} (b : List ℕ) (f : Filled l₀ p l at) (h : at + length b ≤ length l₀) (e : m ≡ over b (mid_of at (length l - at) l)) where
  rest : drop at l ≡ drop at l₀
  rest = ap (drop at) f.is ∙ drop_at p (drop at l₀) at f.long

  mid : mid_of at (length l - at) l ≡ drop at l₀
  mid = take_all (length l - at) (drop at l) (le_of_eq (length-drop at l)) ∙ rest

  post : post_of at (length l - at) l ≡ []
  post = drop_of_length-le (drop at l) (le_of_eq (length-drop at l))

  wrote : m ≡ b ++ drop (at + length b) l₀
  wrote =
      let k : length (drop at l₀) ≡ length l₀ - at = length-drop at l₀ in
      e ∙ ap (over b) mid ∙ over-fits b (drop at l₀) (omega arith) ∙ ap (λ (z : List ℕ). b ++ z) (drop-drop (length b) at l₀)

  pub fill : Filled l₀ (p ++ b) (put_mid at (length l - at) l m) (at + length b)
  fill = record {
    long = length-append p b ∙ ap (λ (n : ℕ). n + length b) f.long;
    room = h;
    is =
        ap (λ (z : List ℕ). take at l ++ (m ++ z)) post
        ∙ ap (λ (z : List ℕ). take at l ++ z) (append-nil m ∙ wrote)
        ∙ ap (λ (z : List ℕ). z ++ (b ++ drop (at + length b) l₀)) (ap (take at) f.is ∙ take_at p (drop at l₀) at f.long)
        ∙ sym (append_assoc p b (drop (at + length b) l₀));
  }

-- of the n elements of xs those before i have been written behind p, each by w bytes
pub record Filling {A : Type 0} (f : A → List ℕ) (w : ℕ) (xs : List A) (n : ℕ) (l₀ p l : List ℕ) (at i : ℕ) : Type 0 where
  pub each : (x : A) → length (f x) ≡ w
  pub long : length xs ≡ n
  pub upto : i ≤ n
  pub left : at + w * (n - i) ≤ length l₀
  pub done : Filled l₀ (p ++ flat f (take i xs)) l at

module _ {A : Type 0} {f : A → List ℕ} {w : ℕ} {xs : List A} {n : ℕ} {l₀ p l : List ℕ} where
  pub filling-start : {at : ℕ} → ((x : A) → length (f x) ≡ w) → length xs ≡ n → at + w * n ≤ length l₀ → Filled l₀ p l at → Filling f w xs n l₀ p l at 0
  unfolding flat
  filling-start {at} e h k d =
      let z : n - 0 ≡ n = omega arith in
      record { each = e; long = h; upto = zero-le; left = rw z k; done = rw append-nil d }

  pub filling-end : {at i : ℕ} → Filling f w xs n l₀ p l at i → n ≤ i → Filled l₀ (p ++ flat f xs) l at
  filling-end {at} {i} s h = let q : take i xs ≡ xs = take_all i xs (omega arith) in rw q at s.done

  module _ {at i : ℕ} (s : Filling f w xs n l₀ p l at i) (h : i < n) where
    split : w * (n - i) ≡ w + w * (n - (i + 1))
    split = let e : n - i ≡ suc (n - (i + 1)) = omega arith in rw e (omega (arith, mul-suc w (n - (i + 1))))

    pub filling-room : at + w ≤ length l
    filling-room = omega (arith, split, s.left, filled-length s.done)

    pub filling-next : (d : A) {m : List ℕ} → m ≡ over (f (get_or xs i d)) (mid_of at (length l - at) l) → Filling f w xs n l₀ p (put_mid at (length l - at) l m) (at + w) (i + 1)
    unfolding flat
    filling-next d {m} e =
        let k : i < length xs = omega (arith, s.long) in
        let b : length (f (get_or xs i d)) ≡ w = s.each (get_or xs i d) in
        let r : at + length (f (get_or xs i d)) ≤ length l₀ = omega (arith, split, s.left) in
        let t : take (i + 1) xs ≡ take i xs ++ (get_or xs i d ∷ []) = rw (add-one, take-suc xs i d k) in
        let v : flat f (take (i + 1) xs) ≡ flat f (take i xs) ++ f (get_or xs i d) = ap (flat f) t ∙ flat_append f (take i xs) (get_or xs i d ∷ []) ∙ ap (λ (z : List ℕ). flat f (take i xs) ++ z) (one (get_or xs i d)) in
        let g : Filled l₀ ((p ++ flat f (take i xs)) ++ f (get_or xs i d)) (put_mid at (length l - at) l m) (at + length (f (get_or xs i d))) = fill (f (get_or xs i d)) s.done r e in
        record {
          each = s.each;
          long = s.long;
          upto = omega arith;
          left = omega (arith, split, s.left);
          done = rw (v, sym (append_assoc p (flat f (take i xs)) (f (get_or xs i d))), sym b) g;
        }
      where
        one : (x : A) → flat f (x ∷ []) ≡ f x
        one x = append-nil (f x)
