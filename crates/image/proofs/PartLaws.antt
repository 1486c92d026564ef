-- One law for every part of the image: words that are written behind the words before them, in one piece or element by
-- element.
-- Assumes nothing.
use mathlib.Core.Path.{◌≡◌, refl, sym, ap, ◌∙◌}
use mathlib.Core.List.{List, [], ◌∷◌, ◌++◌}
use mathlib.Core.Bool.{true, false}
use Prim.Native.Nat.{ℕ, ◌+◌, ◌-◌, ◌*◌, ◌<◌, ◌≤◌}
use native.Mathlib.Omega.{arith}
use borrow.Author.Tests.{le-leb, lt-leb}
use borrow.Rule.Slice.PartMut.{mid_of, put_mid}
use lib.Dec.{T, leb, leb→le}
use lib.ListN.{length, drop, get_or}
use Rattle.octets.specs.Octets.{le, flat, over, words_of}
use Rattle.octets.proofs.Fill.{Filled, Filling, le-length, flat-length, flat_append, over-fits, over-not, nothing, fill, filled-over, filling-start, filling-next, filling-end}

pub words-length : (xs : List ℕ) → length (words_of xs) ≡ 8 * length xs
words-length xs = flat-length (le 8) 8 (le-length 8) xs

-- the bytes of the elements' words are the elements' bytes
words-flat : {A : Type 0} (g : A → List ℕ) (xs : List A) → words_of (flat g xs) ≡ flat (λ (x : A). words_of (g x)) xs
unfolding flat
words-flat g [] = refl
words-flat g (x ∷ xs) = flat_append (le 8) (g x) (flat g xs) ∙ ap (λ (z : List ℕ). words_of (g x) ++ z) (words-flat g xs)

-- too few bytes are lent: nothing is written
pub refused : {l : List ℕ} {k : ℕ} (ws : List ℕ) → length ws ≡ k → length l < 8 * k → (false ≡ leb (8 * k) (length l)) × (l ≡ over (words_of ws) l)
refused {l} {k} ws e h =
    let n : length l < length (words_of ws) = omega (arith, words-length ws) in
    (sym (lt-leb (8 * k) (length l) h), sym (over-not (words_of ws) l n))

-- all words are written
pub written : {l₀ l : List ℕ} (ws : List ℕ) {n : ℕ} → Filled l₀ (words_of ws) l n → (true ≡ leb n (length l₀)) × (l ≡ over (words_of ws) l₀)
written {l₀} {l} ws {n} f = (sym (le-leb n (length l₀) f.room), filled-over f)

-- the first words are written over the front; all N bytes are lent
pub first : {l₀ m w : List ℕ} {k N : ℕ} (b : List ℕ) → N ≤ length l₀ → w ≡ b → length b ≡ k → T (leb (8 * k) N)
    → m ≡ over (words_of w) l₀ → Filled l₀ (words_of b) m (8 * k)
first {l₀} {m} {w} {k} {N} b h q e t o =
    let n : length (words_of b) ≡ 8 * k = words-length b ∙ ap (λ (z : ℕ). 8 * z) e in
    let r : 8 * k ≤ length l₀ = omega (arith, leb→le (8 * k) N t) in
    record {
      long = n;
      room = r;
      is =
          o
          ∙ ap (λ (z : List ℕ). over (words_of z) l₀) q
          ∙ over-fits (words_of b) l₀ (omega (arith, n))
          ∙ ap (λ (z : ℕ). words_of b ++ drop z l₀) n;
    }

-- the next words are written behind those before them; all N bytes are lent
pub part : {l₀ l m w : List ℕ} {at k N : ℕ} (ws b : List ℕ) → N ≤ length l₀ → Filled l₀ (words_of ws) l at → w ≡ b → length b ≡ k → T (leb (at + 8 * k) N) → m ≡ over (words_of w) (mid_of at (length l - at) l)
    → Filled l₀ (words_of (ws ++ b)) (put_mid at (length l - at) l m) (at + 8 * k)
part {l₀} {l} {m} {w} {at} {k} {N} ws b h f q e t o =
    let n : at + length (words_of b) ≡ at + 8 * k = omega (arith, words-length b) in
    let r : at + length (words_of b) ≤ length l₀ = omega (arith, leb→le (at + 8 * k) N t) in
    let o₂ : m ≡ over (words_of b) (mid_of at (length l - at) l) = o ∙ ap (λ (z : List ℕ). over (words_of z) (mid_of at (length l - at) l)) q in
    rw (flat_append (le 8) ws b, sym n) (fill (words_of b) f r o₂)

-- of the n elements of xs, w bytes each, those before i have been written
pub record Putting {A : Type 0} (g : A → List ℕ) (w : ℕ) (xs : List A) (n : ℕ) (l₀ l : List ℕ) (at i : ℕ) : Type 0 where
  pub held : Filling (λ (x : A). words_of (g x)) w xs n l₀ [] l at i

pub putting-start : {A : Type 0} {g : A → List ℕ} {w : ℕ} {xs : List A} {n : ℕ} {l₀ : List ℕ} → ((x : A) → 8 * length (g x) ≡ w) → length xs ≡ n → w * n ≤ length l₀ → Putting g w xs n l₀ l₀ 0 0
putting-start {A} {g} {w} {xs} {n} {l₀} each h k =
    let wide : (x : A) → length (words_of (g x)) ≡ w = λ x. words-length (g x) ∙ each x in
    let k₂ : 0 + w * n ≤ length l₀ = omega arith in
    record { held = filling-start wide h k₂ (nothing l₀) }

module _ {A : Type 0} {g : A → List ℕ} {w : ℕ} {xs : List A} {n : ℕ} {l₀ l : List ℕ} where
  pub putting-next : {at i : ℕ} → Putting g w xs n l₀ l at i → i < n → (d : A) {m ws : List ℕ} → ws ≡ g (get_or xs i d) → m ≡ over (words_of ws) (mid_of at (length l - at) l)
      → Putting g w xs n l₀ (put_mid at (length l - at) l m) (at + w) (i + 1)
  putting-next {at} {i} p h d {m} {ws} q o =
      record { held = filling-next p.held h d (o ∙ ap (λ (z : List ℕ). over (words_of z) (mid_of at (length l - at) l)) q) }

  pub putting-end : {at i : ℕ} → Putting g w xs n l₀ l at i → n ≤ i → (true ≡ leb (w * n) (length l₀)) × (l ≡ over (words_of (flat g xs)) l₀)
  putting-end {at} {i} p h =
      let f : Filled l₀ (flat (λ (x : A). words_of (g x)) xs) l at = filling-end p.held h in
      let k : length (flat (λ (x : A). words_of (g x)) xs) ≡ w * n = flat-length (λ (x : A). words_of (g x)) w p.held.each xs ∙ ap (λ (z : ℕ). w * z) p.held.long in
      (sym (le-leb (w * n) (length l₀) (omega (arith, f.long, f.room))), filled-over f ∙ ap (λ (z : List ℕ). over z l₀) (sym (words-flat g xs)))

-- elements, w bytes each, do not fit
pub refused_all : {A : Type 0} {l : List ℕ} (g : A → List ℕ) (xs : List A) (n : ℕ) {w : ℕ} → ((x : A) → 8 * length (g x) ≡ w) → length xs ≡ n → length l < w * n
    → (false ≡ leb (w * n) (length l)) × (l ≡ over (words_of (flat g xs)) l)
refused_all {A} {l} g xs n {w} each h k =
    let wide : (x : A) → length (words_of (g x)) ≡ w = λ x. words-length (g x) ∙ each x in
    let e : length (flat (λ (x : A). words_of (g x)) xs) ≡ w * n = flat-length (λ (x : A). words_of (g x)) w wide xs ∙ ap (λ (z : ℕ). w * z) h in
    let q : length (words_of (flat g xs)) ≡ w * n = ap length (words-flat g xs) ∙ e in
    (sym (lt-leb (w * n) (length l) k), sym (over-not (words_of (flat g xs)) l (omega (arith, q))))
