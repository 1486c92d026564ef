-- What one pass over an array asks, at any element type and any length: a map, a fold over the elements that pass a
-- test; and what the functions of specs/Seq.antt say of each place by its index.
-- Assumes nothing.
use Rattle.std.proofs.Common.{◌≡◌, ℕ, zero, suc, ◌+◌, ◌<◌, ◌≤◌, Bool, true, false, not, List, [], ◌∷◌, ◌++◌, map, length, get_or, take, drop, set, sym, refl, ap, ◌∙◌, append-nil, add-one, arith, length-append, drop_of_length-le, length-take-le, take_all, drop-cons, take-suc}
use mathlib.Core.List.{foldl, foldl-append}
use lib.ListN.{length-map}
use lib.Seq.{set_at, set_split, append_snoc}
use Rattle.std.specs.List.{list_all, filter}
use Rattle.base.specs.Seq.{position}
use Rattle.base.specs.Marked.{last_position}
use Rattle.base.proofs.Cases.{on-flag}
use Rattle.base.proofs.SeqLaws.{keep_append}

-- ---- each element of a list is replaced by what f makes of it

-- of the first i elements of l, a list of n, out has what f makes of them, and the others as they were
pub record Mapping {A : Type 0} (f : A → A) (l : List A) (n : ℕ) (out : List A) (i : ℕ) : Type 0 where
  pub long : length l ≡ n
  pub upto : i ≤ n
  pub done : out ≡ map f (take i l) ++ drop i l

pub map-append : {A B : Type 0} (f : A → B) (a b : List A) → map f (a ++ b) ≡ map f a ++ map f b
map-append f [] b = refl
map-append f (x ∷ a) b = rw (map-append f a b)

module _ {A : Type 0} {f : A → A} {l : List A} {n : ℕ} {out : List A} where
  pub mapping-start : length l ≡ n → out ≡ l → Mapping f l n out 0
  mapping-start h e = record { long = h; upto = omega arith; done = e }

  pub mapping-next : {i : ℕ} {v : A} (d : A) → Mapping f l n out i → i < n → v ≡ f (get_or l i d)
      → Mapping f l n (set out i v) (i + 1)
  mapping-next {i} {v} d s h e =
      let k : i < length l = omega arith in
      let m : length (map f (take i l)) ≡ i = rw (length-map, length-take-le i l (omega arith)) in
      let q : map f (take (suc i) l) ≡ map f (take i l) ++ (f (get_or l i d) ∷ []) = rw (take-suc l i d, map-append) in
      rw add-one
      (record {
        long = s.long;
        upto = h;
        done =
            rw (s.done, drop-cons l i d, q, e)
            (set_at (map f (take i l)) (get_or l i d) (drop (suc i) l) (f (get_or l i d)) i m
            ∙ sym (append_snoc (map f (take i l)) (f (get_or l i d)) (drop (suc i) l)));
      })

  pub mapping-end : {i : ℕ} → Mapping f l n out i → n ≤ i → out ≡ map f l
  mapping-end {i} s h =
      let k : length l ≤ i = omega arith in
      rw (take_all i l, drop_of_length-le l k, append-nil) at s.done

-- ---- a fold over what g makes of the elements that pass

-- b is the fold over the first i elements of l, a list of n
pub record Folding {A B C : Type 0} (p : A → Bool) (g : A → C) (f : B → C → B) (z : B) (l : List A) (n : ℕ) (b : B)
    (i : ℕ) : Type 0 where
  pub long : length l ≡ n
  pub upto : i ≤ n
  pub done : b ≡ foldl f z (map g (filter p (take i l)))

module _ {A B C : Type 0} {p : A → Bool} {g : A → C} {f : B → C → B} {z : B} {l : List A} {n : ℕ} where
  pub folding-start : length l ≡ n → Folding p g f z l n z 0
  folding-start h = record { long = h; upto = omega arith; done = refl }

  module _ {b : B} {i : ℕ} (d : A) where
    pub folding-take : {v : B} → Folding p g f z l n b i → i < n → p (get_or l i d) ≡ true → v ≡ f b (g (get_or l i d))
        → Folding p g f z l n v (i + 1)
    folding-take s h e m =
        let k : i < length l = omega arith in
        let q : filter p (take (suc i) l) ≡ filter p (take i l) ++ (get_or l i d ∷ []) = simp (take-suc l i d, keep_append, e)
        in
        rw add-one
        (record { long = s.long; upto = h; done = rw (q, map-append, foldl-append, sym s.done) m })

    pub folding-skip : Folding p g f z l n b i → i < n → p (get_or l i d) ≡ false → Folding p g f z l n b (i + 1)
    folding-skip s h e =
        let k : i < length l = omega arith in
        let q : filter p (take (suc i) l) ≡ filter p (take i l) = simp (take-suc l i d, keep_append, e, append-nil) in
        rw add-one (record { long = s.long; upto = h; done = rw q s.done })

  pub folding-end : {b : B} {i : ℕ} → Folding p g f z l n b i → n ≤ i → b ≡ foldl f z (map g (filter p l))
  folding-end {b} {i} s h =
      let k : length l ≤ i = omega arith in
      rw (take_all i l) at s.done

-- ---- how many elements pass

-- c of the first i elements of l, a list of n, pass
pub record Counting {A : Type 0} (p : A → Bool) (l : List A) (n c i : ℕ) : Type 0 where
  pub long : length l ≡ n
  pub upto : i ≤ n
  pub some : c ≤ i
  pub done : c ≡ length (filter p (take i l))

module _ {A : Type 0} {p : A → Bool} {l : List A} {n : ℕ} where
  pub counting-start : length l ≡ n → Counting p l n 0 0
  counting-start h = record { long = h; upto = omega arith; some = omega arith; done = refl }

  module _ {c i : ℕ} (d : A) where
    pub counting-take : Counting p l n c i → i < n → p (get_or l i d) ≡ true → Counting p l n (c + 1) (i + 1)
    counting-take s h e =
        let k : i < length l = omega arith in
        let q : filter p (take (suc i) l) ≡ filter p (take i l) ++ (get_or l i d ∷ []) = simp (take-suc l i d, keep_append, e)
        in
        rw (add-one i)
        (record { long = s.long; upto = h; some = omega arith; done = rw (q, length-append) (omega arith) })

    pub counting-skip : Counting p l n c i → i < n → p (get_or l i d) ≡ false → Counting p l n c (i + 1)
    counting-skip s h e =
        let k : i < length l = omega arith in
        let q : filter p (take (suc i) l) ≡ filter p (take i l) = simp (take-suc l i d, keep_append, e, append-nil) in
        rw add-one (record { long = s.long; upto = h; some = omega arith; done = rw q s.done })

  pub counting-end : {c i : ℕ} → Counting p l n c i → n ≤ i → c ≡ length (filter p l)
  counting-end {c} {i} s h =
      let k : length l ≤ i = omega arith in
      rw (take_all i l) at s.done

-- ---- tests of a list by index

module _ {A : Type 0} (d : A) where
  pub every-at : (p : A → Bool) (l : List A) (j : ℕ) → list_all p l ≡ true → j < length l → p (get_or l j d) ≡ true
  every-at p [] j e h = absurd (omega arith)
  every-at p (x ∷ l) zero e h = on-flag (p x) (λ q. q) (λ q. let y : true ≡ false = sym (rw q at e) in cc)
  every-at p (x ∷ l) (suc j) e h =
      on-flag (p x) (λ q. every-at p l j (rw q at e) (omega arith)) (λ q. let y : true ≡ false = sym (rw q at e) in cc)

  pub every_of : (p : A → Bool) (l : List A) → ((j : ℕ) → j < length l → p (get_or l j d) ≡ true) → list_all p l ≡ true
  every_of p [] f = refl
  every_of p (x ∷ l) f =
      let q : p x ≡ true = f 0 (omega arith) in
      rw q (every_of p l (λ j h. f (suc j) (omega arith)))

  -- of the elements that are held
  pub every-keep-at : (t p : A → Bool) (l : List A) (j : ℕ) → list_all p (filter t l) ≡ true → j < length l
      → t (get_or l j d) ≡ true → p (get_or l j d) ≡ true
  every-keep-at t p [] j e h k = absurd (omega arith)
  every-keep-at t p (x ∷ l) zero e h k =
      let m : list_all p (x ∷ filter t l) ≡ true = rw k at e in
      on-flag (p x) (λ q. q) (λ q. let y : true ≡ false = sym (rw q at m) in cc)
  every-keep-at t p (x ∷ l) (suc j) e h k =
      on-flag (t x)
      (λ q.
      let m : list_all p (x ∷ filter t l) ≡ true = rw q at e in
      on-flag (p x)
      (λ r. every-keep-at t p l j (rw r at m) (omega arith) k)
      (λ r. let y : true ≡ false = sym (rw r at m) in cc))
      (λ q. every-keep-at t p l j (rw q at e) (omega arith) k)

  pub every-keep-of : (t p : A → Bool) (l : List A)
      → ((j : ℕ) → j < length l → t (get_or l j d) ≡ true → p (get_or l j d) ≡ true) → list_all p (filter t l) ≡ true
  every-keep-of t p [] f = refl
  every-keep-of t p (x ∷ l) f =
      on-flag (t x)
      (λ q.
      let r : p x ≡ true = f 0 (omega arith) q in
      rw (q, r) (every-keep-of t p l (λ j h k. f (suc j) (omega arith) k)))
      (λ q. rw q (every-keep-of t p l (λ j h k. f (suc j) (omega arith) k)))

  -- a place is the first that passes
  pub position-is : (p : A → Bool) (l : List A) (k : ℕ) → k < length l → p (get_or l k d) ≡ true
      → ((j : ℕ) → j < k → p (get_or l j d) ≡ false) → k ≡ position p l
  position-is p [] k h e f = absurd (omega arith)
  position-is p (x ∷ l) zero h e f = rw e
  position-is p (x ∷ l) (suc k) h e f =
      let q : p x ≡ false = f 0 (omega arith) in
      rw q (ap suc (position-is p l k (omega arith) e (λ j m. f (suc j) (omega arith))))

  pub position-none : (p : A → Bool) (l : List A) → ((j : ℕ) → j < length l → p (get_or l j d) ≡ false)
      → length l ≡ position p l
  position-none p [] f = refl
  position-none p (x ∷ l) f =
      let q : p x ≡ false = f 0 (omega arith) in
      rw q (ap suc (position-none p l (λ j m. f (suc j) (omega arith))))

  -- a place is the last that passes
  pub last-is : (p : A → Bool) (l : List A) (k : ℕ) → k < length l → p (get_or l k d) ≡ true
      → ((j : ℕ) → k < j → j < length l → p (get_or l j d) ≡ false) → k ≡ last_position p l
  last-is p [] k h e f = absurd (omega arith)
  last-is p (x ∷ l) zero h e f =
      let q : list_all (λ (y : A). not (p y)) l ≡ true = every_of (λ (y : A). not (p y)) l
      (λ j m. rw (f (suc j) (omega arith) (omega arith))) in
      rw (e, q)
  last-is p (x ∷ l) (suc k) h e f =
      let q : list_all (λ (y : A). not (p y)) l ≡ false =
      on-flag (list_all (λ (y : A). not (p y)) l)
      (λ m. let y : false ≡ true = rw e at (every-at (λ (y : A). not (p y)) l k m (omega arith)) in cc)
      (λ m. m)
      in
      let r : suc k ≡ suc (last_position p l) = ap suc (last-is p l k (omega arith) e
      (λ j m n. f (suc j) (omega arith) (omega arith))) in
      on-flag (p x) (λ t. rw (t, q) r) (λ t. rw t r)

  pub last_none : (p : A → Bool) (l : List A) → ((j : ℕ) → j < length l → p (get_or l j d) ≡ false)
      → length l ≡ last_position p l
  last_none p [] f = refl
  last_none p (x ∷ l) f =
      let q : p x ≡ false = f 0 (omega arith) in
      rw q (ap suc (last_none p l (λ j m. f (suc j) (omega arith))))

-- ---- what is held after a store

module _ {A : Type 0} (p : A → Bool) where
  pub keep-set : (l : List A) (i : ℕ) (x : A) → i < length l → p x ≡ true
      → filter p (set l i x) ≡ filter p (take i l) ++ (x ∷ filter p (drop (suc i) l))
  keep-set l i x h e = rw (set_split l i x h, keep_append, e)
