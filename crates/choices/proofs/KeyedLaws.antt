-- The first of a list's rivals that pass a test, by its place: where it passes, none that passes comes before it, and it
-- comes before each earlier one that passes; and so by the least of their keys. One law for every scan of the choice.
-- Assumes nothing.
use Rattle.std.specs.Prelude.{None, Some}
use Prim.Native.Nat.{ℕ, zero, suc, ◌<◌, ◌≤◌}
use mathlib.Core.Path.{◌≡◌, refl, ap, ◌∙◌}
use mathlib.Core.Bool.{Bool, true, false, not, ◌&&◌, ◌||◌}
use mathlib.Core.List.{List, [], ◌∷◌}
use native.Mathlib.Omega.{arith}
use borrow.Author.Tests.{le-ltb, le-leb, lt-leb, ne_eqb}
use lib.Dec.{ltb, leb, eqb}
use lib.ListN.{length, get_or}
use Rattle.std.specs.List.{filter}
use Rattle.base.specs.First.{head_of, unbeaten}
use Rattle.base.proofs.Cases.{on-flag, on-order, never}
use Rattle.base.proofs.KeepLaws.{keep-keep}
use Rattle.base.proofs.ScanLaws.{every-keep-at, every-keep-of}
use Rattle.select.specs.Rivals.{no_rival}
use Rattle.select.specs.Choice.{first_by}
use Rattle.select.specs.declared.types.Rival.{Rival}
use Rattle.leads.specs.Keys.{off_key}
use Rattle.leads.proofs.LoopLaws.{Least}

-- ---- the head of what a test keeps

module _ {A B : Type 0} (d : A) (none : B) (some : A → B) where
  head_at : (q : A → Bool) (l : List A) (r : ℕ) → r < length l → q (get_or l r d) ≡ true
      → ((j : ℕ) → j < r → q (get_or l j d) ≡ false) → head_of none some (filter q l) ≡ some (get_or l r d)
  head_at q [] r h e f = absurd (omega arith)
  head_at q (x ∷ l) zero h e f = rw e
  head_at q (x ∷ l) (suc r) h e f =
      let n : q x ≡ false = f 0 (omega arith) in
      rw n (head_at q l r (omega arith) e (λ j m. f (suc j) (omega arith)))

  head-none : (q : A → Bool) (l : List A) → ((j : ℕ) → j < length l → q (get_or l j d) ≡ false)
      → head_of none some (filter q l) ≡ none
  head-none q [] f = refl
  head-none q (x ∷ l) f =
      let n : q x ≡ false = f 0 (omega arith) in
      rw n (head-none q l (λ j m. f (suc j) (omega arith)))

-- ---- the first rival

module _ (before : Rival → Rival → Bool) (p : Rival → Bool) (l : List Rival) where
  abbrev asked : Rival → Bool
  asked x = p x && unbeaten before (filter p l) x

  first-is : first_by before (filter p l) ≡ head_of None Some (filter asked l)
  first-is = ap (head_of None Some) (keep-keep (unbeaten before (filter p l)) p l)

  pub first-at : (r : ℕ) → r < length l → p (get_or l r no_rival) ≡ true
      → ((j : ℕ) → j < length l → p (get_or l j no_rival) ≡ true → before (get_or l j no_rival) (get_or l r no_rival) ≡ false)
      → ((j : ℕ) → j < r → p (get_or l j no_rival) ≡ true → before (get_or l r no_rival) (get_or l j no_rival) ≡ true)
      → first_by before (filter p l) ≡ Some (get_or l r no_rival)
  first-at r h e f g =
      first-is
      ∙ head_at no_rival None Some asked l r h
      (let u : unbeaten before (filter p l) (get_or l r no_rival) ≡ true =
      every-keep-of no_rival p (λ (y : Rival). not (before y (get_or l r no_rival))) l (λ j m k. ap not (f j m k)) in
      both e u)
      (λ j m.
      on-flag (p (get_or l j no_rival))
      (λ k.
      on-flag (unbeaten before (filter p l) (get_or l j no_rival))
      (λ u.
      let b : not (before (get_or l r no_rival) (get_or l j no_rival)) ≡ true =
      every-keep-at no_rival p (λ (y : Rival). not (before y (get_or l j no_rival))) l r u h e in
      never b (ap not (g j m k)))
      (λ u. right (p (get_or l j no_rival)) u))
      (λ k. left (unbeaten before (filter p l) (get_or l j no_rival)) k))
    where
      both : {x y : Bool} → x ≡ true → y ≡ true → (x && y) ≡ true
      both {x} {y} a b = (λ i. a i && b i)

      left : {x : Bool} (y : Bool) → x ≡ false → (x && y) ≡ false
      left y a = (λ i. a i && y)

      right : (x : Bool) {y : Bool} → y ≡ false → (x && y) ≡ false
      right true a = a
      right false a = refl

  pub first-none : ((j : ℕ) → j < length l → p (get_or l j no_rival) ≡ false) → first_by before (filter p l) ≡ None
  first-none f =
      first-is
      ∙ head-none no_rival None Some asked l
      (λ j m. ap (λ (b : Bool). b && unbeaten before (filter p l) (get_or l j no_rival)) (f j m))

-- ---- by the least key

-- before is the order by a key of each place, then by index
abbrev pub by_key : ℕ → ℕ → ℕ → ℕ → Bool
by_key k m i j = not (leb m k) || (leb k m && ltb i j)

-- keys of the places, those of the rivals that pass below off_key, and each of these with its place for index
pub record Keyed (before : Rival → Rival → Bool) (p : Rival → Bool) (l : List Rival) (ks : List ℕ) : Type 0 where
  pub long : length ks ≡ length l
  pub off : (j : ℕ) → j < length l → p (get_or l j no_rival) ≡ false → get_or ks j 0 ≡ off_key
  pub under : (j : ℕ) → j < length l → p (get_or l j no_rival) ≡ true → get_or ks j 0 < off_key
  pub place : (j : ℕ) → j < length l → p (get_or l j no_rival) ≡ true → (get_or l j no_rival).index ≡ j
  pub order : (i j : ℕ) → i < length l → j < length l → p (get_or l i no_rival) ≡ true → p (get_or l j no_rival) ≡ true
      → before (get_or l i no_rival) (get_or l j no_rival)
      ≡ by_key (get_or ks i 0) (get_or ks j 0) (get_or l i no_rival).index (get_or l j no_rival).index

module _ {before : Rival → Rival → Bool} {p : Rival → Bool} {l : List Rival} {ks : List ℕ} (t : Keyed before p l ks)
    {r : ℕ} (s : Least ks r) (h : r < length l) where
  -- what the least key says
  pub passes : eqb (get_or ks r 0) off_key ≡ false → p (get_or l r no_rival) ≡ true
  passes e =
      on-flag (p (get_or l r no_rival))
      (λ k. k)
      (λ k. let z : eqb (get_or ks r 0) off_key ≡ true = ap (λ (n : ℕ). eqb n off_key) (t.off r h k) in never z e)

  pub least-over : p (get_or l r no_rival) ≡ true → (j : ℕ) → j < length l → p (get_or l j no_rival) ≡ true
      → before (get_or l j no_rival) (get_or l r no_rival) ≡ false
  least-over e j m k =
      let a : get_or ks r 0 ≤ get_or ks j 0 = s.low j (omega (arith, t.long)) in
      t.order j r m h k e
      ∙ (λ i. by_key (get_or ks j 0) (get_or ks r 0) (t.place j m k i) (t.place r h e i))
      ∙ on-order j r
      (λ o.
      let b : get_or ks r 0 < get_or ks j 0 = s.first j o in
      rw (le-leb (get_or ks r 0) (get_or ks j 0) a, lt-leb (get_or ks j 0) (get_or ks r 0) b))
      (λ o. rw (le-leb (get_or ks r 0) (get_or ks j 0) a, le-ltb j r o) (neither (leb (get_or ks j 0) (get_or ks r 0))))
    where
      neither : (x : Bool) → (x && false) ≡ false
      neither true = refl
      neither false = refl

  pub least-ahead : p (get_or l r no_rival) ≡ true → (j : ℕ) → j < r → p (get_or l j no_rival) ≡ true
      → before (get_or l r no_rival) (get_or l j no_rival) ≡ true
  least-ahead e j m k =
      let b : get_or ks r 0 < get_or ks j 0 = s.first j m in
      t.order r j h (omega arith) e k
      ∙ ap (λ (x : Bool). not x || (leb (get_or ks r 0) (get_or ks j 0) && ltb (get_or l r no_rival).index (get_or l j no_rival).index))
      (lt-leb (get_or ks j 0) (get_or ks r 0) b)

  pub least_first : eqb (get_or ks r 0) off_key ≡ false → first_by before (filter p l) ≡ Some (get_or l r no_rival)
  least_first e = first-at before p l r h (passes e) (least-over (passes e)) (least-ahead (passes e))

  -- no key is below off_key
  pub least-nothing : eqb (get_or ks r 0) off_key ≡ true → (j : ℕ) → j < length l → p (get_or l j no_rival) ≡ false
  least-nothing e j m =
      on-flag (p (get_or l j no_rival))
      (λ k.
      let a : get_or ks r 0 ≤ get_or ks j 0 = s.low j (omega (arith, t.long)) in
      let b : get_or ks j 0 < off_key = t.under j m k in
      let z : eqb (get_or ks r 0) off_key ≡ false = ne_eqb (get_or ks r 0) off_key (omega arith) in
      never e z)
      (λ k. k)

  pub least-none : eqb (get_or ks r 0) off_key ≡ true → first_by before (filter p l) ≡ None
  least-none e = first-none before p l (least-nothing e)
