-- The keys that are made of a field's rows and of keys, each by its place; and what the loop over keys has done: of those
-- seen the least is held with its place.
-- Assumes nothing.
use Prim.Native.Nat.{ℕ, zero, suc, ◌+◌, ◌<◌, ◌≤◌}
use mathlib.Core.Path.{◌≡◌, refl, ap, sym, subst, ◌∙◌}
use mathlib.Core.Bool.{Bool, true, false, not, cond, ◌&&◌}
use mathlib.Core.List.{List, [], ◌∷◌, map}
use native.Mathlib.Omega.{arith}
use borrow.Author.Tests.{lt-ltb, le-ltb, le-leb, eq-eqb, ne_eqb, ltb-true, ltb-false}
use lib.Dec.{ltb, leb, eqb}
use lib.ListN.{length, get_or, length-map}
use Rattle.std.specs.Fn.{Called, Mut}
use Rattle.std.specs.Array.{IsFromFnResult, IsFromFnResultFrom}
use Rattle.std.specs.List.{filter}
use Rattle.base.specs.Seq.{position}
use Rattle.base.specs.First.{head_of, unbeaten}
use Rattle.base.proofs.Cases.{on-flag, on-order, never}
use Rattle.base.proofs.ScanLaws.{every-at, every_of, position-is}
use Rattle.select.specs.Rivals.{no_rival}
use Rattle.select.specs.declared.types.Rival.{Rival}
use Rattle.rivalrows.specs.Rows.{rival_in, field_in}
use Rattle.leads.specs.Keys.{off_key, key_if, are_words, left_keys, is_near_key, is_speed, least_key, least_lead}
use Rattle.leads.specs.declared.least.Lead.{Lead}

-- ---- lists of keys

-- two lists of one length are the same where each place is
pub list_same : (l m : List ℕ) → length l ≡ length m → ((j : ℕ) → j < length l → get_or l j 0 ≡ get_or m j 0) → l ≡ m
list_same [] [] h f = refl
list_same [] (y ∷ m) h f = absurd (omega (arith, h))
list_same (x ∷ l) [] h f = absurd (omega (arith, h))
list_same (x ∷ l) (y ∷ m) h f =
    let a : x ≡ y = f 0 (omega arith) in
    let b : l ≡ m = list_same l m (omega (arith, h)) (λ j o. f (suc j) (omega arith)) in
    λ i. a i ∷ b i

-- a key of each of a list
pub map_at : {A : Type 0} (f : A → ℕ) (d : A) (l : List A) (j : ℕ) → j < length l → get_or (map f l) j 0 ≡ f (get_or l j d)
map_at f d [] j h = absurd (omega arith)
map_at f d (x ∷ l) zero h = refl
map_at f d (x ∷ l) (suc j) h = map_at f d l j (omega arith)

-- the keys that are left
pub left-long : {A : Type 0} (p : A → Bool) (l : List A) (ks : List ℕ) → length l ≡ length ks
    → length (left_keys p l ks) ≡ length l
unfolding left_keys
left-long p [] ks h = refl
left-long p (x ∷ l) [] h = absurd (omega (arith, h))
left-long p (x ∷ l) (k ∷ ks) h = ap suc (left-long p l ks (omega (arith, h)))

pub left_at : {A : Type 0} (p : A → Bool) (d : A) (l : List A) (ks : List ℕ) (j : ℕ) → j < length l → j < length ks
    → get_or (left_keys p l ks) j 0 ≡ key_if (p (get_or l j d)) (get_or ks j 0)
unfolding left_keys
left_at p d [] ks j h k = absurd (omega arith)
left_at p d (x ∷ l) [] j h k = absurd (omega arith)
left_at p d (x ∷ l) (k ∷ ks) zero h o = refl
left_at p d (x ∷ l) (k ∷ ks) (suc j) h o = left_at p d l ks j (omega arith) (omega arith)

-- the rival at a place
pub at-is : (ws : List (List ℕ)) (j : ℕ) → j < length ws → get_or (field_in ws) j no_rival ≡ rival_in (get_or ws j [])
at-is [] j h = absurd (omega arith)
at-is (w ∷ ws) zero h = refl
at-is (w ∷ ws) (suc j) h = at-is ws j (omega arith)

pub field-long : (ws : List (List ℕ)) → length (field_in ws) ≡ length ws
field-long ws = length-map ws rival_in

-- ---- keys, filled at each place

-- the places before i have what they are to have
pub record Filling (want out : List ℕ) (i : ℕ) : Type 0 where
  pub wants : length want ≡ 8
  pub long : length out ≡ 8
  pub done : (j : ℕ) → j < i → get_or out j 0 ≡ get_or want j 0

module _ {want out : List ℕ} where
  pub filling-end : {i : ℕ} → Filling want out i → 8 ≤ i → out ≡ want
  filling-end {i} s h =
      list_same out want (s.long ∙ sym s.wants) (λ j m. s.done j (omega (arith, s.long)))

-- a function that no call changes, called at each place: what each call gives has what P says of its place
module _ {F : Type 0} (g : Mut F (ℕ × Unit {0}) ℕ) (f : F) (P : ℕ → ℕ → Type 0)
    (h : (i y : ℕ) (q : F) → Called g f (i, tt) y q → (q ≡ f) × P i y) where
  made-from : (n i : ℕ) (e : F) (ys : List ℕ) → e ≡ f → IsFromFnResultFrom g e ys i n → (j : ℕ) → i ≤ j → j < i + n
      → P j (get_or ys j 0)
  made-from zero i e ys s r j l m = absurd (omega arith)
  made-from (suc n) i e ys s r j l m =
      let one = h i r.1 r.0 (subst (λ (x : F). Called g x (i, tt) r.1 r.0) s r.3) in
      on-order i j
      (λ o. made-from n (i + 1) r.0 ys one.0 r.4 j (omega arith) (omega arith))
      (λ o. let z : j ≡ i = omega arith in rw (z, r.2.1 0) one.1)

  made-at : {ys : List ℕ} → IsFromFnResult g f ys 8 → (j : ℕ) → j < 8 → P j (get_or ys j 0)
  made-at {ys} r j m = made-from 8 0 f ys refl r.each j (omega arith) (omega arith)

  made-whole : {ys want : List ℕ} → IsFromFnResult g f ys 8 → length want ≡ 8
      → ((j : ℕ) → j < 8 → P j (get_or ys j 0) → get_or ys j 0 ≡ get_or want j 0) → ys ≡ want
  made-whole {ys} r n e =
      filling-end {i = 8} (record { wants = n; long = r.long; done = λ j m. e j m (made-at r j m) }) (omega arith)

-- of the rows' rivals
module _ {F : Type 0} (g : Mut F (ℕ × Unit {0}) ℕ) (f : F) (key : Rival → ℕ) (ws : List (List ℕ)) (n : length ws ≡ 8) where
  abbrev KeyOf : ℕ → ℕ → Type 0
  KeyOf i y = y ≡ key (rival_in (get_or ws i []))

  pub rows-made : ((i y : ℕ) (q : F) → Called g f (i, tt) y q → (q ≡ f) × KeyOf i y) → {ys : List ℕ}
      → IsFromFnResult g f ys 8 → ys ≡ map key (field_in ws)
  rows-made h r =
      made-whole g f KeyOf h r (length-map (field_in ws) key ∙ field-long ws ∙ n)
      (λ j o k.
      k
      ∙ ap key (sym (at-is ws j (omega (arith, n))))
      ∙ sym (map_at key no_rival (field_in ws) j (omega (arith, n, field-long ws))))

  -- and numbers of 64 bits
  pub words-made : ((i y : ℕ) (q : F) → Called g f (i, tt) y q → (q ≡ f) × KeyOf i y × (y ≤ off_key)) → {ys : List ℕ}
      → IsFromFnResult g f ys 8 → (ys ≡ map key (field_in ws)) × (are_words ys ≡ true)
  words-made h {ys} r =
      let m : length ys ≡ 8 = r.long in (
        rows-made (λ i y q k. let p = h i y q k in (p.0, p.1)) r,
        every_of 0 (λ (k : ℕ). leb k off_key) ys
            (λ j o.
            le-leb (get_or ys j 0) off_key
            (made-at g f (λ i y. y ≤ off_key) (λ i y q k. let p = h i y q k in (p.0, p.2)) r j (omega (arith, m)))),
      )

-- of keys that are left
module _ {F A : Type 0} (g : Mut F (ℕ × Unit {0}) ℕ) (f : F) (p : A → Bool) (d : A) (l : List A) (ks : List ℕ)
    (n : length l ≡ 8) (m : length ks ≡ 8)
    (h : (i y : ℕ) (q : F) → Called g f (i, tt) y q → (q ≡ f) × (y ≡ key_if (p (get_or l i d)) (get_or ks i 0))) where
  pub left-made : {ys : List ℕ} → IsFromFnResult g f ys 8 → ys ≡ left_keys p l ks
  left-made r =
      made-whole g f (λ i y. y ≡ key_if (p (get_or l i d)) (get_or ks i 0)) h r (left-long p l ks (n ∙ sym m) ∙ n)
      (λ j o k. k ∙ sym (left_at p d l ks j (omega (arith, n)) (omega (arith, m))))

-- of the preferred
module _ {F : Type 0} (g : Mut F (ℕ × Unit {0}) ℕ) (f : F) (p : Rival → Bool) (ws : List (List ℕ)) (ks : List ℕ)
    (n : length ws ≡ 8) (m : length ks ≡ 8)
    (h : (i y : ℕ) (q : F) → Called g f (i, tt) y q → (q ≡ f) × (y ≡ key_if (p (rival_in (get_or ws i []))) (get_or ks i 0))) where
  pub preferred-made : {ys : List ℕ} → IsFromFnResult g f ys 8 → ys ≡ left_keys p (field_in ws) ks
  preferred-made r =
      let v : length (field_in ws) ≡ 8 = field-long ws ∙ n in
      made-whole g f (λ i y. y ≡ key_if (p (rival_in (get_or ws i []))) (get_or ks i 0)) h r
      (left-long p (field_in ws) ks (v ∙ sym m) ∙ v)
      (λ j o k.
      k
      ∙ ap (λ (x : Rival). key_if (p x) (get_or ks j 0)) (sym (at-is ws j (omega (arith, n))))
      ∙ sym (left_at p no_rival (field_in ws) ks j (omega (arith, v)) (omega (arith, m))))

-- of the near of a speed
module _ {F : Type 0} (g : Mut F (ℕ × Unit {0}) ℕ) (f : F) (ks speeds : List ℕ) (limit speed : ℕ) (n : length ks ≡ 8)
    (m : length speeds ≡ 8) where
  abbrev near : List ℕ
  near = left_keys (is_near_key limit) ks ks

  near-long : length near ≡ 8
  near-long = left-long (is_near_key limit) ks ks refl ∙ n

  both-left : (a b : Bool) (k : ℕ) → cond (a && b) k off_key ≡ key_if b (key_if a k)
  both-left true true k = refl
  both-left true false k = refl
  both-left false true k = refl
  both-left false false k = refl

  abbrev NearOf : ℕ → ℕ → Type 0
  NearOf i y = y ≡ cond (leb (get_or ks i 0) limit && eqb (get_or speeds i 0) speed) (get_or ks i 0) off_key

  pub class-made : ((i y : ℕ) (q : F) → Called g f (i, tt) y q → (q ≡ f) × NearOf i y) → {ys : List ℕ}
      → IsFromFnResult g f ys 8 → ys ≡ left_keys (is_speed speed) speeds near
  class-made h r =
      made-whole g f NearOf h r (left-long (is_speed speed) speeds near (m ∙ sym near-long) ∙ m)
      (λ j o k.
      k
      ∙ both-left (leb (get_or ks j 0) limit) (eqb (get_or speeds j 0) speed) (get_or ks j 0)
      ∙ ap (key_if (eqb (get_or speeds j 0) speed))
      (sym (left_at (is_near_key limit) 0 ks ks j (omega (arith, n)) (omega (arith, n))))
      ∙ sym (left_at (is_speed speed) 0 speeds near j (omega (arith, m)) (omega (arith, near-long))))

-- ---- the least

-- at a place stands the least key, and a lesser one than before it
pub record Least (ks : List ℕ) (r : ℕ) : Type 0 where
  pub inside : r < length ks
  pub low : (j : ℕ) → j < length ks → get_or ks r 0 ≤ get_or ks j 0
  pub first : (j : ℕ) → j < r → get_or ks r 0 < get_or ks j 0

-- the head of what a test keeps
head_at : (q : ℕ → Bool) (l : List ℕ) (r : ℕ) → r < length l → q (get_or l r 0) ≡ true
    → ((j : ℕ) → j < r → q (get_or l j 0) ≡ false) → head_of off_key (λ k. k) (filter q l) ≡ get_or l r 0
head_at q [] r h e f = absurd (omega arith)
head_at q (x ∷ l) zero h e f = rw e
head_at q (x ∷ l) (suc r) h e f =
    let n : q x ≡ false = f 0 (omega arith) in
    rw n (head_at q l r (omega arith) e (λ j m. f (suc j) (omega arith)))

module _ {ks : List ℕ} {r : ℕ} (s : Least ks r) where
  key-is : least_key ks ≡ get_or ks r 0
  key-is =
      head_at (unbeaten ltb ks) ks r s.inside
      (every_of 0 (λ (y : ℕ). not (ltb y (get_or ks r 0))) ks
      (λ j m. ap not (le-ltb (get_or ks j 0) (get_or ks r 0) (s.low j m))))
      (λ j m.
      on-flag (unbeaten ltb ks (get_or ks j 0))
      (λ u.
      never
      (every-at 0 (λ (y : ℕ). not (ltb y (get_or ks j 0))) ks r u s.inside)
      (ap not (lt-ltb (get_or ks r 0) (get_or ks j 0) (s.first j m))))
      (λ u. u))

  place_is : r ≡ position (λ k. eqb k (least_key ks)) ks
  place_is =
      position-is 0 (λ (k : ℕ). eqb k (least_key ks)) ks r s.inside
      (eq-eqb (get_or ks r 0) (least_key ks) (sym key-is))
      (λ j m. ne_eqb (get_or ks j 0) (least_key ks) (omega (arith, key-is, s.first j m)))

  -- it is the least of the definition
  pub least-is : {k : ℕ} → k ≡ get_or ks r 0 → ◌≡◌ {A = Lead} (record { key = k; at = r }) (least_lead ks)
  unfolding least_lead
  least-is e = λ i. record { key = (e ∙ sym key-is) i; at = place_is i }

-- of the first i keys
pub record Leading (ks : List ℕ) (k at i : ℕ) : Type 0 where
  pub long : length ks ≡ 8
  pub upto : i ≤ 8
  pub here : at < 8
  pub is : k ≡ get_or ks at 0
  pub low : (j : ℕ) → j < i → k ≤ get_or ks j 0
  pub first : (j : ℕ) → j < at → k < get_or ks j 0

module _ {ks : List ℕ} where
  pub leading-start : {k : ℕ} → length ks ≡ 8 → k ≡ get_or ks 0 0 → Leading ks k 0 0
  leading-start {k} h e =
      record {
        long = h;
        upto = omega arith;
        here = omega arith;
        is = e;
        low = λ j m. absurd (omega arith);
        first = λ j m. absurd (omega arith);
      }

  pub leading-next : {k at i k' at' : ℕ} → Leading ks k at i → i < 8 → at' ≡ cond (ltb (get_or ks i 0) k) i at
      → k' ≡ cond (ltb (get_or ks i 0) k) (get_or ks i 0) k → Leading ks k' at' (i + 1)
  leading-next {k} {at} {i} {k'} {at'} s h e f =
      on-flag (ltb (get_or ks i 0) k)
      (λ t.
      let a : at' ≡ i = e ∙ ap (λ (b : Bool). cond b i at) t in
      let b : k' ≡ get_or ks i 0 = f ∙ ap (λ (b : Bool). cond b (get_or ks i 0) k) t in
      let l : get_or ks i 0 < k = ltb-true (get_or ks i 0) k t in
      rw (a, b)
      (record {
        long = s.long;
        upto = omega arith;
        here = omega arith;
        is = refl;
        low =
            λ j m.
            on-order j i
            (λ o. omega (arith, s.low j o))
            (λ o. let z : j ≡ i = omega arith in rw z (omega arith));
        first = λ j m. omega (arith, s.low j m);
      }))
      (λ t.
      let a : at' ≡ at = e ∙ ap (λ (b : Bool). cond b i at) t in
      let b : k' ≡ k = f ∙ ap (λ (b : Bool). cond b (get_or ks i 0) k) t in
      let l : k ≤ get_or ks i 0 = ltb-false (get_or ks i 0) k t in
      rw (a, b)
      (record {
        long = s.long;
        upto = omega arith;
        here = s.here;
        is = s.is;
        low = λ j m. on-order j i (λ o. s.low j o) (λ o. let z : j ≡ i = omega arith in rw z l);
        first = s.first;
      }))

  pub leading_end : {k at i : ℕ} → Leading ks k at i → 8 ≤ i → ◌≡◌ {A = Lead} (record { key = k; at = at }) (least_lead ks)
  leading_end {k} {at} {i} s h =
      least-is
      (record {
        inside = omega (arith, s.here, s.long);
        low = λ j m. omega (arith, s.is, s.low j (omega (arith, s.long)));
        first = λ j m. omega (arith, s.is, s.first j m);
      })
      s.is

-- ---- there is a least

pub least-some : (ks : List ℕ) → 0 < length ks → (r : ℕ) × Least ks r
least-some [] h = absurd (omega arith)
least-some (x ∷ []) h = (
  0,
  record {
    inside = omega arith;
    low = λ j m. let z : j ≡ 0 = omega arith in rw z (omega arith);
    first = λ j m. absurd (omega arith);
  },
)
least-some (x ∷ y ∷ l) h = next (least-some (y ∷ l) (omega arith))
  where
    at_front : (r : ℕ) → Least (y ∷ l) r → x ≤ get_or (y ∷ l) r 0 → (j : ℕ) → j < length (x ∷ y ∷ l)
        → x ≤ get_or (x ∷ y ∷ l) j 0
    at_front r s o zero m = omega arith
    at_front r s o (suc j) m = omega (arith, o, s.low j (omega arith))

    low-behind : (r : ℕ) → Least (y ∷ l) r → get_or (y ∷ l) r 0 < x → (j : ℕ) → j < length (x ∷ y ∷ l)
        → get_or (y ∷ l) r 0 ≤ get_or (x ∷ y ∷ l) j 0
    low-behind r s o zero m = omega (arith, o)
    low-behind r s o (suc j) m = s.low j (omega arith)

    first-behind : (r : ℕ) → Least (y ∷ l) r → get_or (y ∷ l) r 0 < x → (j : ℕ) → j < suc r
        → get_or (y ∷ l) r 0 < get_or (x ∷ y ∷ l) j 0
    first-behind r s o zero m = o
    first-behind r s o (suc j) m = s.first j (omega arith)

    next : (r : ℕ) × Least (y ∷ l) r → (r : ℕ) × Least (x ∷ y ∷ l) r
    next (r, s) =
        on-order (get_or (y ∷ l) r 0) x
        (λ o. (
          suc r,
          record { inside = omega (arith, s.inside); low = low-behind r s o; first = first-behind r s o },
        ))
        (λ o. (
          0,
          record { inside = omega arith; low = at_front r s o; first = λ j m. absurd (omega arith) },
        ))

-- the least of the definition is one
pub record Found (ks : List ℕ) (f : Lead) : Type 0 where
  pub place : Least ks f.at
  pub key : f.key ≡ get_or ks f.at 0

pub least-found : (ks : List ℕ) → 0 < length ks → Found ks (least_lead ks)
least-found ks h = from (least-some ks h)
  where
    from : (r : ℕ) × Least ks r → Found ks (least_lead ks)
    from (r, s) =
        let e : ◌≡◌ {A = Lead} (least_lead ks) (record { key = get_or ks r 0; at = r }) = sym (least-is s refl) in
        rw e (record { place = s; key = refl })
