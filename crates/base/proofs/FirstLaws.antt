-- The first of a list in an order (specs/First.antt): it stands in the list, comes before each earlier one, and none
-- comes before it; and one pass finds it. At any element type and any order in which not coming before goes along.
-- Assumes nothing.
use Rattle.std.proofs.Common.{◌≡◌, ℕ, Bool, true, false, cond, not, ◌&&◌, ◌||◌, ltb, List, [], ◌∷◌, ◌++◌, sym, refl, ap, ◌∙◌, arith, ltb-false, ltb-true, le-ltb}
use mathlib.Core.List.{foldl}
use borrow.Author.Tests.{not-true}
use Rattle.std.specs.List.{list_all, filter}
use Rattle.base.specs.First.{head_of, unbeaten, first_of}
use Rattle.base.proofs.Cases.{on-flag, never}
use Rattle.base.proofs.KeepLaws.{every-head, every-right, keep_same}

-- a strict order in which any two can be compared: of two at most one comes before the other, and not coming before
-- goes along
pub record Strict {A : Type 0} (before : A → A → Bool) : Type 0 where
  pub once : (x y : A) → before x y ≡ true → before y x ≡ false
  pub along : (x y z : A) → before x y ≡ false → before y z ≡ false → before x z ≡ false

-- the order by a number, the least first
pub by-least : {A : Type 0} (key : A → ℕ) → Strict (λ (x y : A). ltb (key x) (key y))
by-least key =
    record {
      once = λ x y e. le-ltb (key y) (key x) (omega (arith, ltb-true (key x) (key y) e));
      along = λ x y z e f. le-ltb (key x) (key z)
          (omega (arith, ltb-false (key x) (key y) e, ltb-false (key y) (key z) f));
    }

-- the order by a number, the greatest first
pub by-greatest : {A : Type 0} (key : A → ℕ) → Strict (λ (x y : A). ltb (key y) (key x))
by-greatest key =
    record {
      once = λ x y e. (by-least key).once y x e;
      along = λ x y z e f. (by-least key).along z y x f e;
    }

-- x stands in l, comes before each earlier one, and none comes before it
pub record First {A : Type 0} (before : A → A → Bool) (l : List A) (x : A) : Type 0 where
  pub front : List A
  pub back : List A
  pub there : l ≡ front ++ (x ∷ back)
  pub ahead : list_all (before x) front ≡ true
  pub over : unbeaten before l x ≡ true

-- none that stands in the list comes before its first
pub first-over : {A : Type 0} {before : A → A → Bool} {l : List A} {x : A} → First before l x → (a b : List A) (y : A)
    → l ≡ a ++ (y ∷ b) → before y x ≡ false
first-over {A} {before} {l} {x} f a b y e =
    let p : A → Bool = λ z. not (before z x) in
    let h : list_all p (a ++ (y ∷ b)) ≡ true = sym (ap (list_all p) e) ∙ f.over in
    not-true (before y x) (every-head p y b (every-right p a (y ∷ b) h))

-- what each of the list passes, its first passes
pub first_passes : {A : Type 0} {before : A → A → Bool} {l : List A} {x : A} (p : A → Bool) → First before l x
    → list_all p l ≡ true → p x ≡ true
first_passes {A} {before} {l} {x} p f e =
    every-head p x f.back (every-right p f.front (x ∷ f.back) (sym (ap (list_all p) f.there) ∙ e))

module _ {A : Type 0} {before : A → A → Bool} (order : Strict before) where
  -- none comes before itself
  pub none-self : (x : A) → before x x ≡ false
  none-self x = on-flag (before x x) (λ q. order.once x x q) (λ q. q)

  -- coming before goes along too
  pub goes_on : (x y z : A) → before x y ≡ true → before y z ≡ true → before x z ≡ true
  goes_on x y z e f =
      on-flag (before x z)
      (λ q. q)
      (λ q. never e (order.along x z y q (order.once y z f)))

  -- x comes before z where y does and x is not behind y
  pub goes_first : (x y z : A) → before y x ≡ false → before y z ≡ true → before x z ≡ true
  goes_first x y z e f = on-flag (before x z) (λ q. q) (λ q. never f (order.along y x z e q))

  -- x comes before z where it comes before y and z is not before y
  pub goes_last : (x y z : A) → before x y ≡ true → before z y ≡ false → before x z ≡ true
  goes_last x y z e f = on-flag (before x z) (λ q. q) (λ q. never e (order.along x z y q f))

  -- b is unbeaten where one is that does not come before it
  unbeaten-over : (b x : A) (l : List A) → before x b ≡ false → unbeaten before l x ≡ true → unbeaten before l b ≡ true
  unbeaten-over b x [] h e = refl
  unbeaten-over b x (y ∷ l) h e =
      on-flag (before y x)
      (λ q. let z : true ≡ false = sym (rw q at e) in cc)
      (λ q. rw (order.along y x b q h) (unbeaten-over b x l h (rw q at e)))

  -- one that x comes before counts for nothing beside x
  without-beaten : (b x y : A) (l : List A) → before x b ≡ true
      → unbeaten before (b ∷ x ∷ l) y ≡ unbeaten before (x ∷ l) y
  without-beaten b x y l h =
      on-flag (before x y)
      (λ q. on-flag (before b y) (λ r. rw (q, r)) (λ r. rw (q, r)))
      (λ q. rw (order.along b x y (order.once x b h) q))

  -- one that does not come before b counts for nothing beside b
  without-level : (b x y : A) (l : List A) → before x b ≡ false
      → unbeaten before (b ∷ x ∷ l) y ≡ unbeaten before (b ∷ l) y
  without-level b x y l h = on-flag (before b y) (λ q. rw q) (λ q. rw (q, order.along x b y h q))

  module _ {B : Type 0} (none : B) (some : A → B) where
    first-beaten : (b x : A) (l : List A) → before x b ≡ true
        → first_of before none some (b ∷ x ∷ l) ≡ first_of before none some (x ∷ l)
    first-beaten b x l h =
        ap (head_of none some)
        (keep_same (unbeaten before (b ∷ x ∷ l)) (unbeaten before (x ∷ l)) (λ (y : A). without-beaten b x y l h)
        (b ∷ x ∷ l)
        ∙ out (unbeaten before (x ∷ l)) (rw h))
      where
        out : (p : A → Bool) → p b ≡ false → filter p (b ∷ x ∷ l) ≡ filter p (x ∷ l)
        out p e = rw e

    first-level : (b x : A) (l : List A) → before x b ≡ false
        → first_of before none some (b ∷ x ∷ l) ≡ first_of before none some (b ∷ l)
    first-level b x l h =
        ap (head_of none some) (keep_same (unbeaten before (b ∷ x ∷ l)) (unbeaten before (b ∷ l))
        (λ (y : A). without-level b x y l h) (b ∷ x ∷ l))
        ∙ second (unbeaten before (b ∷ l)) (λ e. unbeaten-over b x (b ∷ l) h e)
      where
        second : (p : A → Bool) → (p x ≡ true → p b ≡ true)
            → head_of none some (filter p (b ∷ x ∷ l)) ≡ head_of none some (filter p (b ∷ l))
        second p f =
            on-flag (p b)
            (λ q. rw q)
            (λ q. on-flag (p x) (λ r. never (f r) q) (λ r. rw (q, r)))

    -- the pass: a turn takes one that comes before what there is
    module _ (step : B → A → B) (starts : (x : A) → step none x ≡ some x)
        (turns : (b x : A) → step (some b) x ≡ cond (before x b) (some x) (some b)) where
      pass-from : (b : A) (l : List A) → foldl step (some b) l ≡ first_of before none some (b ∷ l)
      pass-from b [] = rw (none-self b)
      pass-from b (x ∷ l) =
          on-flag (before x b)
          (λ h. turn h ∙ pass-from x l ∙ sym (first-beaten b x l h))
          (λ h. turn h ∙ pass-from b l ∙ sym (first-level b x l h))
        where
          turn : {t : Bool} → before x b ≡ t → foldl step (step (some b) x) l ≡ foldl step (cond t (some x) (some b)) l
          turn h = ap (λ (r : B). foldl step r l) (turns b x ∙ ap (λ (t : Bool). cond t (some x) (some b)) h)

      pub pass-first : (l : List A) → foldl step none l ≡ first_of before none some l
      pass-first [] = refl
      pass-first (x ∷ l) = rw (starts x) (pass-from x l)

    -- what the first of a list is
    abbrev Found : A → List A → Type 0
    Found b l = (x : A) × First before (b ∷ l) x × (first_of before none some (b ∷ l) ≡ some x)

    found-beaten : (b x : A) (l : List A) → before x b ≡ true → Found x l → Found b (x ∷ l)
    found-beaten b x l h (y, f, e) =
        let o : before x y ≡ false = on-flag (before x y) (λ q. let z : true ≡ false = sym (rw q at f.over) in cc)
        (λ q. q) in
        let a : before y b ≡ true = goes_first y x b o h in (
          y,
          record {
            front = b ∷ f.front;
            back = f.back;
            there = ap (λ (r : List A). b ∷ r) f.there;
            ahead = rw a f.ahead;
            over = rw (order.once y b a) f.over;
          },
          first-beaten b x l h ∙ e,
        )

    found-level : (b x : A) (l : List A) → before x b ≡ false → Found b l → Found b (x ∷ l)
    found-level b x l h (y, f, e) =
        let o : before b y ≡ false = on-flag (before b y) (λ q. let z : true ≡ false = sym (rw q at f.over) in cc)
        (λ q. q) in
        let w : unbeaten before (b ∷ x ∷ l) y ≡ true = without-level b x y l h ∙ f.over in
        (y, go f.front f.there f.ahead w, first-level b x l h ∙ e)
      where
        go : (front : List A) → b ∷ l ≡ front ++ (y ∷ f.back) → list_all (before y) front ≡ true
            → unbeaten before (b ∷ x ∷ l) y ≡ true → First before (b ∷ x ∷ l) y
        go [] t a w =
            let z : b ≡ y = cc in
            record { front = []; back = x ∷ l; there = ap (λ (r : A). r ∷ x ∷ l) z; ahead = refl; over = w }
        go (c ∷ front) t a w =
            let z : b ≡ c = cc in
            let r : l ≡ front ++ (y ∷ f.back) = cc in
            let q : before y c ≡ true = on-flag (before y c) (λ q. q)
            (λ q. let z : true ≡ false = sym (rw q at a) in cc) in
            let p : before y x ≡ true = goes_last y b x (rw z q) h in
            record {
              front = b ∷ x ∷ front;
              back = f.back;
              there = ap (λ (r : List A). b ∷ x ∷ r) r;
              ahead = rw (z, q, p) (rw q at a);
              over = w;
            }

    found : (b : A) (l : List A) → Found b l
    found b [] = (
      b,
      record { front = []; back = []; there = refl; ahead = refl; over = rw (none-self b) },
      rw
          (none-self b),
    )
    found b (x ∷ l) = on-flag (before x b) (λ h. found-beaten b x l h (found x l))
        (λ h. found-level b x l h (found b l))

    pub first-cases : (P : B → Type 0) (l : List A) → (l ≡ [] → P none) → ((x : A) → First before l x → P (some x))
        → P (first_of before none some l)
    first-cases P [] f g = f refl
    first-cases P (b ∷ l) f g = go (found b l)
      where
        go : Found b l → P (first_of before none some (b ∷ l))
        go (x, h, e) = rw e (g x h)

-- ---- orders made of orders

-- by f, and of those that f puts level by g
module _ {A : Type 0} {f g : A → A → Bool} (a : Strict f) (b : Strict g) where
  once-then : (x y : A) → (f x y || (not (f y x) && g x y)) ≡ true → (f y x || (not (f x y) && g y x)) ≡ false
  once-then x y e =
      on-flag (f x y)
      (λ p. rw (a.once x y p, p))
      (λ p.
      on-flag (f y x)
      (λ q. never (rw (p, q) at e) refl)
      (λ q. rw (p, q, b.once x y (rw (p, q) at e))))

  along_then : (x y z : A) → (f x y || (not (f y x) && g x y)) ≡ false → (f y z || (not (f z y) && g y z)) ≡ false
      → (f x z || (not (f z x) && g x z)) ≡ false
  along_then x y z e h =
      on-flag (f x y)
      (λ p. never refl (rw p at e))
      (λ p.
      on-flag (f y z)
      (λ q. never refl (rw q at h))
      (λ q.
      on-flag (f z x)
      (λ r. rw (a.along x y z p q, r))
      (λ r.
      let s : f y x ≡ false = a.along y z x q r in
      let t : f z y ≡ false = a.along z x y r p in
      let u : g x y ≡ false = rw (p, s) at e in
      let v : g y z ≡ false = rw (q, t) at h in
      rw (a.along x y z p q, r, b.along x y z u v))))

  pub strict-then : Strict (λ (x y : A). f x y || (not (f y x) && g x y))
  strict-then = record { once = once-then; along = along_then }

-- an order that agrees with a strict one
pub strict_same : {A : Type 0} {f g : A → A → Bool} → ((x y : A) → f x y ≡ g x y) → Strict f → Strict g
strict_same {A} {f} {g} same a =
    record {
      once = λ x y e. sym (same y x) ∙ a.once x y (same x y ∙ e);
      along = λ x y z e h. sym (same x z) ∙ a.along x y z (same x y ∙ e) (same y z ∙ h);
    }
