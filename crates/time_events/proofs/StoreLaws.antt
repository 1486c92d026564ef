-- A list of a path read from its rows, and changed in them, place by place.
-- Assumes nothing.
use Rattle.std.proofs.Common.{◌≡◌, ℕ, suc, ◌+◌, ◌*◌, ◌<◌, ◌≤◌, Bool, true, false, cond, List, [], ◌∷◌, ◌++◌, map, length, get_or, take, drop, set, sym, refl, ap, ◌∙◌, subst, add-one, arith, length-set, length-take-le, take_all, drop-cons, take-suc, take-suc-set}
use lib.ListN.{length-map}
use lib.Seq.{get_or_at, set-get_or}
use Rattle.base.specs.Marked.{first_gap, first_leader, place}
use Rattle.base.specs.Passes.{overtakes}
use Rattle.base.proofs.FirstLaws.{Strict}
use Rattle.base.proofs.MarkedLaws.{LeadsFirst, first-take, first-skip}
use Rattle.base.proofs.MarkedLaws.{place-gap, place-leader}
use Rattle.base.proofs.ScanLaws.{Mapping, mapping-start, mapping-next}
use Rattle.live.specs.declared.types.Liveness.{Liveness}
use Rattle.rows.specs.Parts.{with_samples, with_spans}
use Rattle.rows.specs.View.{path_in}
use Rattle.rows.specs.Says.{Says}
use Rattle.rows.proofs.SaysLaws.{says_none, says_then, says-as}

-- ---- one list loaded into another

-- the first i places of q are those of l, both of n places
pub record Filling {A : Type 0} (l : List A) (n : ℕ) (q : List A) (i : ℕ) : Type 0 where
  pub from : length l ≡ n
  pub long : length q ≡ n
  pub done : take i q ≡ take i l

module _ {A : Type 0} {l : List A} {n : ℕ} {q : List A} where
  -- before the first
  pub filling-start : length l ≡ n → length q ≡ n → Filling l n q 0
  filling-start h k = record { from = h; long = k; done = refl }

  -- one more
  pub filling-next : {i : ℕ} (d : A) {x : A} → Filling l n q i → i < n → x ≡ get_or l i d
      → Filling l n (set q i x) (i + 1)
  filling-next {i} d {x} s h e =
      let t : take (suc i) (set q i x) ≡ take i q ++ (x ∷ []) = take-suc-set q i x (omega (arith, s.long)) in
      let u : take (suc i) l ≡ take i l ++ (get_or l i d ∷ []) = take-suc l i d (omega (arith, s.from)) in
      rw add-one
      (record {
        from = s.from;
        long = length-set q i x ∙ s.long;
        done = t ∙ (λ j. s.done j ++ (e j ∷ [])) ∙ sym u;
      })

  -- all of them
  pub filling-end : {i : ℕ} → Filling l n q i → n ≤ i → q ≡ l
  filling-end {i} s h =
      sym (take_all i q (omega (arith, s.long))) ∙ s.done ∙ take_all i l (omega (arith, s.from))

-- ---- places of a list cleared in its rows

-- a part of a path that can be read and changed
pub record Part {A : Type 0} (get : Liveness → A) (put : Liveness → A → Liveness) : Type 0 where
  pub same : (v : Liveness) → v ≡ put v (get v)
  pub new : (v : Liveness) (x : A) → get (put v x) ≡ x
  pub last : (v : Liveness) (x y : A) → put (put v x) y ≡ put v y

-- the samples are one
pub samples-part : Part (λ v. v.rtts.samples) with_samples
samples-part = record { same = λ v. refl; new = λ v x. refl; last = λ v x y. refl }

-- and the spans
pub spans-part : Part (λ v. v.rtts.spans) with_spans
spans-part = record { same = λ v. refl; new = λ v x. refl; last = λ v x y. refl }

-- a place not yet passed is what it was
mapped_at : {A : Type 0} {f : A → A} {l : List A} {n : ℕ} {out : List A} {i : ℕ} (d : A) → Mapping f l n out i → i < n
    → get_or out i d ≡ get_or l i d
mapped_at {A} {f} {l} {n} {out} {i} d s h =
    let m : length (map f (take i l)) ≡ i = rw (length-map, length-take-le i l (omega (arith, s.long))) in
    ap (λ (x : List A). get_or x i d)
    (s.done ∙ ap (λ (x : List A). map f (take i l) ++ x) (drop-cons l i d (omega (arith, s.long))))
    ∙ get_or_at (map f (take i l)) (get_or l i d) (drop (suc i) l) d i m

-- what passes the test is cleared
abbrev cleared : {A : Type 0} → (A → Bool) → A → A → A
cleared t z x = cond (t x) z x

-- from rows a to rows b those of the first i of the part's n places that pass the test t have become z, and nothing
-- else has changed
pub record Dropping {A : Type 0} (get : Liveness → List A) (put : Liveness → List A → Liveness) (t : A → Bool) (z : A)
    (n : ℕ) (a b : List (List ℕ)) (i : ℕ) : Type 0 where
  pub says : Says a b (put (path_in a) (get (path_in b)))
  pub maps : Mapping (cleared t z) (get (path_in a)) n (get (path_in b)) i

module _ {A : Type 0} {get : Liveness → List A} {put : Liveness → List A → Liveness} {t : A → Bool} {z : A} {n : ℕ}
    {a : List (List ℕ)} (part : Part get put) where
  -- before the first
  pub dropping-start : length (get (path_in a)) ≡ n → Dropping get put t z n a a 0
  dropping-start h = record { says = says_none (part.same (path_in a)); maps = mapping-start h refl }

  module _ {b : List (List ℕ)} {i : ℕ} (d : A) {s : A} (w : Dropping get put t z n a b i) (h : i < n)
      (e : s ≡ get_or (get (path_in b)) i d) where
    -- what stood there
    stood : s ≡ get_or (get (path_in a)) i d
    stood = e ∙ mapped_at d w.maps h

    -- one that is cleared
    pub dropping-take : {c : List (List ℕ)} {v : A} → t s ≡ true → v ≡ z
        → Says b c (put (path_in b) (set (get (path_in b)) i v)) → Dropping get put t z n a c (i + 1)
    dropping-take {c} {v} q m u =
        let x : List A = set (get (path_in b)) i v in
        let y : get (path_in c) ≡ x = ap get u.path ∙ part.new (path_in b) x in
        let g : cleared t z s ≡ z = rw q in
        record {
          says =
              says-as (says_then w.says u)
              (ap (λ (r : Liveness). put r x) w.says.path
              ∙ part.last (path_in a) (get (path_in b)) x
              ∙ ap (put (path_in a)) (sym y));
          maps = rw y (mapping-next d w.maps h (m ∙ sym g ∙ ap (cleared t z) stood));
        }

    -- one that stays
    pub dropping-skip : t s ≡ false → Dropping get put t z n a b (i + 1)
    dropping-skip q =
        let g : cleared t z s ≡ s = rw q in
        let v : get_or (get (path_in b)) i d ≡ cleared t z (get_or (get (path_in a)) i d) =
        sym e ∙ sym g ∙ ap (cleared t z) stood in
        record {
          says = w.says;
          maps =
              rw (sym (set-get_or (get (path_in b)) i d)) (mapping-next d w.maps h v);
        }

  -- one that is cleared or stays
  pub dropping-one : {b c : List (List ℕ)} {i : ℕ} (d : A) → Dropping get put t z n a b i → i < n
      → Says b c (put (path_in b) (set (get (path_in b)) i (cleared t z (get_or (get (path_in b)) i d))))
      → Dropping get put t z n a c (i + 1)
  dropping-one {b} {c} {i} d w h u =
      let x : List A = set (get (path_in b)) i (cleared t z (get_or (get (path_in b)) i d)) in
      let y : get (path_in c) ≡ x = ap get u.path ∙ part.new (path_in b) x in
      record {
        says =
            says-as (says_then w.says u)
            (ap (λ (r : Liveness). put r x) w.says.path
            ∙ part.last (path_in a) (get (path_in b)) x
            ∙ ap (put (path_in a)) (sym y));
        maps = rw y (mapping-next d w.maps h (ap (cleared t z) (mapped_at d w.maps h)));
      }

  -- two of them, at places 2 k and 2 k + 1
  pub dropping-two : {b c e : List (List ℕ)} (k : ℕ) (d : A) → Dropping get put t z n a b (2 * k) → 2 * k + 1 < n
      → Says b c (put (path_in b) (set (get (path_in b)) (2 * k) (cleared t z (get_or (get (path_in b)) (2 * k) d))))
      → Says c e (put (path_in c) (set (get (path_in c)) (2 * k + 1) (cleared t z (get_or (get (path_in c)) (2 * k + 1) d))))
      → Dropping get put t z n a e (2 * (k + 1))
  dropping-two {b} {c} {e} k d w h u v =
      let q : 2 * k + 1 + 1 ≡ 2 * (k + 1) = omega arith in
      subst (λ (x : ℕ). Dropping get put t z n a e x) q (dropping-one d (dropping-one d w (omega arith) u) h v)

-- ---- passes over a list whose places are read one by one: s is the place's

module _ {A : Type 0} {held : A → Bool} {before : A → A → Bool} {d : A} {l : List A} {n : ℕ} (order : Strict before)
    {b : A} {k i : ℕ} {s : A} where
  -- one that leads those before it, of equals the first
  pub leads-take : LeadsFirst held before d l n b k i → i < n → s ≡ get_or l i d → overtakes held before s b ≡ true
      → LeadsFirst held before d l n s i (i + 1)
  leads-take w h e q =
      rw e (first-take order w h (ap (λ (x : A). overtakes held before x b) (sym e) ∙ q))

  -- and one that does not
  pub leads-skip : LeadsFirst held before d l n b k i → i < n → s ≡ get_or l i d → overtakes held before s b ≡ false
      → LeadsFirst held before d l n b k (i + 1)
  leads-skip w h e q = first-skip order w h (ap (λ (x : A). overtakes held before x b) (sym e) ∙ q)

-- ---- the place for a new one

module _ {A : Type 0} (held : A → Bool) (before : A → A → Bool) (l : List A) {n g : ℕ} (long : length l ≡ n)
    (e : g ≡ first_gap held l) where
  -- a gap
  pub place-free : g < n → g ≡ place held before l
  place-free h = place-gap held before l e (omega (arith, long))

  -- no gap
  pub place-full : {k : ℕ} → n ≤ g → k ≡ first_leader held before l → k ≡ place held before l
  place-full h f = place-leader held before l (omega (arith, long, e)) f
