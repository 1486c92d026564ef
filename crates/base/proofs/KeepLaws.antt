-- What is kept of a list and what each of it passes (specs/Seq.antt), at any element type. Tests in a row are one test.
-- Assumes nothing.
use Rattle.std.proofs.Common.{◌≡◌, ℕ, zero, suc, ◌<◌, Bool, true, false, cond, not, ◌&&◌, ◌||◌, List, [], ◌∷◌, ◌++◌, map, length, set, sym, refl, ap, arith}
use Rattle.std.specs.List.{list_all, filter}
use Rattle.base.specs.Seq.{position}
use Rattle.base.proofs.Cases.{on-flag}

-- a map that changes nothing
pub map_same : {A : Type 0} (l : List A) → map (λ (x : A). x) l ≡ l
map_same [] = refl
map_same (x ∷ l) = rw (map_same l)

-- a list has an element
abbrev pub any_in : {A : Type 0} → List A → Bool
any_in [] = false
any_in (x ∷ l) = true

-- ---- what each passes

module _ {A : Type 0} (p : A → Bool) where
  pub every-head : (x : A) (l : List A) → list_all p (x ∷ l) ≡ true → p x ≡ true
  every-head x l e = on-flag (p x) (λ q. q) (λ q. let y : true ≡ false = sym (rw q at e) in cc)

  pub every-tail : (x : A) (l : List A) → list_all p (x ∷ l) ≡ true → list_all p l ≡ true
  every-tail x l e = on-flag (p x) (λ q. rw q at e) (λ q. let y : true ≡ false = sym (rw q at e) in cc)

  pub every-both : (x : A) (l : List A) → p x ≡ true → list_all p l ≡ true → list_all p (x ∷ l) ≡ true
  every-both x l e f = rw e f

  pub every_append : (a b : List A) → list_all p a ≡ true → list_all p (a ++ b) ≡ list_all p b
  every_append [] b e = refl
  every_append (x ∷ a) b e = rw (every-head x a e) (every_append a b (every-tail x a e))

  -- what each of two lists in a row passes, each of the second passes
  pub every-right : (a b : List A) → list_all p (a ++ b) ≡ true → list_all p b ≡ true
  every-right [] b e = e
  every-right (x ∷ a) b e = every-right a b (every-tail x (a ++ b) e)

  -- a test keeps some of them
  pub every-keep : (q : A → Bool) (l : List A) → list_all p l ≡ true → list_all p (filter q l) ≡ true
  every-keep q [] e = refl
  every-keep q (x ∷ l) e =
      let h : list_all p (filter q l) ≡ true = every-keep q l (every-tail x l e) in
      on-flag (q x) (λ f. rw f (every-both x (filter q l) (every-head x l e) h)) (λ f. rw f h)

  -- what is kept passes
  pub keep-passes : (l : List A) → list_all p (filter p l) ≡ true
  keep-passes [] = refl
  keep-passes (x ∷ l) = on-flag (p x) (λ q. rw (q, q) (keep-passes l)) (λ q. rw q (keep-passes l))

  -- where each passes, all are kept
  pub keep_all : (l : List A) → list_all p l ≡ true → filter p l ≡ l
  keep_all [] e = refl
  keep_all (x ∷ l) e = rw (every-head x l e) (ap (λ (r : List A). x ∷ r) (keep_all l (every-tail x l e)))

  -- some are kept exactly if not none passes
  pub keep-any : (l : List A) → any_in (filter p l) ≡ not (list_all (λ x. not (p x)) l)
  keep-any [] = refl
  keep-any (x ∷ l) = on-flag (p x) (λ f. simp f) (λ f. simp (f, keep-any l))

  pub keep-from : (l : List A) → any_in (filter p l) ≡ true → any_in l ≡ true
  keep-from [] e = e
  keep-from (x ∷ l) e = refl

  -- the first element that passes is replaced by one that does not: fewer pass
  pub keep-less : (l : List A) (i : ℕ) (y : A) → i ≡ position p l → i < length l → p y ≡ false
      → length (filter p (set l i y)) < length (filter p l)
  keep-less [] i y e h b = absurd (omega arith)
  keep-less (x ∷ l) zero y e h b = on-flag (p x) (λ q. rw (b, q) (omega arith)) (λ q. absurd (omega (arith, rw q at e)))
  keep-less (x ∷ l) (suc i) y e h b =
      on-flag (p x)
      (λ q. absurd (omega (arith, rw q at e)))
      (λ q. rw q (keep-less l i y (omega (arith, rw q at e)) (omega arith) b))

-- ---- tests in a row

module _ {A : Type 0} where
  -- tests that agree keep the same
  pub keep_same : (p q : A → Bool) → ((x : A) → p x ≡ q x) → (l : List A) → filter p l ≡ filter q l
  keep_same p q f [] = refl
  keep_same p q f (x ∷ l) = rw (f x, keep_same p q f l)

  -- tests that agree on what each of a list passes keep the same of it
  pub keep-same-in : (t p q : A → Bool) → ((x : A) → t x ≡ true → p x ≡ q x) → (l : List A) → list_all t l ≡ true
      → filter p l ≡ filter q l
  keep-same-in t p q f [] e = refl
  keep-same-in t p q f (x ∷ l) e = rw (f x (every-head t x l e), keep-same-in t p q f l (every-tail t x l e))

  -- what passes q and then p passes both
  pub keep-keep : (p q : A → Bool) (l : List A) → filter p (filter q l) ≡ filter (λ x. q x && p x) l
  keep-keep p q [] = refl
  keep-keep p q (x ∷ l) =
      let h : filter p (filter q l) ≡ filter (λ (y : A). q y && p y) l = keep-keep p q l in
      on-flag (q x) (λ e. on-flag (p x) (λ f. simp (e, f, h)) (λ f. simp (e, f, h))) (λ e. simp (e, h))

  -- none of those that pass q passes p
  pub none-keep : (p q : A → Bool) (l : List A) → list_all (λ x. not (p x)) (filter q l) ≡ list_all (λ x. not (q x && p x)) l
  none-keep p q [] = refl
  none-keep p q (x ∷ l) =
      let h : list_all (λ (y : A). not (p y)) (filter q l) ≡ list_all (λ (y : A). not (q y && p y)) l = none-keep p q l in
      on-flag (q x) (λ e. on-flag (p x) (λ f. simp (e, f)) (λ f. simp (e, f, h))) (λ e. simp (e, h))

  -- of those that pass q all, or those that pass p, by a flag that says whether none does
  pub only-keep : (p q : A → Bool) (n : Bool) (l : List A)
      → cond n (filter q l) (filter p (filter q l)) ≡ filter (λ x. q x && (p x || not (not n))) l
  only-keep p q true l =
      keep_same q (λ (x : A). q x && (p x || true)) (λ (x : A). on-flag (q x)
      (λ e. on-flag (p x) (λ f. simp (e, f)) (λ f. simp (e, f))) (λ e. simp e)) l
  only-keep p q false l = rw (keep-keep p q l)
      (keep_same (λ (x : A). q x && p x) (λ (x : A). q x && (p x || false))
      (λ (x : A). on-flag (q x) (λ e. on-flag (p x) (λ f. simp (e, f)) (λ f. simp (e, f))) (λ e. simp e)) l)
