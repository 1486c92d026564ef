-- Marked arrays (specs/Marked.antt): one pass finds the leader of those held, the first or the last of equals; and the
-- place for a new one is a place of the array. At any element type, any mark, any order and any length.
-- Assumes nothing.
use Rattle.std.proofs.Common.{◌≡◌, ℕ, zero, suc, ◌+◌, ◌<◌, ◌≤◌, Bool, true, false, not, ◌&&◌, ◌||◌, List, [], ◌∷◌, length, get_or, sym, refl, ◌∙◌, add-one, arith}
use borrow.Author.Tests.{not-true, not-false}
use lib.ListN.{get_or-eq_default}
use Rattle.std.specs.List.{list_all, filter}
use Rattle.base.specs.First.{unbeaten}
use Rattle.base.specs.Marked.{first_gap, leads, first_leader, last_leader, place}
use Rattle.base.specs.Passes.{overtakes, catches}
use Rattle.base.proofs.Cases.{on-flag, on-order, never}
use Rattle.base.proofs.FirstLaws.{Strict, none-self, goes_last}
use Rattle.base.proofs.ScanLaws.{
  every-at,
  every-keep-at,
  every-keep-of,
  position-is,
  position-none,
  last-is,
  last_none,
}

-- ---- a leader, by an order

-- of the first i places of l, a list of n, b at place k leads, or they are gaps and k is n; those at a place j with
-- side j k that are held come strictly behind it. d is a gap.
pub record Leading {A : Type 0} (held : A → Bool) (before : A → A → Bool) (d : A) (side : ℕ → ℕ → Type 0) (l : List A)
    (n : ℕ) (b : A) (k i : ℕ) : Type 0 where
  pub long : length l ≡ n
  pub upto : i ≤ n
  pub best : b ≡ get_or l k d
  pub none : held b ≡ false → k ≡ n
  pub some : held b ≡ true → k < i
  pub over : (j : ℕ) → j < i → held (get_or l j d) ≡ true → held b ≡ true
  pub lead : (j : ℕ) → j < i → held (get_or l j d) ≡ true → before (get_or l j d) b ≡ false
  pub edge : (j : ℕ) → j < i → side j k → held (get_or l j d) ≡ true → before b (get_or l j d) ≡ true

-- of equals the first leads
abbrev pub LeadsFirst : {A : Type 0} (held : A → Bool) (before : A → A → Bool) (d : A) (l : List A) (n : ℕ) (b : A)
    (k i : ℕ) → Type 0
LeadsFirst held before d = Leading held before d (λ (j k : ℕ). j < k)

-- of equals the last leads
abbrev pub LeadsLast : {A : Type 0} (held : A → Bool) (before : A → A → Bool) (d : A) (l : List A) (n : ℕ) (b : A)
    (k i : ℕ) → Type 0
LeadsLast held before d = Leading held before d (λ (j k : ℕ). k < j)

-- what `overtakes` and `catches` say, h, g and a being: the one is held, the other is, and the order's test
both : (h t : Bool) → h && t ≡ true → h ≡ true
both true t e = refl
both false t e = e

ahead-by : (h g a : Bool) → h && (not g || a) ≡ true → g ≡ true → a ≡ true
ahead-by true true a e q = e
ahead-by true false a e q = never q refl
ahead-by false g a e q = never e refl

behind-by : (h g a : Bool) → h && (not g || a) ≡ false → h ≡ true → (g ≡ true) × (a ≡ false)
behind-by true true a e q = (refl, e)
behind-by true false a e q = never refl e
behind-by false g a e q = never q refl

module _ {A : Type 0} {held : A → Bool} {before : A → A → Bool} {d : A} {l : List A} {n : ℕ} where
  pub leading-start : {side : ℕ → ℕ → Type 0} → held d ≡ false → length l ≡ n → Leading held before d side l n d n 0
  leading-start free h =
      let k : length l ≤ n = omega arith in
      record {
        long = h;
        upto = omega arith;
        best = sym (get_or-eq_default l d k);
        none = λ e. refl;
        some = λ e. never e free;
        over = λ j m. absurd (omega arith);
        lead = λ j m. absurd (omega arith);
        edge = λ j m. absurd (omega arith);
      }

  module _ (order : Strict before) {side : ℕ → ℕ → Type 0} {b : A} {k i : ℕ} where
    takes : Leading held before d side l n b k i → i < n → held (get_or l i d) ≡ true
        → (held b ≡ true → before b (get_or l i d) ≡ false)
        → ((j : ℕ) → j < suc i → side j i → held (get_or l j d) ≡ true → before (get_or l i d) (get_or l j d) ≡ true)
        → Leading held before d side l n (get_or l i d) i (i + 1)
    takes s h e f g =
        rw add-one
        (record {
          long = s.long;
          upto = h;
          best = refl;
          none = λ q. never e q;
          some = λ q. omega arith;
          over = λ j m q. e;
          lead =
              λ j m q.
              on-order j i
              (λ t. order.along (get_or l j d) b (get_or l i d) (s.lead j t q) (f (s.over j t q)))
              (λ t.
              let x : j ≡ i = omega arith in
              rw x (none-self order (get_or l i d)));
          edge = g;
        })

    skips : Leading held before d side l n b k i → i < n → (held (get_or l i d) ≡ true → held b ≡ true)
        → (held (get_or l i d) ≡ true → before (get_or l i d) b ≡ false)
        → (side i k → held (get_or l i d) ≡ true → before b (get_or l i d) ≡ true)
        → Leading held before d side l n b k (i + 1)
    skips s h e f g =
        rw add-one
        (record {
          long = s.long;
          upto = h;
          best = s.best;
          none = s.none;
          some = λ q. omega (arith, s.some q);
          over =
              λ j m q.
              on-order j i (λ t. s.over j t q) (λ t. let x : j ≡ i = omega arith in e (rw x at q));
          lead =
              λ j m q.
              on-order j i (λ t. s.lead j t q) (λ t. let x : j ≡ i = omega arith in rw x (f (rw x at q)));
          edge =
              λ j m r q.
              on-order j i (λ t. s.edge j t r q) (λ t. let x : j ≡ i = omega arith in rw x
              (g (rw x at r) (rw x at q)));
        })

  module _ (order : Strict before) {b : A} {k i : ℕ} where
    pub first-take : LeadsFirst held before d l n b k i → i < n → overtakes held before (get_or l i d) b ≡ true
        → LeadsFirst held before d l n (get_or l i d) i (i + 1)
    first-take s h e =
        let f : held b ≡ true → before (get_or l i d) b ≡ true =
        λ q. ahead-by (held (get_or l i d)) (held b) (before (get_or l i d) b) e q
        in
        takes order s h
        (both (held (get_or l i d)) (not (held b) || before (get_or l i d) b) e)
        (λ q. order.once (get_or l i d) b (f q))
        (λ j m r q. goes_last order (get_or l i d) b (get_or l j d) (f (s.over j r q)) (s.lead j r q))

    pub first-skip : LeadsFirst held before d l n b k i → i < n → overtakes held before (get_or l i d) b ≡ false
        → LeadsFirst held before d l n b k (i + 1)
    first-skip s h e =
        let f : held (get_or l i d) ≡ true → (held b ≡ true) × (before (get_or l i d) b ≡ false) =
        behind-by (held (get_or l i d)) (held b) (before (get_or l i d) b) e
        in
        skips order s h
        (λ q. (f q).0)
        (λ q. (f q).1)
        (λ r q. absurd (omega (arith, s.some (f q).0)))

    pub last-take : LeadsLast held before d l n b k i → i < n → catches held before (get_or l i d) b ≡ true
        → LeadsLast held before d l n (get_or l i d) i (i + 1)
    last-take s h e =
        takes order s h
        (both (held (get_or l i d)) (not (held b) || not (before b (get_or l i d))) e)
        (λ q. not-true (before b (get_or l i d)) (ahead-by (held (get_or l i d)) (held b) (not (before b (get_or l i d))) e
        q))
        (λ j m r q. absurd (omega arith))

    pub last-skip : LeadsLast held before d l n b k i → i < n → catches held before (get_or l i d) b ≡ false
        → LeadsLast held before d l n b k (i + 1)
    last-skip s h e =
        let f : held (get_or l i d) ≡ true → (held b ≡ true) × (not (before b (get_or l i d)) ≡ false) =
        behind-by (held (get_or l i d)) (held b) (not (before b (get_or l i d))) e
        in
        let g : held (get_or l i d) ≡ true
        → before b (get_or l i d) ≡ true = λ q. not-false (before b (get_or l i d)) (f q).1 in
        skips order s h (λ q. (f q).0) (λ q. order.once b (get_or l i d) (g q)) (λ r q. g q)

  module _ {side : ℕ → ℕ → Type 0} {b : A} {k i : ℕ} (s : Leading held before d side l n b k i) (all : n ≤ i) where
    leader : held b ≡ true → leads held before l (get_or l k d) ≡ true
    leader q =
        let e : unbeaten before (filter held l) b ≡ true =
        every-keep-of d held (λ (y : A). not (before y b)) l (λ j m r. rw
        (s.lead j (omega (arith, s.long, s.upto)) r))
        in
        rw (sym s.best, q, e)

    -- one that comes strictly behind a held one does not lead
    loser : held b ≡ true → (j : ℕ) → j < n → side j k → leads held before l (get_or l j d) ≡ false
    loser q j m r =
        on-flag (held (get_or l j d))
        (λ t.
        let e : before (get_or l k d) (get_or l j d) ≡ true = rw s.best at (s.edge j (omega arith) r t) in
        on-flag (unbeaten before (filter held l) (get_or l j d))
        (λ y.
        let x : held (get_or l k d) ≡ true = rw s.best at q in
        let z : not (before (get_or l k d) (get_or l j d)) ≡ true =
        every-keep-at d held (λ (z : A). not (before z (get_or l j d))) l k y (omega (arith, s.some q, s.long, s.upto))
        x
        in
        never e (not-true (before (get_or l k d) (get_or l j d)) z))
        (λ y. rw (t, y)))
        (λ t. rw t)

    -- a gap does not lead
    gaps : held b ≡ false → (j : ℕ) → j < length l → leads held before l (get_or l j d) ≡ false
    gaps q j m =
        on-flag (held (get_or l j d))
        (λ t. never (s.over j (omega (arith, s.long, s.upto)) t) q)
        (λ t. rw t)

  pub first-end : {b : A} {k i : ℕ} → LeadsFirst held before d l n b k i → n ≤ i → k ≡ first_leader held before l
  first-end {b} {k} {i} s h =
      on-flag (held b)
      (λ q.
      position-is d (leads held before l) l k (omega (arith, s.some q)) (leader s h q)
      (λ j m. loser s h q j (omega (arith, s.some q)) m))
      (λ q. s.none q ∙ sym s.long ∙ position-none d (leads held before l) l (gaps s h q))

  pub last_end : {b : A} {k i : ℕ} → LeadsLast held before d l n b k i → n ≤ i → k ≡ last_leader held before l
  last_end {b} {k} {i} s h =
      on-flag (held b)
      (λ q.
      last-is d (leads held before l) l k (omega (arith, s.some q)) (leader s h q)
      (λ j m r. loser s h q j (omega arith) m))
      (λ q. s.none q ∙ sym s.long ∙ last_none d (leads held before l) l (gaps s h q))

-- ---- the place for a new one

module _ {A : Type 0} (held : A → Bool) where
  -- a gap is found exactly where not each place is held
  pub gap-full : (l : List A) → length l ≤ first_gap held l → list_all held l ≡ true
  gap-full [] h = refl
  gap-full (x ∷ l) h =
      on-flag (held x)
      (λ q. rw q (gap-full l (omega (arith, rw q at h))))
      (λ q. absurd (omega (arith, rw q at h)))

  pub gap-some : (l : List A) → first_gap held l < length l → list_all held l ≡ false
  gap-some [] h = absurd (omega arith)
  gap-some (x ∷ l) h =
      on-flag (held x)
      (λ q. rw q (gap-some l (omega (arith, rw q at h))))
      (λ q. rw q)

  module _ (before : A → A → Bool) where
    pub place-gap : {g : ℕ} (l : List A) → g ≡ first_gap held l → g < length l → g ≡ place held before l
    place-gap l e h = rw (gap-some l (rw e at h)) e

    pub place-leader : {k : ℕ} (l : List A) → length l ≤ first_gap held l → k ≡ first_leader held before l
        → k ≡ place held before l
    place-leader l h e = rw (gap-full l h) e

module _ {A : Type 0} (held : A → Bool) (before : A → A → Bool) (order : Strict before) (d : A) (free : held d ≡ false)
    (l : List A) where
  -- the pass over the first i places
  passes : (i : ℕ) → i ≤ length l → (b : A) × (k : ℕ) × LeadsFirst held before d l (length l) b k i
  passes zero h = (d, length l, leading-start free refl)
  passes (suc i) h = go (passes i (omega arith))
    where
      go : (b : A) × (k : ℕ) × LeadsFirst held before d l (length l) b k i
          → (b : A) × (k : ℕ) × LeadsFirst held before d l (length l) b k (suc i)
      go (b, k, s) =
          on-flag (overtakes held before (get_or l i d) b)
          (λ e. (get_or l i d, i, rw add-one at (first-take order s h e)))
          (λ e. (b, k, rw add-one at (first-skip order s h e)))

  pub leader-there : list_all held l ≡ true → 0 < length l → first_leader held before l < length l
  leader-there e h = go (passes (length l) (omega arith))
    where
      go : (b : A) × (k : ℕ) × LeadsFirst held before d l (length l) b k (length l)
          → first_leader held before l < length l
      go (b, k, s) =
          let q : held b ≡ true = s.over 0 h (every-at d held l 0 e h) in
          rw (sym (first-end s (omega arith))) (s.some q)

  pub place-there : 0 < length l → place held before l < length l
  place-there h =
      on-flag (list_all held l)
      (λ q. rw q (leader-there q h))
      (λ q.
      rw q
      (on-order (first_gap held l) (length l) (λ m. m) (λ m. never (gap-full held l m) q)))
