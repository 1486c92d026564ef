-- What is true of every choice: the chosen one is a held rival, pinned if any is, of the highest tier of those, and
-- fitting if any of these fits; and one is chosen exactly if the field is not empty.
-- Assumes nothing.
use Rattle.std.specs.Prelude.{Option, None, Some, Result, Ok, Err}
use Rattle.base.specs.declared.types.Refusal.{Refusal}
use Prim.Native.Nat.{ℕ, zero, suc, ◌+◌, ◌<◌}
use mathlib.Core.Path.{◌≡◌, refl, ap, sym, ◌∙◌}
use mathlib.Core.Bool.{Bool, true, false, not, cond, ◌&&◌, ◌||◌}
use mathlib.Core.List.{List, [], ◌∷◌, ◌++◌}
use native.Mathlib.Omega.{arith}
use lib.ListN.{length, get_or}
use lib.Ieee.{Float, binary64, mul}
use Rattle.std.specs.List.{list_all, filter}
use Rattle.base.proofs.Cases.{on-flag, never}
use borrow.Author.Tests.{eqb-true, not-true}
use Rattle.base.specs.First.{head_of, unbeaten}
use Rattle.base.proofs.KeepLaws.{any_in, every-head, every-tail, every-keep, keep-passes, keep-any, keep-from}
use Rattle.base.proofs.FirstLaws.{Strict, first_passes, first-cases}
use Rattle.base.proofs.ScanLaws.{every_of}
use Rattle.select.specs.Rivals.{no_rival, is_long, at_place, placed, by_tier, by_score, by_medium}
use Rattle.select.specs.Choice.{
  none_is,
  only_any,
  rivals_of,
  named_of,
  high_of,
  ranked_of,
  first_by,
  or_else,
  scored_of,
  near_of,
  preferred_of,
  quick_of,
  quickest,
  among_ranked,
  picked_of,
  is_long_held,
  slot_of,
  choose_of,
}
use Rattle.select.specs.Answers.{chosen_value}
use Rattle.base.specs.declared.types.Refusal.TheVariants.{Duration, Index, NoPath}
use Rattle.select.specs.declared.types.Rival.{Rival}
use Rattle.select.proofs.OrderLaws.{tier-strict, score-strict, medium-strict, trip-strict}

-- ---- what each of a list passes, the first of it passes

-- what is found, if anything, passes
abbrev pub passes : (Rival → Bool) → Option Rival → Bool
passes p None = true
passes p (Some r) = p r

module _ (p : Rival → Bool) where
  every-only : (q : Rival → Bool) (l : List Rival) → list_all p l ≡ true → list_all p (only_any q l) ≡ true
  every-only q l e = on-flag (none_is q l) (λ f. rw f e) (λ f. rw f (every-keep p q l e))

  first-by-passes : {before : Rival → Rival → Bool} → Strict before → (l : List Rival) → list_all p l ≡ true
      → passes p (first_by before l) ≡ true
  first-by-passes order l h =
      first-cases order None Some (λ (f : Option Rival). passes p f ≡ true) l (λ e. refl) (λ x f. first_passes p f h)

  else-passes : (f : Option Rival) (r : Rival) → passes p f ≡ true → p r ≡ true → passes p (or_else f r) ≡ true
  else-passes (Some a) r e h = e
  else-passes None r e h = h

  quickest-passes : (near : List Rival) (least : Rival) (f : Option Rival) → list_all p near ≡ true → p least ≡ true
      → passes p f ≡ true → passes p (quickest near least f) ≡ true
  quickest-passes near least (Some a) h e k =
      else-passes (first_by by_medium (quick_of a.medium (preferred_of near))) a
      (first-by-passes medium-strict (quick_of a.medium (preferred_of near))
      (every-keep p _ (preferred_of near) (every-keep p _ near h))) k
  quickest-passes near least None h e k =
      else-passes (first_by by_medium (quick_of least.medium near)) least
      (first-by-passes medium-strict (quick_of least.medium near) (every-keep p _ near h)) e

  among-passes : (l : List Rival) (margin : Float) (f : Option Rival) → list_all p l ≡ true → passes p f ≡ true
      → passes p (among_ranked l margin f) ≡ true
  among-passes l margin (Some least) h e =
      let near : List Rival = near_of (mul binary64 least.score margin) l in
      let k : list_all p near ≡ true = every-keep p _ (scored_of l) (every-keep p _ l h) in
      quickest-passes near least (first_by by_score (preferred_of near)) k e
      (first-by-passes score-strict (preferred_of near) (every-keep p _ near k))
  among-passes l margin None h e = first-by-passes trip-strict l h

  -- what each ranked one passes, the picked one passes
  pub picked-passes : (l : List Rival) (margin : Float) → list_all p (ranked_of l) ≡ true
      → passes p (picked_of l margin) ≡ true
  unfolding picked_of
  picked-passes l margin h = among-passes (ranked_of l) margin (first_by by_score (scored_of (ranked_of l))) h
      (first-by-passes score-strict (scored_of (ranked_of l)) (every-keep p _ (ranked_of l) h))

-- ---- what the ranked pass

-- if any passes, all that are left do
only-passes : (q : Rival → Bool) (l : List Rival) → none_is q l ≡ false → list_all q (only_any q l) ≡ true
only-passes q l e = rw e (keep-passes q l)

ranked-named : (p : Rival → Bool) (l : List Rival) → list_all p (named_of l) ≡ true → list_all p (ranked_of l) ≡ true
unfolding ranked_of
ranked-named p l h = every-only p (λ (r : Rival). r.fits) (high_of (named_of l))
    (every-keep p (unbeaten by_tier (named_of l)) (named_of l) h)

ranked-held : (l : List Rival) → list_all (λ r. r.held) (ranked_of l) ≡ true
ranked-held l =
    ranked-named (λ (r : Rival). r.held) l (every-only (λ (r : Rival). r.held) (λ (r : Rival). r.pinned) (rivals_of l)
    (keep-passes (λ (r : Rival). r.held) l))

ranked-pinned : (l : List Rival) → none_is (λ r. r.pinned) (rivals_of l) ≡ false
    → list_all (λ r. r.pinned) (ranked_of l) ≡ true
ranked-pinned l e = ranked-named (λ (r : Rival). r.pinned) l (only-passes (λ (r : Rival). r.pinned) (rivals_of l) e)

ranked-tier : (l : List Rival) → list_all (unbeaten by_tier (named_of l)) (ranked_of l) ≡ true
unfolding ranked_of
ranked-tier l =
    every-only (unbeaten by_tier (named_of l)) (λ (r : Rival). r.fits) (high_of (named_of l))
    (keep-passes (unbeaten by_tier (named_of l)) (named_of l))

ranked-fits : (l : List Rival) → none_is (λ r. r.fits) (high_of (named_of l)) ≡ false
    → list_all (λ r. r.fits) (ranked_of l) ≡ true
unfolding ranked_of
ranked-fits l e = only-passes (λ (r : Rival). r.fits) (high_of (named_of l)) e

-- ---- the picked one

-- held, pinned if any is, of the highest tier of those, fitting if any of these fits
pub record Taken (l : List Rival) (r : Rival) : Type 0 where
  pub held : r.held ≡ true
  pub pinned : none_is (λ x. x.pinned) (rivals_of l) ≡ false → r.pinned ≡ true
  pub tier : unbeaten by_tier (named_of l) r ≡ true
  pub fits : none_is (λ x. x.fits) (high_of (named_of l)) ≡ false → r.fits ≡ true

pub picked-taken : (l : List Rival) (margin : Float) (r : Rival) → picked_of l margin ≡ Some r → Taken l r
picked-taken l margin r e =
    record {
      held = sym (ap (passes (λ (x : Rival). x.held)) e) ∙ picked-passes (λ (x : Rival). x.held) l margin
          (ranked-held l);
      pinned =
          λ h.
          sym (ap (passes (λ (x : Rival). x.pinned)) e) ∙ picked-passes (λ (x : Rival). x.pinned) l margin
          (ranked-pinned l h);
      tier = sym (ap (passes (unbeaten by_tier (named_of l))) e) ∙ picked-passes (unbeaten by_tier (named_of l)) l margin
          (ranked-tier l);
      fits =
          λ h.
          sym (ap (passes (λ (x : Rival). x.fits)) e) ∙ picked-passes (λ (x : Rival). x.fits) l margin
          (ranked-fits l h);
    }

-- ---- one is picked exactly if the field is not empty

-- something is there
abbrev pub is_there : Option Rival → Bool
is_there None = false
is_there (Some r) = true

first-there : {before : Rival → Rival → Bool} → Strict before → (l : List Rival) → is_there (first_by before l) ≡ any_in l
first-there order l =
    first-cases order None Some (λ (f : Option Rival). is_there f ≡ any_in l) l
    (λ e. sym (ap any_in e))
    (λ x f. sym (ap any_in f.there ∙ some_in f.front x f.back))
  where
    some_in : (a : List Rival) (x : Rival) (b : List Rival) → any_in (a ++ (x ∷ b)) ≡ true
    some_in [] x b = refl
    some_in (y ∷ a) x b = refl

else-there : (f : Option Rival) (r : Rival) → is_there (or_else f r) ≡ true
else-there (Some a) r = refl
else-there None r = refl

quickest-there : (near : List Rival) (least : Rival) (f : Option Rival) → is_there (quickest near least f) ≡ true
quickest-there near least (Some a) = else-there (first_by by_medium (quick_of a.medium (preferred_of near))) a
quickest-there near least None = else-there (first_by by_medium (quick_of least.medium near)) least

among_there : (l : List Rival) (margin : Float) (f : Option Rival) → first_by by_score (scored_of l) ≡ f
    → is_there (among_ranked l margin f) ≡ any_in l
among_there l margin None e = first-there trip-strict l
among_there l margin (Some least) e =
    let near : List Rival = near_of (mul binary64 least.score margin) l in
    quickest-there near least (first_by by_score (preferred_of near))
    ∙ sym (keep-from (λ (r : Rival). r.scored) l (sym (first-there score-strict (scored_of l)) ∙ ap is_there e))

only-any : (q : Rival → Bool) (l : List Rival) → any_in (only_any q l) ≡ any_in l
only-any q l =
    on-flag (none_is q l)
    (λ e. rw e refl)
    (λ e.
    let h : any_in (filter q l) ≡ true = keep-any q l ∙ ap not e in
    rw e (h ∙ sym (keep-from q l h)))

-- the highest tier is some rival's
high-any : (l : List Rival) → any_in (high_of l) ≡ any_in l
high-any l = head-there (high_of l) ∙ first-there tier-strict l
  where
    head-there : (m : List Rival) → any_in m ≡ is_there (head_of None Some m)
    head-there [] = refl
    head-there (r ∷ m) = refl

ranked-any : (l : List Rival) → any_in (ranked_of l) ≡ not (none_is (λ r. r.held) l)
unfolding ranked_of
ranked-any l =
    only-any (λ (r : Rival). r.fits) (high_of (named_of l))
    ∙ high-any (named_of l)
    ∙ only-any (λ (r : Rival). r.pinned) (rivals_of l)
    ∙ keep-any (λ (r : Rival). r.held) l

pub picked-there : (l : List Rival) (margin : Float) → is_there (picked_of l margin) ≡ not (none_is (λ r. r.held) l)
unfolding picked_of
picked-there l margin = among_there (ranked_of l) margin (first_by by_score (scored_of (ranked_of l))) refl ∙ ranked-any l

-- ---- the chosen place

-- at each place of a field that is placed stands no rival, or one with the place for index
pub placed_at : (l : List Rival) (n j : ℕ) → placed n l ≡ true → j < length l → at_place (n + j) (get_or l j no_rival) ≡ true
placed_at [] n j e h = absurd (omega arith)
placed_at (r ∷ l) n zero e h =
    let k : n + 0 ≡ n = omega arith in
    on-flag (at_place n r) (λ q. rw k q) (λ q. let y : true ≡ false = sym (rw q at e) in cc)
placed_at (r ∷ l) n (suc j) e h =
    let k : n + suc j ≡ suc n + j = omega arith in
    on-flag (at_place n r)
    (λ q. rw k (placed_at l (suc n) j (rw q at e) (omega arith)))
    (λ q. let y : true ≡ false = sym (rw q at e) in cc)

-- a rival has a test's mark at the place of its index: what is tried of each ranked one
abbrev marked : (Rival → Bool) → List Rival → Rival → Bool
marked q l r = not (r.held && q r) || q (get_or l r.index no_rival)

marked_all : (q : Rival → Bool) (l : List Rival) → placed 0 l ≡ true → list_all (marked q l) l ≡ true
marked_all q l e =
    every_of no_rival (marked q l) l
    (λ j h.
    let r : Rival = get_or l j no_rival in
    let z : 0 + j ≡ j = omega arith in
    let a : at_place j r ≡ true = rw z at (placed_at l 0 j e h) in
    on-flag r.held
    (λ f.
    let i : r.index ≡ j = eqb-true r.index j (rw f at a) in
    on-flag (q r) (λ g. rw (f, g, i) g) (λ g. simp (f, g)))
    (λ f. simp f))

ranked-all : (p : Rival → Bool) (l : List Rival) → list_all p l ≡ true → list_all p (ranked_of l) ≡ true
ranked-all p l h = ranked-named p l (every-only p (λ (r : Rival). r.pinned) (rivals_of l)
    (every-keep p (λ (r : Rival). r.held) l h))

-- what the picked one passes, the rival at the place of its index passes
pub at-index : (q : Rival → Bool) (l : List Rival) (margin : Float) (r : Rival) → placed 0 l ≡ true
    → picked_of l margin ≡ Some r → q r ≡ true → q (get_or l r.index no_rival) ≡ true
at-index q l margin r e p h =
    let m : marked q l r ≡ true =
    sym (ap (passes (marked q l)) p) ∙ picked-passes (marked q l) l margin
    (ranked-all (marked q l) l (marked_all q l e))
    in
    let k : r.held ≡ true = (picked-taken l margin r p).held in
    simp (k, h) at m

-- an answer that is a slot
abbrev is_slot : Result ℕ Refusal → Bool
is_slot (Ok n) = true
is_slot (Err why) = false

slot_is : {C : Type 0} (f : Option Rival) (n : ℕ) → slot_of f ≡ Ok n
    → ((r : Rival) → f ≡ Some r → r.index ≡ n → C) → C
slot_is (Some r) n e g = g r refl (ap chosen_value e)
slot_is None n e g = never {t = false} (ap is_slot e) refl

accepted : {C : Type 0} (l : List Rival) (margin : Float) (n : ℕ) → choose_of l margin ≡ Ok n
    → (placed 0 l ≡ true → slot_of (picked_of l margin) ≡ Ok n → C) → C
unfolding choose_of
accepted l margin n e g =
    let rest : Result ℕ Refusal = cond (not (placed 0 l)) (Err Index) (slot_of (picked_of l margin)) in
    on-flag (is_long_held l)
    (λ f. never {t = false} (ap is_slot (sym (ap (λ (b : Bool). cond b (Err Duration) rest) f) ∙ e)) refl)
    (λ f.
    let d : rest ≡ Ok n = sym (ap (λ (b : Bool). cond b (Err Duration) rest) f) ∙ e in
    on-flag (placed 0 l)
    (λ p. g p (sym (ap (λ (b : Bool). cond (not b) (Err Index) (slot_of (picked_of l margin))) p) ∙ d))
    (λ p. never {t = false}
    (ap is_slot (sym (ap (λ (b : Bool). cond (not b) (Err Index) (slot_of (picked_of l margin))) p) ∙ d))
    refl))

-- at the slot that `choose` answers stands a held rival, pinned if any is, of the highest tier of those, fitting if any
-- of these fits
pub chosen-taken : (l : List Rival) (margin : Float) (n : ℕ) → choose_of l margin ≡ Ok n
    → Taken l (get_or l n no_rival)
chosen-taken l margin n e =
    accepted l margin n e
    (λ p s.
    slot_is (picked_of l margin) n s
    (λ r f i.
    let t : Taken l r = picked-taken l margin r f in
    rw (sym i)
    (record {
      held = at-index (λ (x : Rival). x.held) l margin r p f t.held;
      pinned = λ h. at-index (λ (x : Rival). x.pinned) l margin r p f (t.pinned h);
      tier = at-index (unbeaten by_tier (named_of l)) l margin r p f t.tier;
      fits = λ h. at-index (λ (x : Rival). x.fits) l margin r p f (t.fits h);
    })))

-- ---- an empty field

empty-rivals : (l : List Rival) → none_is (λ r. r.held) l ≡ true → rivals_of l ≡ []
empty-rivals [] e = refl
empty-rivals (r ∷ l) e =
    let h : r.held ≡ false = not-true r.held (every-head (λ (x : Rival). not x.held) r l e) in
    rw h (empty-rivals l (every-tail (λ (x : Rival). not x.held) r l e))

empty-placed : (l : List Rival) (n : ℕ) → none_is (λ r. r.held) l ≡ true → placed n l ≡ true
empty-placed [] n e = refl
empty-placed (r ∷ l) n e =
    let h : r.held ≡ false = not-true r.held (every-head (λ (x : Rival). not x.held) r l e) in
    rw h (empty-placed l (suc n) (every-tail (λ (x : Rival). not x.held) r l e))

nothing : (f : Option Rival) → is_there f ≡ false → slot_of f ≡ Err NoPath
nothing None e = refl
nothing (Some r) e = never {t = true} refl e

-- `choose` answers 11
pub empty-none : (l : List Rival) (margin : Float) → none_is (λ r. r.held) l ≡ true
    → choose_of l margin ≡ Err NoPath
unfolding choose_of
empty-none l margin e =
    ap (λ (m : List Rival). cond (not (none_is is_long m)) (Err Duration)
    (cond (not (placed 0 l)) (Err Index) (slot_of (picked_of l margin))))
    (empty-rivals l e)
    ∙ ap (λ (b : Bool). cond (not b) (Err Index) (slot_of (picked_of l margin))) (empty-placed l 0 e)
    ∙ nothing (picked_of l margin) (picked-there l margin ∙ ap not e)
