-- What the list of refusals tries of an event's fields, by the number of its kind; and a list in two parts.
-- Assumes nothing.
use Rattle.std.specs.Prelude.{Result, Ok, Err}
use Prim.Native.Nat.{ℕ}
use mathlib.Core.Path.{◌≡◌, refl, sym, ap, ◌∙◌}
use mathlib.Core.Bool.{Bool, true, false, not, ◌&&◌, ◌||◌, or-false, false≢true}
use mathlib.Core.List.{List, [], ◌∷◌, ◌++◌}
use lib.Dec.{eqb, leb, ltb}
use lib.ListN.{take, drop}
use Rattle.base.proofs.Cases.{on-flag}
use Rattle.base.specs.Limits.{is_overlong, is_undersize, is_endless}
use Rattle.base.specs.declared.types.Refusal.{Refusal}
use Rattle.base.specs.declared.types.Refusal.TheVariants.{Slot, Empty, Held, Flag, Length, Duration, Due}
use Rattle.rules.specs.Event.{kind_number, kind_of}
use Rattle.rules.specs.Rules.{refusals}
use Rattle.rules.specs.declared.types.Kind.{Kind}
use Rattle.refusals.proofs.KindLaws.{kind-event, kind-range}
use Rattle.rules.specs.declared.types.Settings.{Settings}
use Rattle.rules.specs.declared.types.Event.{Event}
use Rattle.refusals.specs.Refusals.{verdict_of, at_kind}

module _ (t : Settings) (e : Event) (r : Result Unit Refusal) where
  -- the verdict on these tests is that on the fields of an event of kind k
  abbrev Tries : ℕ → List (Refusal × Bool) → Type 0
  Tries k x = e.kind ≡ k → r ≡ verdict_of x → r ≡ verdict_of (drop 4 (refusals t true e))

  abbrev Sized : List (Refusal × Bool)
  Sized = (Length, is_overlong e.len || is_undersize e.len) ∷ []

  pub tries-1 : Tries 1 ((Flag, leb 128 e.flags) ∷ Sized)
  tries-1 k q = q ∙ simp (or-false, k)

  pub tries-2 : Tries 2 ((Length, is_overlong e.len) ∷ (Due, ltb e.span e.now) ∷ [])
  tries-2 k q = q ∙ simp (or-false, k)

  pub tries-3 : Tries 3 ((Length, is_overlong e.acked) ∷ (Duration, is_endless t.gap) ∷ [])
  tries-3 k q = q ∙ simp (or-false, k)

  pub tries-4 : Tries 4 ((Flag, leb 2 e.flags) ∷ (Duration, is_endless t.cap) ∷ [])
  tries-4 k q = q ∙ simp (or-false, k)

  pub tries-5 : Tries 5 ((Duration, is_endless e.span || (is_endless t.window || is_endless t.horizon)) ∷ [])
  tries-5 k q = q ∙ simp (or-false, k)

  pub tries-6 : Tries 6 ((Flag, leb 2 e.flags) ∷ [])
  tries-6 k q = q ∙ simp k

  pub tries-7 : Tries 7 Sized
  tries-7 k q = q ∙ simp (or-false, k)

  pub tries-9 : Tries 9 ((Duration, is_endless e.span || is_endless t.gap) ∷ [])
  tries-9 k q = q ∙ simp (or-false, k)

  pub tries-10 : Tries 10 ((Length, is_overlong e.len) ∷ [])
  tries-10 k q = q ∙ simp (or-false, k)

-- a kind with no field that is tried
pub tries-none : (t : Settings) (e : Event) → eqb e.kind 1 ≡ false → eqb e.kind 2 ≡ false → eqb e.kind 3 ≡ false
    → eqb e.kind 4 ≡ false → eqb e.kind 5 ≡ false → eqb e.kind 6 ≡ false → eqb e.kind 7 ≡ false
    → eqb e.kind 9 ≡ false → eqb e.kind 10 ≡ false → Ok tt ≡ verdict_of (drop 4 (refusals t true e))
tries-none t e a b c d f g h i j = rw (a, b, c, d, f, g, h, i, j)

-- no verdict is both
is_pass : Result Unit Refusal → Bool
is_pass (Ok tt) = true
is_pass (Err why) = false

pub pass-refuses : {why : Refusal} → ◌≡◌ {A = Result Unit Refusal} (Ok tt) (Err why) → ⊥
unfolding is_pass
pass-refuses h = false≢true (sym (ap is_pass h))

-- a list whose front refuses, and one whose front passes
pub verdict-front : (l m : List (Refusal × Bool)) {why : Refusal} → verdict_of l ≡ Err why
    → verdict_of (l ++ m) ≡ Err why
verdict-front [] m h = absurd (pass-refuses h)
verdict-front (x ∷ l) m {why} h =
    on-flag x.1 (λ q. rw q (rw q at h)) (λ q. rw q (verdict-front l m (rw q at h)))

pub verdict-back : (l m : List (Refusal × Bool)) → verdict_of l ≡ Ok tt → verdict_of (l ++ m) ≡ verdict_of m
verdict-back [] m h = refl
verdict-back (x ∷ l) m h =
    on-flag x.1 (λ q. absurd (pass-refuses (sym (rw q at h)))) (λ q. rw q (verdict-back l m (rw q at h)))

-- one test that does not refuse
pub verdict-one : (why : Refusal) (b : Bool) → verdict_of ((why, b) ∷ []) ≡ Ok tt → b ≡ false
verdict-one why b h = on-flag b (λ q. absurd (pass-refuses (sym (rw q at h)))) (λ q. q)

-- an event whose kind is k, on a slot that is one: by the slot's two tests, then by the fields
module _ (t : Settings) (used : Bool) (e : Event) {k : Kind} (h : kind_of e.kind ≡ Ok k) (s : verdict_of ((Slot, ltb 7 e.slot) ∷ []) ≡ Ok tt)
    {v : Result Unit Refusal}
    (w : v ≡ verdict_of ((Empty, not (eqb (kind_number k) 1) && not used) ∷ (Held, eqb (kind_number k) 1 && used) ∷ [])) where
  front : v ≡ verdict_of (take 4 (refusals t used (at_kind k e)))
  front = w ∙ sym (rw (kind-range k, verdict-one Slot (ltb 7 e.slot) s))

  pub refused-slot : {why : Refusal} → v ≡ Err why → Err why ≡ verdict_of (refusals t used e)
  refused-slot q =
      sym (verdict-front (take 4 (refusals t used (at_kind k e))) (drop 4 (refusals t used (at_kind k e))) (sym front ∙ q))
      ∙ ap (λ (x : Event). verdict_of (refusals t used x)) (kind-event e h)

  pub passed-slot : {r : Result Unit Refusal} → v ≡ Ok tt → r ≡ verdict_of (drop 4 (refusals t true (at_kind k e)))
      → r ≡ verdict_of (refusals t used e)
  passed-slot q f =
      f ∙ sym (verdict-back (take 4 (refusals t used (at_kind k e))) (drop 4 (refusals t used (at_kind k e))) (sym front ∙ q))
      ∙ ap (λ (x : Event). verdict_of (refusals t used x)) (kind-event e h)
