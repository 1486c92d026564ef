-- The kind of a number, and the number of a kind.
-- Assumes nothing.
use Rattle.std.proofs.Common.{◌≡◌, ℕ, Bool, true, false, ◌||◌, List, [], ◌∷◌, Result, Ok, Err, eqb, ltb, ok_or, find, refl, sym, ap, ◌∙◌, ◌≢◌, ◌<◌, ◌≤◌, le-ltb, lt-ltb, arith}
use Rattle.std.proofs.lemmas.Bool.{eqb-true, eqb-false}
use Rattle.base.proofs.Cases.{on-flag, on-order, never}
use Rattle.base.specs.declared.types.Refusal.{Refusal}
use Rattle.base.specs.declared.types.Refusal.TheVariants as refusal
use Rattle.rules.specs.Event.{kind_number, kind_of, kinds}
use Rattle.rules.specs.declared.types.Event.{Event}
use Rattle.rules.specs.declared.types.Kind.{Kind}
use Rattle.rules.specs.declared.types.Kind.TheVariants.{Open, Probe, Answer, Poll, Sample, Fold, Prove, Search, Judge, Data, Fresh, Thaw, Sweep, Close, Choose}
use Rattle.refusals.specs.Refusals.{at_kind}

-- what a search finds passes its test
found-passes : (p : Kind → Bool) (l : List Kind) {k : Kind} → ok_or (find p l) refusal.Kind ≡ Ok k → p k ≡ true
found-passes p [] h = cc
found-passes p (x ∷ l) {k} h =
    on-flag (p x)
    (λ q. let e : ◌≡◌ {A = Result Kind Refusal} (Ok x) (Ok k) = rw q at h in let y : x ≡ k = cc in ap p (sym y) ∙ q)
    (λ q. found-passes p l (rw q at h))

-- a number has the kind whose number it is
pub kind-numbered : (n : ℕ) {k : Kind} → kind_of n ≡ Ok k → n ≡ kind_number k
kind-numbered n {k} h = eqb-true n (kind_number k) (found-passes (λ k. eqb n (kind_number k)) kinds h)

-- so an event is one with the number of its kind
pub kind-event : (e : Event) {k : Kind} → kind_of e.kind ≡ Ok k → at_kind k e ≡ e
kind-event e {k} h = λ i. record e { kind = sym (kind-numbered e.kind h) i }

-- the number of a kind is 1 to 15
pub kind-range : (k : Kind) → (ltb (kind_number k) 1 || ltb 15 (kind_number k)) ≡ false
kind-range Open = refl
kind-range Probe = refl
kind-range Answer = refl
kind-range Poll = refl
kind-range Sample = refl
kind-range Fold = refl
kind-range Prove = refl
kind-range Search = refl
kind-range Judge = refl
kind-range Data = refl
kind-range Fresh = refl
kind-range Thaw = refl
kind-range Sweep = refl
kind-range Close = refl
kind-range Choose = refl

-- ---- a number of 1 to 15 has a kind

-- a number is that of no kind of a list
abbrev Apart : ℕ → List Kind → Type 0
Apart n [] = Unit
Apart n (k ∷ l) = (n ≢ kind_number k) × Apart n l

unfound-apart : (n : ℕ) (l : List Kind) {why : Refusal} → ok_or (find (λ k. eqb n (kind_number k)) l) refusal.Kind ≡ Err why → Apart n l
unfound-apart n [] h = tt
unfound-apart n (k ∷ l) {why} h =
    on-flag (eqb n (kind_number k))
    (λ q. let z : ◌≡◌ {A = Result Kind Refusal} (Ok k) (Err why) = rw q at h in absurd cc)
    (λ q. (eqb-false n (kind_number k) q, unfound-apart n l (rw q at h)))

pub kind-there : (n : ℕ) {why : Refusal} → (ltb n 1 || ltb 15 n) ≡ false → kind_of n ≡ Err why → ⊥
kind-there n h e =
    on-order n 1
    (λ lo. never (rw (lt-ltb n 1 lo) refl) h)
    (λ lo.
    on-order 15 n
    (λ hi. never (rw (le-ltb n 1 lo, lt-ltb 15 n hi) refl) h)
    (λ hi.
    let a = unfound-apart n kinds e in
    omega (arith, a.0, a.1.0, a.1.1.0, a.1.1.1.0, a.1.1.1.1.0, a.1.1.1.1.1.0, a.1.1.1.1.1.1.0, a.1.1.1.1.1.1.1.0, a.1.1.1.1.1.1.1.1.0, a.1.1.1.1.1.1.1.1.1.0, a.1.1.1.1.1.1.1.1.1.1.0, a.1.1.1.1.1.1.1.1.1.1.1.0, a.1.1.1.1.1.1.1.1.1.1.1.1.0, a.1.1.1.1.1.1.1.1.1.1.1.1.1.0, a.1.1.1.1.1.1.1.1.1.1.1.1.1.1.0)))

-- only an open has the number 1
pub kind-other : (k : Kind) → (k ≡ Open → ⊥) → eqb (kind_number k) 1 ≡ false
kind-other Open h = absurd (h refl)
kind-other Probe h = refl
kind-other Answer h = refl
kind-other Poll h = refl
kind-other Sample h = refl
kind-other Fold h = refl
kind-other Prove h = refl
kind-other Search h = refl
kind-other Judge h = refl
kind-other Data h = refl
kind-other Fresh h = refl
kind-other Thaw h = refl
kind-other Sweep h = refl
kind-other Close h = refl
kind-other Choose h = refl
