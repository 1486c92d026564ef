-- The whole file: a fuel of as many records as bytes are left is enough, so the events and the end unroll record by
-- record.
-- Assumes nothing.
use Prim.Native.Nat.{ℕ, zero, suc, ◌+◌, ◌≤◌}
use mathlib.Core.Path.{◌≡◌, refl, sym, ◌∙◌}
use mathlib.Core.List.{List, [], ◌∷◌}
use native.Mathlib.Omega.{arith}
use lib.ListN.{length}
use Rattle.base.specs.declared.types.Refusal.{Refusal}
use Rattle.rules.specs.declared.types.Event.{Event}
use Rattle.eventfile.specs.File.{parse_of, events_by, events_from, Ending, Whole, Bad, end_by, end_from}
use Rattle.eventfile.specs.declared.types.Parse.{Parse}
use Rattle.eventfile.specs.declared.types.Parse.TheVariants as parse
use Rattle.eventfile.proofs.ReadLaws.{Stands, parse-stands, parse-end}

-- ---- enough fuel

-- two ways on from a place that agree on every later place
abbrev Agree : {A : Type 0} → ℕ → (ℕ → A) → (ℕ → A) → Type 0
Agree at more more' = (next : ℕ) → at + 3 ≤ next → more next ≡ more' next

events-agree : (l : List ℕ) (at : ℕ) (p : Parse) (more more' : ℕ → List Event) → Stands l at p → Agree at more more'
    → events_by p more ≡ events_by p more'
events-agree l at parse.End more more' s h = refl
events-agree l at (parse.Event e next) more more' s h = λ i. e ∷ h next s.0 i
events-agree l at (parse.Refused why kind) more more' s h = refl

end-agree : (l : List ℕ) (at : ℕ) (p : Parse) (more more' : ℕ → Ending) → Stands l at p → Agree at more more'
    → end_by p more ≡ end_by p more'
end-agree l at parse.End more more' s h = refl
end-agree l at (parse.Event e next) more more' s h = h next s.0
end-agree l at (parse.Refused why kind) more more' s h = refl

-- the events do not depend on the fuel, where that is the bytes that are left or more
pub events-fuel : (f g : ℕ) (l : List ℕ) (at : ℕ) → length l ≤ at + f → length l ≤ at + g
    → events_from f l at ≡ events_from g l at
unfolding events_from
events-fuel zero zero l at h k = refl
events-fuel zero (suc g) l at h k = λ i. events_by (parse-end l at (omega (arith, h)) i) (events_from g l)
events-fuel (suc f) zero l at h k = λ i. events_by (sym (parse-end l at (omega (arith, k))) i) (events_from f l)
events-fuel (suc f) (suc g) l at h k =
    events-agree l at (parse_of l at) (events_from f l) (events_from g l) (parse-stands l at)
    (λ next n. events-fuel f g l next (omega (arith, h, n)) (omega (arith, k, n)))

-- nor does the end
pub end-fuel : (f g : ℕ) (l : List ℕ) (at : ℕ) → length l ≤ at + f → length l ≤ at + g → end_from f l at ≡ end_from g l at
unfolding end_from
end-fuel zero zero l at h k = refl
end-fuel zero (suc g) l at h k = λ i. end_by (parse-end l at (omega (arith, h)) i) (end_from g l)
end-fuel (suc f) zero l at h k = λ i. end_by (sym (parse-end l at (omega (arith, k))) i) (end_from f l)
end-fuel (suc f) (suc g) l at h k =
    end-agree l at (parse_of l at) (end_from f l) (end_from g l) (parse-stands l at)
    (λ next n. end-fuel f g l next (omega (arith, h, n)) (omega (arith, k, n)))

-- ---- record by record

-- what comes from a place, by what stands there and what comes from the next one
pub events-here : (f : ℕ) (l : List ℕ) (at : ℕ) → length l ≤ at + f
    → events_from f l at ≡ events_by (parse_of l at) (events_from f l)
unfolding events_from
events-here zero l at h = λ i. events_by (parse-end l at (omega (arith, h)) i) (events_from zero l)
events-here (suc f) l at h =
    events-agree l at (parse_of l at) (events_from f l) (events_from (suc f) l) (parse-stands l at)
    (λ next n. events-fuel f (suc f) l next (omega (arith, h, n)) (omega (arith, h, n)))

pub end-here : (f : ℕ) (l : List ℕ) (at : ℕ) → length l ≤ at + f → end_from f l at ≡ end_by (parse_of l at) (end_from f l)
unfolding end_from
end-here zero l at h = λ i. end_by (parse-end l at (omega (arith, h)) i) (end_from zero l)
end-here (suc f) l at h =
    end-agree l at (parse_of l at) (end_from f l) (end_from (suc f) l) (parse-stands l at)
    (λ next n. end-fuel f (suc f) l next (omega (arith, h, n)) (omega (arith, h, n)))

module _ (f : ℕ) (l : List ℕ) (at : ℕ) (h : length l ≤ at + f) where
  -- at the end
  pub events-end : parse_of l at ≡ parse.End → events_from f l at ≡ []
  events-end e = events-here f l at h ∙ (λ i. events_by (e i) (events_from f l))

  pub end-end : parse_of l at ≡ parse.End → end_from f l at ≡ Whole
  end-end e = end-here f l at h ∙ (λ i. end_by (e i) (end_from f l))

  -- at an event
  pub events-event : {e : Event} {next : ℕ} → parse_of l at ≡ parse.Event e next
      → events_from f l at ≡ e ∷ events_from f l next
  events-event e = events-here f l at h ∙ (λ i. events_by (e i) (events_from f l))

  pub end-event : {e : Event} {next : ℕ} → parse_of l at ≡ parse.Event e next → end_from f l at ≡ end_from f l next
  end-event e = end-here f l at h ∙ (λ i. end_by (e i) (end_from f l))

  -- at a record that cannot be read
  pub events-refused : {why : Refusal} {kind : ℕ} → parse_of l at ≡ parse.Refused why kind → events_from f l at ≡ []
  events-refused e = events-here f l at h ∙ (λ i. events_by (e i) (events_from f l))

  pub end_refused : {why : Refusal} {kind : ℕ} → parse_of l at ≡ parse.Refused why kind → end_from f l at ≡ Bad why kind
  end_refused e = end-here f l at h ∙ (λ i. end_by (e i) (end_from f l))
