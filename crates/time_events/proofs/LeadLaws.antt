-- The oldest sample found so far, with one more and with two.
-- Assumes nothing.
use Rattle.std.proofs.Common.{◌≡◌, ℕ, ◌+◌, ◌*◌, ◌<◌, ◌≤◌, Bool, true, false, not, ◌&&◌, ◌||◌, ltb, List, length, get_or, sym, refl, ap, ◌∙◌, subst, arith, lt-ltb}
use lib.ListN.{get_or-eq_default}
use Rattle.base.specs.Passes.{overtakes}
use Rattle.base.proofs.Cases.{on-flag}
use Rattle.base.proofs.FirstLaws.{by-least}
use Rattle.base.proofs.MarkedLaws.{LeadsFirst, leading-start}
use Rattle.rtt.specs.Samples.{is_sample, sample_earlier, no_sample}
use Rattle.rtt.specs.declared.types.Sample.{Sample}
use Rattle.time_events.specs.declared.window.Lead.{Lead}
use Rattle.time_events.specs.Pairs.{led_of}
use Rattle.time_events.proofs.StoreLaws.{leads-take, leads-skip}

-- the sample at the place of l
abbrev best_of : List Sample → Lead → Sample
best_of q l = get_or q l.place no_sample

-- l is the oldest of the first i of 32
pub record Leading (q : List Sample) (l : Lead) (i : ℕ) : Type 0 where
  pub leads : LeadsFirst is_sample sample_earlier no_sample q 32 (best_of q l) l.place i
  pub used : (best_of q l).used ≡ ltb l.place 32
  pub at : (best_of q l).at ≡ l.at

-- none of them
pub led-start : {q : List Sample} → length q ≡ 32 → Leading q (record { at = 0; place = 32 }) 0
led-start {q} h =
    let k : length q ≤ 32 = omega arith in
    let e : get_or q 32 no_sample ≡ no_sample = get_or-eq_default q no_sample k in
    record {
      leads = rw e (leading-start refl h);
      used = ap (λ (s : Sample). s.used) e;
      at = ap (λ (s : Sample). s.at) e;
    }

-- one more
led-next : (q : List Sample) (l r : Lead) (s : Sample) (i : ℕ) → Leading q l i → i < 32 → s ≡ get_or q i no_sample
    → r ≡ led_of l s i → Leading q r (i + 1)
led-next q l r s i w h e f =
    let z : overtakes is_sample sample_earlier s (best_of q l) ≡ (s.used && (not (ltb l.place 32) || ltb s.at l.at)) =
    λ j. s.used && (not (w.used j) || ltb s.at (w.at j)) in
    on-flag (s.used && (not (ltb l.place 32) || ltb s.at l.at))
    (λ c. let g : led_of l s i ≡ record { at = s.at; place = i } = rw c in
    let u : s.used ≡ true = taken s.used (not (ltb l.place 32) || ltb s.at l.at) c in
    subst (λ (x : Lead). Leading q x (i + 1)) (sym (f ∙ g))
    (record {
      leads = rw e at (leads-take (by-least (λ (t : Sample). t.at)) w.leads h e (z ∙ c));
      used = ap (λ (t : Sample). t.used) (sym e) ∙ u ∙ sym (lt-ltb i 32 h);
      at = ap (λ (t : Sample). t.at) (sym e);
    }))
    (λ c. let g : led_of l s i ≡ l = rw c in
    subst (λ (x : Lead). Leading q x (i + 1)) (sym (f ∙ g))
    (record { leads = leads-skip (by-least (λ (t : Sample). t.at)) w.leads h e (z ∙ c); used = w.used; at = w.at }))
  where
    taken : (a b : Bool) → (a && b) ≡ true → a ≡ true
    taken true b g = refl
    taken false b g = g

-- two more, at places 2 k and 2 k + 1
pub led-two : (q : List Sample) (k : ℕ) {l m r : Lead} {s t : Sample} → Leading q l (2 * k) → 2 * k + 1 < 32
    → s ≡ get_or q (2 * k) no_sample → m ≡ led_of l s (2 * k) → t ≡ get_or q (2 * k + 1) no_sample → r ≡ led_of m t (2 * k + 1)
    → Leading q r (2 * (k + 1))
led-two q k {l} {m} {r} {s} {t} w h a b c d =
    let e : 2 * k + 1 + 1 ≡ 2 * (k + 1) = omega arith in
    subst (λ (x : ℕ). Leading q r x) e
    (led-next q m r t (2 * k + 1) (led-next q l m s (2 * k) w (omega arith) a b) h c d)
