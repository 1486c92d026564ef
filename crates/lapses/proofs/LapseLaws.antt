-- The scan for the probe that lapses, one turn of the loop after the other.
-- Assumes nothing.
use Rattle.std.specs.Prelude.{Option, None, Some}
use Prim.Native.Nat.{ℕ, zero, suc, ◌<◌, ◌≤◌}
use mathlib.Core.Path.{◌≡◌, refl, sym, ◌∙◌}
use mathlib.Core.List.{List, [], ◌∷◌}
use mathlib.Core.Bool.{Bool, true, false}
use native.Mathlib.Omega.{arith}
use lib.ListN.{length, get_or, set, length-set}
use lib.Dec.{ltb}
use Rattle.std.specs.List.{filter, position_from}
use Rattle.base.specs.Seq.{position}
use Rattle.base.specs.Time.{deadline_of}
use Rattle.ring.specs.Lapse.{passed_at, is_passed, defer_of, with_due, scan_of}
use Rattle.ring.specs.declared.types.Sent.{Sent}
use Rattle.base.proofs.Cases.{on-flag}
use Rattle.base.proofs.KeepLaws.{keep-less}
use Rattle.ring.proofs.PlaceLaws.{place_none, place_some}

module _ (p : Sent → Bool) (f : Sent → Option ℕ) where
  defers : (l : List Sent) (i : ℕ) (d : Sent) (u : ℕ) → i ≡ position p l → i < length l → f (get_or l i d) ≡ Some u → p (with_due (get_or l i d) u) ≡ false
      → scan_of p f (set l i (with_due (get_or l i d) u)) ≡ scan_of p f l
  defers [] i d u e h a b = absurd (omega arith)
  defers (x ∷ l) zero d u e h a b = on-flag (p x) (λ q. rw (b, q, a)) (λ q. absurd (omega (arith, rw q at e)))
  defers (x ∷ l) (suc i) d u e h a b =
      on-flag (p x)
      (λ q. absurd (omega (arith, rw q at e)))
      (λ q. rw (q, defers l i d u (omega (arith, rw q at e)) (omega arith) a b))

  lapses : (l : List Sent) (i : ℕ) (d : Sent) → i ≡ position p l → i < length l → f (get_or l i d) ≡ None → scan_of p f l ≡ record { ring = l; slot = i }
  lapses [] i d e h a = absurd (omega arith)
  lapses (x ∷ l) zero d e h a = on-flag (p x) (λ q. rw (q, a)) (λ q. absurd (omega (arith, rw q at e)))
  lapses (x ∷ l) (suc i) d e h a =
      on-flag (p x)
      (λ q. absurd (omega (arith, rw q at e)))
      (λ q. rw (q, lapses l i d (omega (arith, rw q at e)) (omega arith) a))

  none-lapses : (l : List Sent) (i : ℕ) → i ≡ position p l → length l ≤ i → scan_of p f l ≡ record { ring = l; slot = i }
  none-lapses [] zero e h = refl
  none-lapses [] (suc i) e h = absurd (omega arith)
  none-lapses (x ∷ l) zero e h = absurd (omega arith)
  none-lapses (x ∷ l) (suc i) e h =
      on-flag (p x)
      (λ q. absurd (omega (arith, rw q at e)))
      (λ q. rw (q, none-lapses l i (omega (arith, rw q at e)) (omega arith)))

-- a probe is deferred only to a due that has not passed
module _ (cap now : ℕ) (overdue : Bool) where
  pub not-passed : (t : Option ℕ) (s : Sent) (u : ℕ) → defer_of t cap now overdue s ≡ Some u → is_passed now overdue (with_due s u) ≡ false
  not-passed None s u e = let z : true ≡ false = cc in cc
  not-passed (Some t) s u e =
      on-flag (ltb s.at t)
      (λ a.
      on-flag (passed_at now overdue (deadline_of 64 s.at cap))
      (λ b. let z : None ≡ Some u = rw (a, b) at e in let y : true ≡ false = cc in cc)
      (λ b.
      let z : Some (deadline_of 64 s.at cap) ≡ Some u = rw (a, b) at e in
      let y : deadline_of 64 s.at cap ≡ u = cc in
      on-flag s.used (λ c. rw (c, sym y) b) (λ c. rw c)))
      (λ a. let z : None ≡ Some u = rw a at e in let y : true ≡ false = cc in cc)

-- what is left of a ring is scanned as the whole is
pub record Scanning (p : Sent → Bool) (f : Sent → Option ℕ) (l₀ : List Sent) (n : ℕ) (l : List Sent) : Type 0 where
  pub sound : (s : Sent) (u : ℕ) → f s ≡ Some u → p (with_due s u) ≡ false
  pub long : length l ≡ n
  pub same : scan_of p f l₀ ≡ scan_of p f l

module _ {p : Sent → Bool} {f : Sent → Option ℕ} {l₀ l : List Sent} {n : ℕ} (s : Scanning p f l₀ n l) where
  module _ {i : ℕ} (e : Some i ≡ position_from p 0 l) where
    pub scanning-place : i < n
    scanning-place = (place_some p l s.long e).1

    module _ (d : Sent) {u : ℕ} (a : f (get_or l i d) ≡ Some u) where
      pub scanning-defers : Scanning p f l₀ n (set l i (with_due (get_or l i d) u))
      scanning-defers =
          let r = place_some p l s.long e in
          record {
            sound = s.sound;
            long = rw length-set s.long;
            same = s.same ∙ sym (defers p f l i d u r.0 (omega arith) a (s.sound (get_or l i d) u a));
          }

      pub scanning-less : length (filter p (set l i (with_due (get_or l i d) u))) < length (filter p l)
      scanning-less =
          let r = place_some p l s.long e in
          keep-less p l i (with_due (get_or l i d) u) r.0 (omega arith) (s.sound (get_or l i d) u a)

    pub scanning-lapses : (d : Sent) → f (get_or l i d) ≡ None → record { ring = l; slot = i } ≡ scan_of p f l₀
    scanning-lapses d a = let r = place_some p l s.long e in sym (s.same ∙ lapses p f l i d r.0 (omega arith) a)

  pub scanning-none : None ≡ position_from p 0 l → record { ring = l; slot = n } ≡ scan_of p f l₀
  scanning-none e = sym (s.same ∙ none-lapses p f l n (place_none p l s.long e) (omega arith))

-- the same by the place as a number, the length where none has passed
module _ {p : Sent → Bool} {f : Sent → Option ℕ} {l₀ l : List Sent} {n i : ℕ} (d : Sent) where
  module _ (s : Scanning p f l₀ n l) (e : i ≡ position p l) (h : i < n) where
    pub scanning-defers-at : (u : ℕ) → f (get_or l i d) ≡ Some u → Scanning p f l₀ n (set l i (with_due (get_or l i d) u))
    scanning-defers-at u a =
        record {
          sound = s.sound;
          long = rw length-set s.long;
          same = s.same ∙ sym (defers p f l i d u e (omega arith) a (s.sound (get_or l i d) u a));
        }

    pub scanning-less-at : (u : ℕ) → f (get_or l i d) ≡ Some u → length (filter p (set l i (with_due (get_or l i d) u))) < length (filter p l)
    scanning-less-at u a = keep-less p l i (with_due (get_or l i d) u) e (omega arith) (s.sound (get_or l i d) u a)

    pub scanning-lapses-at : f (get_or l i d) ≡ None → record { ring = l; slot = i } ≡ scan_of p f l₀
    scanning-lapses-at a = sym (s.same ∙ lapses p f l i d e (omega arith) a)

pub scanning-none-at : {p : Sent → Bool} {f : Sent → Option ℕ} {l₀ l : List Sent} {n i : ℕ} → Scanning p f l₀ n l → i ≡ position p l → n ≤ i → record { ring = l; slot = i } ≡ scan_of p f l₀
scanning-none-at {p} {f} {l₀} {l} {n} {i} s e h = sym (s.same ∙ none-lapses p f l i e (omega arith))
