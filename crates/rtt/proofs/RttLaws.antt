-- What `sample` does to the three round trips of a path: none is there before the first sample; after a sample of x the
-- last is x, and the least of the window and the least over the horizon are there and at most x. For a later reader of
-- a path's standing.
-- Assumes nothing.
use Rattle.std.specs.Prelude.{Some}
use Prim.Native.Nat.{ℕ, suc, ◌<◌, ◌≤◌}
use mathlib.Core.Path.{◌≡◌, refl}
use mathlib.Core.Logic.{inl, inr}
use mathlib.Core.List.{List, ◌∷◌, ◌++◌, map}
use mathlib.Core.Bool.{Bool, true}
use native.Mathlib.Omega.{arith}
use lib.ListN.{length, get_or, set, take, drop, length-map, length-set}
use Rattle.std.specs.List.{filter}
use Rattle.base.proofs.Cases.{on-flag, on-order, never}
use Rattle.base.proofs.ScanLaws.{map-append, keep-set}
use Rattle.base.proofs.FirstLaws.{by-least}
use Rattle.base.proofs.LeastLaws.{In, least-there, least-bound}
use Rattle.base.proofs.MarkedLaws.{place-there}
use Rattle.base.specs.Least.{least_of}
use Rattle.rtt.specs.Samples.{no_sample, is_sample, sample_earlier, kept_sample, kept_samples, sample_place, new_sample, with_sample, min_rtt}
use Rattle.rtt.specs.Spans as spans
use Rattle.rtt.specs.Spans.{no_span, is_span, kept_span, kept_spans, newest_span, span_place, joins_of, joined_of, new_span, span_of, base_rtt}
use Rattle.rtt.specs.Rtts.{new_rtts, sampled_rtts}
use Rattle.rtt.specs.Trips.{Under, Sized, Unmeasured, Measured, Trips}
use Rattle.rtt.specs.declared.types.Sample.{Sample}
use Rattle.rtt.specs.declared.types.Span.{Span}
use Rattle.rtt.specs.declared.types.Rtts.{Rtts}
use Rattle.rtt.proofs.SpanLaws.{joins-none}

-- the least of a list that has one of at most x
least_under : (a b : List ℕ) (x y : ℕ) → y ≤ x → Under x (least_of (a ++ (y ∷ b)))
least_under a b x y h = go (least-there (a ++ (y ∷ b)) y there)
  where
    there : In (a ++ (y ∷ b)) y
    there = record { front = a; back = b; there = refl }

    go : (m : ℕ) × (least_of (a ++ (y ∷ b)) ≡ Some m) → Under x (least_of (a ++ (y ∷ b)))
    go (m, e) = record { least = m; is = e; low = omega (arith, least-bound (a ++ (y ∷ b)) m y e there) }

-- the same, where the one was stored at a place
module _ {A : Type 0} (held : A → Bool) (g : A → ℕ) where
  stored-under : (l : List A) (i : ℕ) (s : A) (x : ℕ) → i < length l → held s ≡ true → g s ≤ x → Under x (least_of (map g (filter held (set l i s))))
  stored-under l i s x h e k =
      rw (keep-set held l i s h e, map-append) (least_under (map g (filter held (take i l))) (map g (filter held (drop (suc i) l))) x (g s) k)

-- ---- the window's least and the horizon's

sample-least : (now x window : ℕ) (l : List Sample) → 0 < length l → Under x (min_rtt (with_sample now x window l))
unfolding min_rtt with_sample
sample-least now x window l h =
    let k : length (kept_samples now window l) ≡ length l = length-map l (kept_sample now window) in
    let p : sample_place (kept_samples now window l) < length (kept_samples now window l) =
    place-there is_sample sample_earlier (by-least (λ (s : Sample). s.at)) no_sample refl (kept_samples now window l) (omega arith)
    in
    stored-under is_sample (λ (s : Sample). s.rtt) (kept_samples now window l) (sample_place (kept_samples now window l)) (new_sample now x) x p refl (omega arith)

span-least : (now x horizon : ℕ) (l : List Span) → 0 < length l → Under x (base_rtt (span_of now x horizon l))
unfolding base_rtt span_of
span-least now x horizon l h =
    let k : length (kept_spans now horizon l) ≡ length l = length-map l (kept_span now horizon) in
    let m = kept_spans now horizon l in
    on-flag (joins_of now horizon (get_or m (newest_span m) no_span))
    (λ e.
    on-order (newest_span m) (length m)
    (λ p. rw e (stored-under is_span (λ (s : Span). s.rtt) m (newest_span m) (joined_of now x (get_or m (newest_span m) no_span)) x p refl (omega arith)))
    (λ p. never e (joins-none now horizon m (newest_span m) p)))
    (λ e.
    let p : span_place m < length m = place-there is_span spans.span_earlier (by-least (λ (s : Span). s.from)) no_span refl m (omega arith) in
    rw e (stored-under is_span (λ (s : Span). s.rtt) m (span_place m) (new_span now x) x p refl (omega arith)))

-- ---- the three together

pub new-sized : Sized new_rtts
new-sized = record { samples = refl; spans = refl }

pub new-unmeasured : Unmeasured new_rtts
unfolding min_rtt base_rtt
new-unmeasured = record { last = refl; least = refl; base = refl }

pub sample-measured : (r : Rtts) (now x window horizon : ℕ) → Sized r → Measured (sampled_rtts r now x window horizon) x
sample-measured r now x window horizon s =
    record {
      last = refl;
      least = sample-least now x window r.samples (omega arith);
      base = span-least now x horizon r.spans (omega arith);
    }

pub sample-sized : (r : Rtts) (now x window horizon : ℕ) → Sized r → Sized (sampled_rtts r now x window horizon)
unfolding with_sample span_of
sample-sized r now x window horizon s =
    record {
      samples = rw (length-set, length-map) s.samples;
      spans =
          let m = kept_spans now horizon r.spans in
          on-flag (joins_of now horizon (get_or m (newest_span m) no_span))
          (λ e. rw (e, length-set, length-map) s.spans)
          (λ e. rw (e, length-set, length-map) s.spans);
    }

-- ---- what a path keeps of its round trips

pub new-trips : Trips new_rtts
new-trips = record { sized = new-sized; together = inl new-unmeasured }

pub sample-trips : (r : Rtts) (now x window horizon : ℕ) → Trips r → Trips (sampled_rtts r now x window horizon)
sample-trips r now x window horizon t =
    record {
      sized = sample-sized r now x window horizon t.sized;
      together = inr (x, sample-measured r now x window horizon t.sized);
    }
