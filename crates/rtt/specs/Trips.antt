-- The three round trips of a path, last, least and base: they come together, and least and base are at most the last
-- (`new-trips` and `sample-trips` of proofs/RttLaws.antt: a new path is so, and `sample` keeps it).
use Rattle.std.specs.Prelude.{ℕ, ◌≤◌, ◌≡◌, ◌⊎◌, length, Option, None, Some}
use Rattle.rtt.specs.Samples.{max_samples, min_rtt}
use Rattle.rtt.specs.Spans.{max_spans, base_rtt}
use Rattle.rtt.specs.declared.types.Rtts.{Rtts}

-- there is a number, and it is at most x
pub record Under (x : ℕ) (m : Option ℕ) : Type 0 where
  pub least : ℕ
  pub is : m ≡ Some least
  pub low : least ≤ x

-- 32 places for samples and 8 for spans
pub record Sized (r : Rtts) : Type 0 where
  pub samples : length r.samples ≡ max_samples
  pub spans : length r.spans ≡ max_spans

-- nothing is measured: none of the three is there
pub record Unmeasured (r : Rtts) : Type 0 where
  pub last : r.rtt ≡ None
  pub least : min_rtt r.samples ≡ None
  pub base : base_rtt r.spans ≡ None

-- x was measured last: all three are there, and none is above x
pub record Measured (r : Rtts) (x : ℕ) : Type 0 where
  pub last : r.rtt ≡ Some x
  pub least : Under x (min_rtt r.samples)
  pub base : Under x (base_rtt r.spans)

-- none is there, or all three
pub record Trips (r : Rtts) : Type 0 where
  pub sized : Sized r
  pub together : Unmeasured r ⊎ ((x : ℕ) × Measured r x)
