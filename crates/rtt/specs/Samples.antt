-- The samples of the window (document 01, "RTT, ETX, score": "`sample` drops samples older than the window, then fills
-- the first gap, else replaces the oldest (first of equals) of 32").
use Rattle.std.specs.Prelude.{ℕ, List, map, Bool, true, false, cond, ◌&&◌, ltb, length, set, Option}
use Rattle.std.specs.List.{filter}
use Rattle.base.specs.Marked.{place, first_leader}
use Rattle.base.specs.Time.{elapsed_of}
use Rattle.base.specs.Least.{least_of, largest_of}
use Rattle.rtt.specs.declared.types.Sample.{Sample}

-- how many samples the window keeps, `SAMPLES`
abbrev pub max_samples : ℕ
max_samples = 32

-- a gap, as a path starts with
abbrev pub no_sample : Sample
no_sample = record { at = 0; rtt = 0; used = false }

-- a place that is no gap
abbrev pub is_sample : Sample → Bool
is_sample s = s.used

-- a sample older than the window
abbrev pub is_old : ℕ → ℕ → Sample → Bool
is_old now window s = is_sample s && ltb window (elapsed_of now s.at)

-- a place after the drop; a gap stays what it is
abbrev pub kept_sample : ℕ → ℕ → Sample → Sample
kept_sample now window s = cond (is_old now window s) no_sample s

-- drops samples older than the window
abbrev pub kept_samples : ℕ → ℕ → List Sample → List Sample
kept_samples now window l = map (kept_sample now window) l

-- the order by age: s was taken before t
abbrev pub sample_earlier : Sample → Sample → Bool
sample_earlier s t = ltb s.at t.at

-- the place of the oldest sample (first of equals), or the length where there is none
abbrev pub oldest_sample : List Sample → ℕ
oldest_sample l = first_leader is_sample sample_earlier l

-- the first gap, else the oldest's place
abbrev pub sample_place : List Sample → ℕ
sample_place l = place is_sample sample_earlier l

-- a round trip measured now
abbrev pub new_sample : ℕ → ℕ → Sample
new_sample now x = record { at = now; rtt = x; used = true }

-- fills the first gap, else replaces the oldest
abbrev pub put_sample : ℕ → ℕ → List Sample → List Sample
put_sample now x l = set l (sample_place l) (new_sample now x)

-- drops samples older than the window, then fills the first gap, else replaces the oldest
unfoldable pub with_sample : ℕ → ℕ → ℕ → List Sample → List Sample
with_sample now x window l = put_sample now x (kept_samples now window l)

-- the round trips of the window
abbrev pub round_trips : List Sample → List ℕ
round_trips l = map (λ s. s.rtt) (filter is_sample l)

-- the least round trip among the window's samples
unfoldable pub min_rtt : List Sample → Option ℕ
min_rtt l = least_of (round_trips l)

-- the largest round trip among the window's samples
unfoldable pub max_rtt : List Sample → Option ℕ
max_rtt l = largest_of (round_trips l)

-- how many samples the window holds
unfoldable pub samples_of : List Sample → ℕ
samples_of l = length (filter is_sample l)
