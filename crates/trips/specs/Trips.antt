-- What a pass over the samples keeps, with one more of them: the least round trip.
use Rattle.std.specs.Prelude.{ℕ, min, cond, List, get_or}
use Rattle.rtt.specs.Samples.{no_sample}
use Rattle.rtt.specs.declared.types.Sample.{Sample}

-- the lower of a round trip and that of the sample at place i, if it is one
abbrev pub lower_at : List Sample → ℕ → ℕ → ℕ
lower_at l i least = cond (get_or l i no_sample).used (min least (get_or l i no_sample).rtt) least
