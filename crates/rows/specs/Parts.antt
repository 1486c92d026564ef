-- A path with a part changed that is smaller than the parts of live's specs/Path.antt.
use Rattle.stop.specs.declared.types.Stop.{Stop}
use Rattle.std.specs.Prelude.{ℕ, List, set, get_or, Option}
use Rattle.ring.specs.Ring.{no_sent}
use Rattle.ring.specs.declared.types.Sent.{Sent}
use Rattle.rtt.specs.declared.types.Sample.{Sample}
use Rattle.rtt.specs.declared.types.Span.{Span}
use Rattle.seek.specs.declared.types.Seek.{Seek}
use Rattle.live.specs.Path.{with_silence, with_sizes, with_rtts}
use Rattle.live.specs.declared.types.Liveness.{Liveness}

-- a list with the probe at one place at another too
abbrev pub moved : List Sent → ℕ → ℕ → List Sent
moved l from to = set l to (get_or l from no_sent)

-- another silence clock
abbrev pub with_quiet : Liveness → Option ℕ → Liveness
with_quiet p q = with_silence p (record { stop = p.silence.stop; quiet = q })

-- another stop
abbrev pub with_stop : Liveness → Option Stop → Liveness
with_stop p m = with_silence p (record { stop = m; quiet = p.silence.quiet })

-- another proven size
abbrev pub with_proven : Liveness → Option ℕ → Liveness
with_proven p m = with_sizes p (record { seek = p.sizes.seek; proven = m })

-- another search
abbrev pub with_seek_in : Liveness → Seek → Liveness
with_seek_in p s = with_sizes p (record { seek = s; proven = p.sizes.proven })

-- other samples
abbrev pub with_samples : Liveness → List Sample → Liveness
with_samples p l = with_rtts p (record { samples = l; spans = p.rtts.spans; rtt = p.rtts.rtt })

-- other spans
abbrev pub with_spans : Liveness → List Span → Liveness
with_spans p l = with_rtts p (record { samples = p.rtts.samples; spans = l; rtt = p.rtts.rtt })

-- another latest round trip
abbrev pub with_trip : Liveness → Option ℕ → Liveness
with_trip p t = with_rtts p (record { samples = p.rtts.samples; spans = p.rtts.spans; rtt = t })
