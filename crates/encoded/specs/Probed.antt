-- A path with another's probes, or another's measures: the two together are all of it.
use Rattle.live.specs.Path.{with_ring, with_late, with_silence, with_ids, with_ladder, with_misses, with_rtts, with_sizes}
use Rattle.live.specs.Path.{with_traffic, with_etx}
use Rattle.live.specs.declared.types.Liveness.{Liveness}

-- ring, late list, identifiers, ladder and misses of q
abbrev pub probed_with : Liveness → Liveness → Liveness
probed_with p q =
    with_misses
    (with_ladder (with_ids (with_late (with_ring p q.ring) q.late) q.ids) q.ladder)
    q.misses

-- round trips, sizes, traffic, ETX and silence of q
abbrev pub measured_with : Liveness → Liveness → Liveness
measured_with p q =
    with_silence (with_etx (with_traffic (with_sizes (with_rtts p q.rtts) q.sizes) q.traffic) q.etx) q.silence
