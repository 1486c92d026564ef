-- A path with one part changed, for the rules that name what they change: all else stays.
use Rattle.std.specs.Prelude.{ℕ, List, Float}
use Rattle.ring.specs.declared.types.Sent.{Sent}
use Rattle.ring.specs.declared.types.Ids.{Ids}
use Rattle.rtt.specs.declared.types.Rtts.{Rtts}
use Rattle.seek.specs.declared.types.Sizes.{Sizes}
use Rattle.seek.specs.declared.types.Ladder.{Ladder}
use Rattle.stop.specs.declared.types.Silence.{Silence}
use Rattle.live.specs.declared.types.Traffic.{Traffic}
use Rattle.live.specs.declared.types.Liveness.{Liveness}

-- all that a probe changes, and apart from it all that no probe of the ring changes: for the definitions below alone
abbrev with_probes : Liveness → List Sent → List Sent → Silence → Ids → Ladder → ℕ → Liveness
with_probes p ring late silence ids ladder misses =
    record {
      rtts = p.rtts;
      ring = ring;
      late = late;
      silence = silence;
      ids = ids;
      sizes = p.sizes;
      ladder = ladder;
      traffic = p.traffic;
      etx = p.etx;
      misses = misses;
    }

abbrev with_measures : Liveness → Rtts → Sizes → Traffic → Float → Liveness
with_measures p rtts sizes traffic etx =
    record {
      rtts = rtts;
      ring = p.ring;
      late = p.late;
      silence = p.silence;
      ids = p.ids;
      sizes = sizes;
      ladder = p.ladder;
      traffic = traffic;
      etx = etx;
      misses = p.misses;
    }

-- another ring
abbrev pub with_ring : Liveness → List Sent → Liveness
with_ring p ring = with_probes p ring p.late p.silence p.ids p.ladder p.misses

-- another late list
abbrev pub with_late : Liveness → List Sent → Liveness
with_late p late = with_probes p p.ring late p.silence p.ids p.ladder p.misses

-- another silence clock or stop
abbrev pub with_silence : Liveness → Silence → Liveness
with_silence p silence = with_probes p p.ring p.late silence p.ids p.ladder p.misses

-- other identifiers
abbrev pub with_ids : Liveness → Ids → Liveness
with_ids p ids = with_probes p p.ring p.late p.silence ids p.ladder p.misses

-- another last size, or fallen
abbrev pub with_ladder : Liveness → Ladder → Liveness
with_ladder p ladder = with_probes p p.ring p.late p.silence p.ids ladder p.misses

-- other misses
abbrev pub with_misses : Liveness → ℕ → Liveness
with_misses p misses = with_probes p p.ring p.late p.silence p.ids p.ladder misses

-- other RTTs
abbrev pub with_rtts : Liveness → Rtts → Liveness
with_rtts p rtts = with_measures p rtts p.sizes p.traffic p.etx

-- other sizes
abbrev pub with_sizes : Liveness → Sizes → Liveness
with_sizes p sizes = with_measures p p.rtts sizes p.traffic p.etx

-- other traffic
abbrev pub with_traffic : Liveness → Traffic → Liveness
with_traffic p traffic = with_measures p p.rtts p.sizes traffic p.etx

-- another ETX
abbrev pub with_etx : Liveness → Float → Liveness
with_etx p etx = with_measures p p.rtts p.sizes p.traffic etx
