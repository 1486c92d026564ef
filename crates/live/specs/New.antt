-- A path that has done nothing yet, as an open makes it, and the room in its ring (the Rust's `room`).
use Rattle.std.specs.Prelude.{ℕ, Bool, false, ◌&&◌, replicate, nat_lt, None}
use Rattle.std.specs.Float.Ieee
use Rattle.ring.specs.Ring.{max_waiting, max_late, no_sent, outstanding_of}
use Rattle.rtt.specs.Rtts.{new_rtts}
use Rattle.seek.specs.Search.{new_seek}
use Rattle.stop.specs.Silence.{new_silence}
use Rattle.live.specs.declared.types.Liveness.{Liveness}

-- no probe sent, nothing measured, nothing proven, ETX 1
abbrev pub new_liveness : Liveness
new_liveness =
    record {
      rtts = new_rtts;
      ring = replicate max_waiting no_sent;
      late = replicate max_late no_sent;
      silence = new_silence;
      ids = record { next_id = None; answered = None; epoch = None; since = None };
      sizes = record { seek = new_seek; proven = None };
      ladder = record { last = None; fallen = false };
      traffic = record { heard_at = None; data_at = None; frames = 0; bytes = 0 };
      etx = Ieee.of_bits Ieee.binary64 0x3ff0_0000_0000_0000;
      misses = 0;
    }

-- fewer probes wait than cap and than the ring's eight places
abbrev pub room_of : Liveness → ℕ → Bool
room_of p cap = nat_lt (outstanding_of p.ring) cap && nat_lt (outstanding_of p.ring) max_waiting
