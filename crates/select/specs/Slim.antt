-- For the choice over a record's slots: what a choice reads of a rival. It asks for no score over the horizon and no
-- base RTT.
use Rattle.std.specs.Prelude.{false}
use Rattle.std.specs.Float.{binary64}
use Rattle.std.specs.Float.Ieee.{of_bits}
use Rattle.select.specs.declared.types.Rival.{Rival}

-- a rival without its score over the horizon and its base RTT
abbrev pub slim_of : Rival → Rival
slim_of r =
    record {
      score = r.score;
      steady = of_bits binary64 0;
      rtt = r.rtt;
      base = 0;
      index = r.index;
      tier = r.tier;
      held = r.held;
      scored = r.scored;
      steadied = false;
      timed = r.timed;
      based = false;
      preferred = r.preferred;
      pinned = r.pinned;
      fits = r.fits;
      medium = r.medium;
    }
