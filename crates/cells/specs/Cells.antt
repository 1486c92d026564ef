-- What a row of four words says, or a word of it. Each definition is total, so that any words say something: a number is
-- taken modulo its width; a mark is a word that is not 0, one from a limit on, or a bit.
use Rattle.stop.specs.declared.types.Stop.{Stop}
use Rattle.std.specs.Prelude.{ℕ, ◌+◌, ◌*◌, ◌-◌, ◌/◌, ◌%◌, ◌^◌, List, [], ◌∷◌, Bool, true, false, not, cond, leb, ltb, eqb, Float, get_or, Option, None, Some}
use Rattle.std.specs.Float.{binary64}
use Rattle.std.specs.Float.Ieee.{of_bits}
use Rattle.base.specs.Seq.{flag_of}
use Rattle.ring.specs.declared.types.Sent.{Sent}
use Rattle.ring.specs.declared.types.Ids.{Ids}
use Rattle.rtt.specs.declared.types.Sample.{Sample}
use Rattle.rtt.specs.declared.types.Span.{Span}
use Rattle.seek.specs.declared.types.Sizes.{Sizes}
use Rattle.seek.specs.declared.types.Ladder.{Ladder}
use Rattle.live.specs.declared.types.Traffic.{Traffic}
use Rattle.rules.specs.Event.{label_of}
use Rattle.rules.specs.declared.types.Event.{Event}
use Rattle.rules.specs.declared.types.Label.{Label}
use Rattle.rules.specs.declared.types.Settings.{Settings}

-- a word of a row
abbrev pub word : List ℕ → ℕ → ℕ
word r k = get_or r k 0

-- a row with the word at a place anew
abbrev pub with_word : List ℕ → ℕ → ℕ → List ℕ
with_word r k x =
    cond (eqb k 0) x (word r 0) ∷ cond (eqb k 1) x (word r 1) ∷ cond (eqb k 2) x (word r 2) ∷ cond (eqb k 3) x (word r 3) ∷ []

-- a row with half of it anew: the last two words, or the first two
abbrev pub with_half : List ℕ → Bool → ℕ → ℕ → List ℕ
with_half r last x y =
    cond last (word r 0) x ∷ cond last (word r 1) y ∷ cond last x (word r 2) ∷ cond last y (word r 3) ∷ []

-- the lowest bit of a word
abbrev pub odd_in : ℕ → Bool
odd_in m = eqb (m % 2) 1

-- the bit of a word at a place, 0 the lowest
unfoldable pub bit_in : ℕ → ℕ → Bool
bit_in m i = odd_in (m / 2 ^ i)

-- a word with the bit at a place anew
unfoldable pub with_bit : ℕ → ℕ → Bool → ℕ
with_bit m i on = (m / 2 ^ i / 2 * 2 + flag_of on) * 2 ^ i + m % 2 ^ i

-- a mark
abbrev pub flag_in : ℕ → Bool
flag_in x = not (eqb x 0)

-- an identifier with 1 added, or 0 for none
abbrev pub id_in : ℕ → Option ℕ
id_in x = cond (eqb x 0) None (Some ((x - 1) % 2 ^ 32))

-- a length with 1 added, or 0 for none
abbrev pub length_in : ℕ → Option ℕ
length_in x = cond (eqb x 0) None (Some ((x - 1) % 65536))

-- a mark, and an instant or a duration
abbrev pub instant_in : ℕ → ℕ → Option ℕ
instant_in tag t = cond (eqb tag 0) None (Some t)

-- a probe: at, due, identifier, and its length with 65,536 added while the place is used
unfoldable pub sent_in : List ℕ → Sent
sent_in r =
    record {
      at = word r 0;
      due = word r 1;
      probe_id = word r 2 % 2 ^ 32;
      len = word r 3 % 65536;
      used = leb 65536 (word r 3);
    }

-- the identifiers: next, answered, epoch, since
unfoldable pub ids_in : List ℕ → Ids
ids_in r =
    record {
      next_id = id_in (word r 0);
      answered = id_in (word r 1);
      epoch = id_in (word r 2);
      since = id_in (word r 3);
    }

-- the identifiers with the one at a place of that order anew
abbrev pub with_id : Ids → ℕ → Option ℕ → Ids
with_id m k x =
    record {
      next_id = cond (eqb k 0) x m.next_id;
      answered = cond (eqb k 1) x m.answered;
      epoch = cond (eqb k 2) x m.epoch;
      since = cond (eqb k 3) x m.since;
    }

-- the stop: a mark, 0 with none, else 1, with 1 more if a slot is owed and 2 more if it has until; free, gap, used; and u
-- is until
unfoldable pub stop_in : List ℕ → ℕ → Option Stop
stop_in r u =
    cond (eqb (word r 0) 0)
    None
    (Some
    (record {
      free = word r 1;
      gap = word r 2;
      used = word r 3;
      until = cond (ltb 2 (word r 0)) (Some u) None;
      owed = eqb (word r 0 % 2) 0;
    }))

-- the sizes: the search's instant, its mark before it; identifier and length, half a word each; the lost size, the proven
unfoldable pub sizes_in : ℕ → ℕ → ℕ → ℕ → ℕ → Sizes
sizes_in tag at sent lost proven =
    record {
      seek =
          record {
            at = instant_in tag at;
            probe_id = sent % 2 ^ 32;
            len = sent / 2 ^ 32 % 65536;
            lost = lost % 65536;
          };
      proven = length_in proven;
    }

-- the ladder: the last size, and 131,072 more if it fell
unfoldable pub ladder_in : ℕ → Ladder
ladder_in w = record { last = length_in (w % 131072); fallen = leb 131072 w }

-- when the last frame and the last session datagram came; frames and bytes, half a word each
unfoldable pub traffic_in : List ℕ → ℕ → Traffic
traffic_in r counts =
    record {
      heard_at = instant_in (word r 0) (word r 1);
      data_at = instant_in (word r 2) (word r 3);
      frames = counts % 2 ^ 32;
      bytes = counts / 2 ^ 32 % 2 ^ 32;
    }

-- the misses
unfoldable pub misses_in : ℕ → ℕ
misses_in w = w % 2 ^ 32

-- the ETX, by its pattern
unfoldable pub etx_in : ℕ → Float
etx_in w = of_bits binary64 w

-- a sample in the last half of a row, or the first: at, round trip; whether its place is used is said elsewhere
abbrev pub sample_in : List ℕ → Bool → Bool → Sample
sample_in r last used = record { at = cond last (word r 2) (word r 0); rtt = cond last (word r 3) (word r 1); used = used }

-- samples, two to a row; the bits of m say which places are used, the lowest the first
abbrev pub samples_from : ℕ → List (List ℕ) → List Sample
samples_from m [] = []
samples_from m (r ∷ l) = sample_in r false (odd_in m) ∷ sample_in r true (odd_in (m / 2)) ∷ samples_from (m / 4) l

-- a span: from, to, round trip, whether the place is used
unfoldable pub span_in : List ℕ → Span
span_in r = record { from = word r 0; to = word r 1; rtt = word r 2; used = flag_in (word r 3) }

-- the slot's marks, in one word: the full size; 65,536 more if the slot holds a path; and from the bit above it on the
-- flag bits as an open has them. Whether it holds a path
unfoldable pub used_in : ℕ → Bool
used_in w = odd_in (w / 65536)

-- what an open with these flags says, its full size the 16 lowest bits of a word
unfoldable pub label_from : ℕ → ℕ → Label
label_from w flags = label_of (w % 65536) flags

-- what the slot's open said
abbrev pub label_in : ℕ → Label
label_in w = label_from w (w / 131072)

-- the settings of a record
unfoldable pub settings_in : List ℕ → Settings
settings_in r = record { cap = word r 0; gap = word r 1; window = word r 2; horizon = word r 3 }

-- an event: its instant; its span; identifier and length, half a word each; the acknowledged length, half a word, then
-- kind, slot and flags, a byte each, and a byte that is not read
unfoldable pub event_in : List ℕ → Event
event_in r =
    record {
      now = word r 0;
      span = word r 1;
      id = word r 2 % 2 ^ 32;
      len = word r 2 / 2 ^ 32 % 2 ^ 32;
      acked = word r 3 % 2 ^ 32;
      kind = word r 3 / 2 ^ 32 % 256;
      slot = word r 3 / 2 ^ 40 % 256;
      flags = word r 3 / 2 ^ 48 % 256;
    }
