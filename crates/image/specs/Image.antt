-- The image of a path, for the host that runs both sides (document 01, "Forms the Rust can't lend": it "calls ours as C
-- functions on numbers and bytes"): all that a path keeps as 225 numbers of eight bytes, so that the two are compared
-- field by field. What may be missing is a tag, 1 or 0, and a value, 0 if missing.
use Rattle.stop.specs.declared.types.Stop.{Stop}
use Rattle.std.specs.Prelude.{List, [], ◌∷◌, ◌++◌, ℕ, replicate, Option, None, Some, unwrap_or}
use Rattle.base.specs.Seq.{flag_of}
use Rattle.base.specs.Missing.{tag}
use Rattle.total.specs.Patterns.{etx_bits}
use Rattle.ring.specs.declared.types.Sent.{Sent}
use Rattle.ring.specs.declared.types.Ids.{Ids}
use Rattle.rtt.specs.declared.types.Sample.{Sample}
use Rattle.rtt.specs.declared.types.Span.{Span}
use Rattle.rtt.specs.declared.types.Rtts.{Rtts}
use Rattle.seek.specs.declared.types.Sizes.{Sizes}
use Rattle.seek.specs.declared.types.Ladder.{Ladder}
use Rattle.stop.specs.declared.types.Silence.{Silence}
use Rattle.live.specs.declared.types.Traffic.{Traffic}
use Rattle.live.specs.declared.types.Liveness.{Liveness}
use Rattle.octets.specs.Octets.{flat, words_of}

-- an instant or a duration that may be missing
abbrev pub time_words : Option ℕ → List ℕ
time_words x = tag x ∷ unwrap_or x 0 ∷ []

-- a place of the ring or of the late list: used, then what stands there, which says nothing where it is not used
abbrev pub sent_words : Sent → List ℕ
sent_words s = flag_of s.used ∷ s.probe_id ∷ s.at ∷ s.due ∷ s.len ∷ []

-- the identifiers: next, answered, epoch, since
abbrev pub ids_words : Ids → List ℕ
ids_words m =
    tag m.next_id ∷ unwrap_or m.next_id 0 ∷ tag m.answered ∷ unwrap_or m.answered 0
    ∷ tag m.epoch ∷ unwrap_or m.epoch 0 ∷ tag m.since ∷ unwrap_or m.since 0 ∷ []

-- the stop; seven zeros if there is none
abbrev pub stop_words : Option Stop → List ℕ
stop_words None = replicate 7 0
stop_words (Some s) =
    1 ∷ s.free ∷ s.gap ∷ s.used ∷ tag s.until ∷ unwrap_or s.until 0 ∷ flag_of s.owed ∷ []

-- the misses; the last size and whether it fell; the proven size; the search's instant, probe, length and lost ones
abbrev pub size_words : ℕ → Ladder → Sizes → List ℕ
size_words misses l s =
    misses ∷ tag l.last ∷ unwrap_or l.last 0 ∷ flag_of l.fallen ∷ tag s.proven ∷ unwrap_or s.proven 0
    ∷ tag s.seek.at ∷ unwrap_or s.seek.at 0 ∷ s.seek.probe_id ∷ s.seek.len ∷ s.seek.lost ∷ []

-- the frames received, their bytes, and when the last frame and the last session datagram came
abbrev pub traffic_words : Traffic → List ℕ
traffic_words t =
    t.frames ∷ t.bytes ∷ tag t.heard_at ∷ unwrap_or t.heard_at 0 ∷ tag t.data_at
    ∷ unwrap_or t.data_at 0 ∷ []

-- a place of the samples: used, then what stands there
abbrev pub sample_words : Sample → List ℕ
sample_words s = flag_of s.used ∷ s.at ∷ s.rtt ∷ []

-- a place of the spans: used, then what stands there
abbrev pub span_words : Span → List ℕ
span_words s = flag_of s.used ∷ s.from ∷ s.to ∷ s.rtt ∷ []

-- the identifiers, the silence clock, the stop
unfoldable pub marks_words : Ids → Silence → List ℕ
marks_words ids s = ids_words ids ++ time_words s.quiet ++ stop_words s.stop

-- the misses with the sizes, and the traffic
unfoldable pub counts_words : ℕ → Ladder → Sizes → Traffic → List ℕ
counts_words misses ladder sizes traffic = size_words misses ladder sizes ++ traffic_words traffic

-- the last RTT, the samples, the spans
unfoldable pub rtts_words : Rtts → List ℕ
rtts_words r = time_words r.rtt ++ flat sample_words r.samples ++ flat span_words r.spans

-- all that stands before the RTTs: the ring, the late list, the marks, the counts
unfoldable pub front_words : Liveness → List ℕ
front_words p =
    flat sent_words p.ring
    ++ flat sent_words p.late
    ++ marks_words p.ids p.silence
    ++ counts_words p.misses p.ladder p.sizes p.traffic

-- the 225 numbers
unfoldable pub image_words : Liveness → List ℕ
image_words p = front_words p ++ rtts_words p.rtts ++ (etx_bits p.etx ∷ [])

-- the 1,800 bytes
unfoldable pub image_of : Liveness → List ℕ
image_of p = words_of (image_words p)
