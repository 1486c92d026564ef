-- The encoder's rows and words: the row, or the word of a row, that says a given thing. What is not read is 0.
use Rattle.stop.specs.declared.types.Stop.{Stop}
use Rattle.std.specs.Prelude.{ℕ, ◌+◌, ◌*◌, ◌^◌, List, [], ◌∷◌, Bool, cond, Float, Option, None, Some, unwrap_or}
use Rattle.base.specs.Seq.{flag_of}
use Rattle.ring.specs.declared.types.Sent.{Sent}
use Rattle.ring.specs.declared.types.Ids.{Ids}
use Rattle.rtt.specs.declared.types.Sample.{Sample}
use Rattle.rtt.specs.declared.types.Span.{Span}
use Rattle.seek.specs.declared.types.Seek.{Seek}
use Rattle.seek.specs.declared.types.Sizes.{Sizes}
use Rattle.seek.specs.declared.types.Ladder.{Ladder}
use Rattle.live.specs.declared.types.Traffic.{Traffic}
use Rattle.base.specs.Missing.{tag}
use Rattle.total.specs.Patterns.{etx_bits}
use Rattle.select.specs.Media.{medium_bits}
use Rattle.select.specs.declared.types.Role.{Role}
use Rattle.select.specs.declared.types.Role.TheVariants as role
use Rattle.rules.specs.Event.{role_weight, pinned_weight, fits_weight, preferred_weight}
use Rattle.rules.specs.declared.types.Event.{Event}
use Rattle.rules.specs.declared.types.Label.{Label}
use Rattle.rules.specs.declared.types.Settings.{Settings}

-- an identifier with 1 added, or 0 for none
abbrev pub id_word : Option ℕ → ℕ
id_word None = 0
id_word (Some x) = x + 1

-- a length with 1 added, or 0 for none
abbrev pub len_word : Option ℕ → ℕ
len_word None = 0
len_word (Some n) = n + 1

-- a probe
unfoldable pub sent_row : Sent → List ℕ
sent_row s = s.at ∷ s.due ∷ s.probe_id ∷ (s.len + cond s.used 65536 0) ∷ []

-- the identifiers
unfoldable pub ids_row : Ids → List ℕ
ids_row m = id_word m.next_id ∷ id_word m.answered ∷ id_word m.epoch ∷ id_word m.since ∷ []

-- the silence clock, and the search's instant
unfoldable pub clocks_row : Option ℕ → Option ℕ → List ℕ
clocks_row q at = tag q ∷ unwrap_or q 0 ∷ tag at ∷ unwrap_or at 0 ∷ []

-- the stop, all 0 with none
unfoldable pub stop_row : Option Stop → List ℕ
stop_row None = 0 ∷ 0 ∷ 0 ∷ 0 ∷ []
stop_row (Some s) = (1 + flag_of s.owed + 2 * tag s.until) ∷ s.free ∷ s.gap ∷ s.used ∷ []

-- its until, 0 with none
unfoldable pub until_word : Option Stop → ℕ
until_word None = 0
until_word (Some s) = unwrap_or s.until 0

-- until, the ETX, and the latest round trip
unfoldable pub trips_row : Option Stop → Float → Option ℕ → List ℕ
trips_row m x t = until_word m ∷ etx_bits x ∷ tag t ∷ unwrap_or t 0 ∷ []

-- the search's identifier and length
unfoldable pub search_word : Seek → ℕ
search_word s = s.probe_id + s.len * 2 ^ 32

-- the ladder
unfoldable pub ladder_word : Ladder → ℕ
ladder_word l = len_word l.last + 131072 * flag_of l.fallen

-- the search, the lost and the proven size, and the ladder
unfoldable pub search_row : Sizes → Ladder → List ℕ
search_row s l = search_word s.seek ∷ s.seek.lost ∷ len_word s.proven ∷ ladder_word l ∷ []

-- when the last frame and the last session datagram came
unfoldable pub arrivals_row : Traffic → List ℕ
arrivals_row t =
    tag t.heard_at ∷ unwrap_or t.heard_at 0 ∷ tag t.data_at ∷ unwrap_or t.data_at 0 ∷ []

-- frames and bytes
unfoldable pub count_word : Traffic → ℕ
count_word t = t.frames + t.bytes * 2 ^ 32

-- the rows of samples, two to a row
abbrev pub sample_rows : List Sample → List (List ℕ)
sample_rows [] = []
sample_rows (s ∷ []) = (s.at ∷ s.rtt ∷ 0 ∷ 0 ∷ []) ∷ []
sample_rows (s ∷ t ∷ l) = (s.at ∷ s.rtt ∷ t.at ∷ t.rtt ∷ []) ∷ sample_rows l

-- the word that says which of their places are used, the first one's bit the lowest
abbrev pub sample_bits : List Sample → ℕ
sample_bits [] = 0
sample_bits (s ∷ l) = flag_of s.used + 2 * sample_bits l

-- a span
unfoldable pub span_row : Span → List ℕ
span_row s = s.from ∷ s.to ∷ s.rtt ∷ flag_of s.used ∷ []

-- the numbers of roles in an open's flags
abbrev pub role_bits : Role → ℕ
role_bits role.Never = 0
role_bits role.Backup = 1
role_bits role.Normal = 2
role_bits role.Preferred = 3

-- the flags of an open that says this: the one whose label it is (`label-flags`)
abbrev pub flag_bits : Label → ℕ
flag_bits l =
    medium_bits l.medium + role_weight * role_bits l.role + pinned_weight * flag_of l.pinned
    + fits_weight * flag_of l.fits + preferred_weight * flag_of l.preferred

-- whether a slot holds a path, and what its open said
unfoldable pub label_word : Bool → Label → ℕ
label_word used l = l.full + 65536 * flag_of used + 131072 * flag_bits l

-- frames and bytes, which samples are used, the slot's marks, the misses
unfoldable pub marks_row : Traffic → List Sample → Bool → Label → ℕ → List ℕ
marks_row t l used label misses = count_word t ∷ sample_bits l ∷ label_word used label ∷ misses ∷ []

-- the settings of a record
unfoldable pub settings_row : Settings → List ℕ
settings_row t = t.cap ∷ t.gap ∷ t.window ∷ t.horizon ∷ []

-- the words of an event, the byte that is not read 0
unfoldable pub event_row : Event → List ℕ
event_row e =
    e.now ∷ e.span ∷ (e.id + e.len * 2 ^ 32)
    ∷ (e.acked + e.kind * 2 ^ 32 + e.slot * 2 ^ 40 + e.flags * 2 ^ 48) ∷ []
