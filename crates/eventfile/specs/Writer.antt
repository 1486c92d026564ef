-- The writer of event files, and what it means that its bytes are read back.
use Rattle.std.specs.Prelude.{ℕ, ◌+◌, ◌^◌, ◌<◌, ◌≡◌, false, cond, List, [], ◌∷◌, ◌++◌, map, length}
use Rattle.octets.specs.Octets.{le, flat, words_of}
use Rattle.rules.specs.declared.types.Event.{Event}
use Rattle.rules.specs.declared.types.Settings.{Settings}
use Rattle.eventfile.specs.File.{settings_of, stands, record_size, is_kindless, is_stray, parse_of, events_of, Whole, ending_of}
use Rattle.eventfile.specs.declared.types.Parse.TheVariants as parse

-- a field, if its bit stands
abbrev pub field_bytes : ℕ → ℕ → ℕ → ℕ → List ℕ
field_bytes bit width map x = cond (stands bit map) (le width x) []

-- the record of an event with this map: "map, kind, slot (u8), then the fields whose bit stands"
unfoldable pub record_bytes : ℕ → Event → List ℕ
record_bytes map e =
    map
    ∷ e.kind
    ∷ e.slot
    ∷ field_bytes 0 8 map e.now
    ++ (field_bytes 1 8 map e.span
    ++ (field_bytes 2 4 map e.id
    ++ (field_bytes 3 2 map e.len ++ (field_bytes 4 2 map e.acked ++ field_bytes 5 1 map e.flags))))

-- a field can be written: it fits its bytes, and is 0 where its bit does not stand
abbrev pub Held : ℕ → ℕ → ℕ → ℕ → Type 0
Held bit width map x = (x < 256 ^ width) × (stands bit map ≡ false → x ≡ 0)

-- an event can be written with this map: its kind is one of the fifteen, the map has no other bits than the kind, and
-- each field can be written
pub record Writable (map : ℕ) (e : Event) : Type 0 where
  pub kind : is_kindless e.kind ≡ false
  pub bits : is_stray map e.kind ≡ false
  pub now : Held 0 8 map e.now
  pub span : Held 1 8 map e.span
  pub id : Held 2 4 map e.id
  pub len : Held 3 2 map e.len
  pub acked : Held 4 2 map e.acked
  pub flags : Held 5 1 map e.flags

-- a file: settings, then the records of some events, each with its map
unfoldable pub file_bytes : Settings → List (ℕ × Event) → List ℕ
file_bytes t rs = words_of (t.cap ∷ t.gap ∷ t.window ∷ t.horizon ∷ []) ++ flat (λ r. record_bytes r.0 r.1) rs

-- each of these can be written with its map
abbrev pub AllWritable : List (ℕ × Event) → Type 0
AllWritable [] = Unit {0}
AllWritable (r ∷ rs) = Writable r.0 r.1 × AllWritable rs

-- each setting fits its eight bytes
abbrev pub AllFit : Settings → Type 0
AllFit t = (t.cap < 2 ^ 64) × (t.gap < 2 ^ 64) × (t.window < 2 ^ 64) × (t.horizon < 2 ^ 64)

-- a record that was written is read back, with any bytes before it and behind it
abbrev pub RecordsReadBack : Type 0
RecordsReadBack =
    (map : ℕ) (e : Event) (before behind : List ℕ)
    → Writable map e
    → parse_of (before ++ (record_bytes map e ++ behind)) (length before) ≡ parse.Event e (length before + record_size map)

-- a file that was written is read back: its settings, its events, and its end after a whole record
abbrev pub FilesReadBack : Type 0
FilesReadBack =
    (t : Settings) (rs : List (ℕ × Event))
    → AllFit t
    → AllWritable rs
    → (settings_of (file_bytes t rs) ≡ t)
    × (events_of (file_bytes t rs) ≡ map (λ r. r.1) rs)
    × (ending_of (file_bytes t rs) ≡ Whole)
