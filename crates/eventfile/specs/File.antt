-- Event files (document 01, "Files and tail"): "four u64 settings, then records".
use Rattle.std.specs.Prelude.{ℕ, zero, suc, ◌+◌, ◌/◌, ◌%◌, ◌^◌, Bool, false, not, cond, ◌&&◌, ◌||◌, List, [], ◌∷◌, eqb, ltb, length, drop, get_or}
use Rattle.base.specs.declared.types.Refusal.{Refusal}
use Rattle.base.specs.declared.types.Refusal.TheVariants as refusal
use Rattle.octets.specs.Octets.{read_at}
use Rattle.rules.specs.Event.{kind_number}
use Rattle.rules.specs.declared.types.Kind.{Kind}
use Rattle.rules.specs.declared.types.Kind.TheVariants.{Open, Probe, Answer, Poll, Sample, Fold, Prove, Search, Judge, Data}
use Rattle.rules.specs.declared.types.Kind.TheVariants.{Fresh, Thaw, Sweep, Close, Choose}
use Rattle.rules.specs.declared.types.Event.{Event}
use Rattle.rules.specs.declared.types.Settings.{Settings}
use Rattle.eventfile.specs.declared.types.Layout.{Layout}
use Rattle.eventfile.specs.declared.types.Parse.{Parse}
use Rattle.eventfile.specs.declared.types.Parse.TheVariants as parse

-- ---- settings

-- "four u64 settings": "cap, gap, window, horizon"; one that is not whole is 0
abbrev pub settings_of : List ℕ → Settings
settings_of l = record { cap = read_at 0 8 l; gap = read_at 8 8 l; window = read_at 16 8 l; horizon = read_at 24 8 l }

-- ---- the fields of a record

-- a bit of the map stands
abbrev pub stands : ℕ → ℕ → Bool
stands bit map = eqb (map / 2 ^ bit % 2) 1

-- "the fields whose bit stands": the bytes of a field of so many
abbrev pub bytes : ℕ → ℕ → ℕ → ℕ
bytes bit width map = cond (stands bit map) width 0

-- "map, kind, slot (u8), then the fields whose bit stands: 0 now u64, 1 span u64 (due, RTT, timeout or margin bits),
-- 2 draw or id u32, 3 length u16, 4 acked u16, 5 flags u8": where each begins, counted from the record's first byte
abbrev pub now_at : ℕ
now_at = 3

abbrev pub span_at : ℕ → ℕ
span_at map = now_at + bytes 0 8 map

abbrev pub id_at : ℕ → ℕ
id_at map = span_at map + bytes 1 8 map

abbrev pub len_at : ℕ → ℕ
len_at map = id_at map + bytes 2 4 map

abbrev pub acked_at : ℕ → ℕ
acked_at map = len_at map + bytes 3 2 map

abbrev pub flags_at : ℕ → ℕ
flags_at map = acked_at map + bytes 4 2 map

-- the bytes of a record, by the bits 0 to 5 of its map: "map bits 6 and 7 bring no bytes"
abbrev pub record_size : ℕ → ℕ
record_size map = flags_at map + bytes 5 1 map

-- all of these places
abbrev pub layout_of : ℕ → Layout
layout_of map =
    record {
      span = span_at map;
      id = id_at map;
      len = len_at map;
      acked = acked_at map;
      flags = flags_at map;
      size = record_size map;
    }

-- "little-endian, an absent field is 0": a field of so many bytes, which begins there if its bit stands
abbrev pub field : ℕ → ℕ → ℕ → ℕ → List ℕ → ℕ
field bit width map at l = cond (stands bit map) (read_at at width l) 0

-- the event of the record with this map and kind that the bytes begin with
abbrev pub event_of : ℕ → ℕ → List ℕ → Event
event_of map kind l =
    record {
      now = field 0 8 map now_at l;
      span = field 1 8 map (span_at map) l;
      id = field 2 4 map (id_at map) l;
      len = field 3 2 map (len_at map) l;
      acked = field 4 2 map (acked_at map) l;
      kind = kind;
      slot = get_or l 2 0;
      flags = field 5 1 map (flags_at map) l;
    }

-- ---- kinds and their fields

-- "Fields: open 3, 5; probe 0-3; answer 0, 2, 4; poll 0, 5; sample, judge 0, 1; fold 5; prove 3; search 0, 2; data
-- 0, 3; choose 1."
abbrev pub bits_of : Kind → List ℕ
bits_of Open = 3 ∷ 5 ∷ []
bits_of Probe = 0 ∷ 1 ∷ 2 ∷ 3 ∷ []
bits_of Answer = 0 ∷ 2 ∷ 4 ∷ []
bits_of Poll = 0 ∷ 5 ∷ []
bits_of Sample = 0 ∷ 1 ∷ []
bits_of Judge = 0 ∷ 1 ∷ []
bits_of Fold = 5 ∷ []
bits_of Prove = 3 ∷ []
bits_of Search = 0 ∷ 2 ∷ []
bits_of Data = 0 ∷ 3 ∷ []
bits_of Choose = 1 ∷ []
bits_of Fresh = []
bits_of Thaw = []
bits_of Sweep = []
bits_of Close = []

abbrev pub kinds : List Kind
kinds =
    Open
    ∷ Probe
    ∷ Answer
    ∷ Poll
    ∷ Sample
    ∷ Fold
    ∷ Prove
    ∷ Search
    ∷ Judge
    ∷ Data
    ∷ Fresh
    ∷ Thaw
    ∷ Sweep
    ∷ Close
    ∷ Choose
    ∷ []

-- some element of a list passes a test
abbrev pub any : {A : Type 0} → (A → Bool) → List A → Bool
any p [] = false
any p (x ∷ l) = p x || any p l

-- the kind with this number has this bit
abbrev pub has_bit : ℕ → ℕ → Bool
has_bit kind bit = any (λ k. any (λ b. eqb b bit) (bits_of k) && eqb kind (kind_number k)) kinds

-- 15: "kind not 1 to 15"
abbrev pub is_kindless : ℕ → Bool
is_kindless kind = ltb kind 1 || ltb 15 kind

-- 14: "map bit the kind has not"; "map bits 6 and 7 .. get 14"
unfoldable pub is_stray : ℕ → ℕ → Bool
is_stray map kind = any (λ b. not (has_bit kind b) && stands b map) (0 ∷ 1 ∷ 2 ∷ 3 ∷ 4 ∷ 5 ∷ 6 ∷ 7 ∷ [])

-- ---- one record

-- "a file record 13, 15, 14 before 1": what the bytes begin with, by the map and the kind there; an event comes with
-- the bytes of its record
unfoldable pub front_by : ℕ → ℕ → List ℕ → Parse
front_by map kind l =
    cond (ltb (length l) (record_size map)) (parse.Refused refusal.Cut kind)
    (cond (is_kindless kind) (parse.Refused refusal.Kind kind)
    (cond (is_stray map kind) (parse.Refused refusal.Map kind) (parse.Event (event_of map kind l) (record_size map))))

-- the same with the map and the kind that are there: "kind is 0 if unread"; where there are no bytes, no record begins
unfoldable pub front_of : List ℕ → Parse
front_of [] = parse.End
front_of (map ∷ l) = front_by map (get_or l 0 0) (map ∷ l)

-- counted from a place on
abbrev pub from : ℕ → Parse → Parse
from at parse.End = parse.End
from at (parse.Event e size) = parse.Event e (at + size)
from at (parse.Refused why kind) = parse.Refused why kind

-- the record at a place of a file, an event with the place after it
unfoldable pub parse_of : List ℕ → ℕ → Parse
parse_of l at = from at (front_of (drop at l))

-- ---- the whole file

-- the event of a record, and the events after it; none from the first record on that cannot be read
abbrev pub events_by : Parse → (ℕ → List Event) → List Event
events_by parse.End more = []
events_by (parse.Event e next) more = e ∷ more next
events_by (parse.Refused why kind) more = []

-- the events of at most f records from a place on
unfoldable pub events_from : ℕ → List ℕ → ℕ → List Event
events_from zero l at = []
events_from (suc f) l at = events_by (parse_of l at) (events_from f l)

-- the events of the records after the settings; a record has three bytes or more, so there are fewer than bytes
unfoldable pub events_of : List ℕ → List Event
events_of l = events_from (length l) l 32

-- how the records end: after a whole one; or at one that cannot be read, with 13, 14 or 15 and its kind, 0 if unread
pub data Ending : Type 0 where
  Whole : Ending
  Bad : Refusal → ℕ → Ending

abbrev pub end_by : Parse → (ℕ → Ending) → Ending
end_by parse.End more = Whole
end_by (parse.Event e next) more = more next
end_by (parse.Refused why kind) more = Bad why kind

-- how at most f records from a place on end
unfoldable pub end_from : ℕ → List ℕ → ℕ → Ending
end_from zero l at = Whole
end_from (suc f) l at = end_by (parse_of l at) (end_from f l)

-- how the records after the settings end
unfoldable pub ending_of : List ℕ → Ending
ending_of l = end_from (length l) l 32
