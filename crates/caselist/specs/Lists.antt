-- A list of events in words, with the answers and the standings that it is to give. It is four settings, as a file has
-- them, then its calls; the standings stand apart.
use Rattle.std.specs.Prelude.{ℕ, zero, suc, ◌+◌, ◌*◌, ◌/◌, ◌^◌, List, [], ◌∷◌, map, Bool, false, cond, ◌&&◌, leb, length, take, drop, replicate}
use Rattle.octets.specs.Octets.{read_at, flat, over}
use Rattle.rules.specs.Step.{Entry, allowed, fresh_record, run, trace}
use Rattle.rules.specs.declared.types.Event.{Event}
use Rattle.rules.specs.declared.types.Record.{Record}
use Rattle.rules.specs.declared.types.Slot.{Slot}
use Rattle.standing.specs.Standing.{standing_of, standing_bytes}
use Rattle.eventfile.specs.File.{settings_of}
use Rattle.cells.specs.Cells.{event_in}
use Rattle.replay.specs.Replay.{alike}

-- the four words at the front of bytes
abbrev pub words_in : List ℕ → List ℕ
words_in b = read_at 0 8 b ∷ read_at 8 8 b ∷ read_at 16 8 b ∷ read_at 24 8 b ∷ []

-- a call has 40 bytes: the four words of an event, and the word that is to answer it
abbrev pub call_event : List ℕ → Event
call_event b = event_in (words_in b)

abbrev pub given_of : List ℕ → ℕ
given_of b = read_at 32 8 b

-- n calls, one behind the other
abbrev pub calls_from : ℕ → List ℕ → List (List ℕ)
calls_from zero l = []
calls_from (suc n) l = take 40 l ∷ calls_from n (drop 40 l)

-- those that lie whole within the bytes
abbrev pub whole_calls : List ℕ → List (List ℕ)
whole_calls l = calls_from (length l / 40) l

-- an answer as one word: the refusal number times 2^32, and the value
abbrev pub answer_word : Entry → ℕ
answer_word x = x.number * 2 ^ 32 + x.value

-- from a record on, each call is answered with its word
abbrev pub answers_agree : Record → List (List ℕ) → Bool
answers_agree r calls = alike (map answer_word (trace r (map call_event calls))) (map given_of calls)

-- the 51 bytes of a slot: the standing of its path over zeros, which stay where the slot is empty; no standing is all
-- zeros, since its ETX is 1 or more
abbrev pub slot_told : Slot → List ℕ
slot_told s = over (cond s.used (standing_bytes (standing_of s.path)) []) (replicate 51 0)

abbrev pub standings_agree : List Slot → List ℕ → Bool
standings_agree slots given = alike (flat slot_told slots) given

-- the settings are whole and allowed, each call on a new record is answered with its word, and the standings after the
-- last are these
unfoldable pub list_agrees : List ℕ → List ℕ → Bool
list_agrees told given =
    let new = fresh_record (settings_of told) in
    let calls = whole_calls (drop 32 told) in
    cond (leb 32 (length told) && allowed (settings_of told))
    (answers_agree new calls && standings_agree (run new (map call_event calls)).slots given)
    false
