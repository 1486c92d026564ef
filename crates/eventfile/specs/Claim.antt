-- Demand 3 of the events that the bytes of a file hold.
use Rattle.std.specs.Prelude.{true, List, ◌≡◌, ℕ}
use Rattle.rules.specs.Step.{allowed}
use Rattle.rules.specs.Demand3.{FewDraws, Demand3}
use Rattle.eventfile.specs.File.{settings_of, events_of}

-- "for every list of the fifteen events, refused ones included, from a fresh record, in which no opened path draws 2^32
-- identifiers": the file's events, on a record with its settings
abbrev pub FileDemand : List ℕ → Type 0
FileDemand file =
    allowed (settings_of file) ≡ true → FewDraws (settings_of file) (events_of file)
    → Demand3 (settings_of file) (events_of file)
