-- The refusal numbers (document 01, "Peer record", the table; document 02, "Errors"): the first that applies is given.
use Rattle.std.specs.Prelude.{ℕ}
use Rattle.base.specs.declared.types.Refusal.{Refusal}
use Rattle.base.specs.declared.types.Refusal.TheVariants.{
  Slot,
  Empty,
  Held,
  Flag,
  Length,
  Duration,
  Margin,
  Full,
  Unknown,
  NoSize,
  NoPath,
  Index,
  Cut,
  Map,
  Kind,
  Lent,
  Due,
}

abbrev pub refusal_number : Refusal → ℕ
refusal_number Slot = 1
refusal_number Empty = 2
refusal_number Held = 3
refusal_number Flag = 4
refusal_number Length = 5
refusal_number Duration = 6
refusal_number Margin = 7
refusal_number Full = 8
refusal_number Unknown = 9
refusal_number NoSize = 10
refusal_number NoPath = 11
refusal_number Index = 12
refusal_number Cut = 13
refusal_number Map = 14
refusal_number Kind = 15
refusal_number Lent = 16
refusal_number Due = 23
