-- The numbers of the refusals: none is 0, the number of a call that is accepted, and each fits a byte. Whoever asks
-- more of all of them cites this, so that a new one is tried here alone.
-- Assumes nothing.
use Rattle.std.proofs.Common.{◌≡◌, ◌<◌, ◌≤◌, false, eqb, arith, ne_eqb}
use Rattle.base.specs.Refusals.{refusal_number}
use Rattle.base.specs.declared.types.Refusal.{Refusal}
use Rattle.base.specs.declared.types.Refusal.TheVariants.{
  Slot,
  Empty,
  Held,
  Flag,
  Length,
  Duration,
  Margin,
  Full,
  Unknown,
  NoSize,
  NoPath,
  Index,
  Cut,
  Map,
  Kind,
  Lent,
  Due,
}

pub number-byte : (why : Refusal) → (1 ≤ refusal_number why) × (refusal_number why < 256)
number-byte Slot = (omega arith, omega arith)
number-byte Empty = (omega arith, omega arith)
number-byte Held = (omega arith, omega arith)
number-byte Flag = (omega arith, omega arith)
number-byte Length = (omega arith, omega arith)
number-byte Duration = (omega arith, omega arith)
number-byte Margin = (omega arith, omega arith)
number-byte Full = (omega arith, omega arith)
number-byte Unknown = (omega arith, omega arith)
number-byte NoSize = (omega arith, omega arith)
number-byte NoPath = (omega arith, omega arith)
number-byte Index = (omega arith, omega arith)
number-byte Cut = (omega arith, omega arith)
number-byte Map = (omega arith, omega arith)
number-byte Kind = (omega arith, omega arith)
number-byte Lent = (omega arith, omega arith)
number-byte Due = (omega arith, omega arith)

-- as a test
pub number-some : (why : Refusal) → eqb (refusal_number why) 0 ≡ false
number-some why = ne_eqb (refusal_number why) 0 (λ e. omega (arith, (number-byte why).0, e))
