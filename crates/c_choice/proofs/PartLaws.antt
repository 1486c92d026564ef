-- The tail of lent bytes, as a part of them is lent on.
-- Assumes nothing.
use Prim.Native.Nat.{ℕ, ◌-◌}
use mathlib.Core.Path.{◌≡◌}
use mathlib.Core.List.{List}
use native.Mathlib.Nat.{le_of_eq}
use borrow.Rule.Slice.PartMut.{mid_of}
use lib.ListN.{length, drop, length-drop}
use lib.Seq.{take_all}

pub tail_from : (s : List ℕ) (at : ℕ) → mid_of at (length s - at) s ≡ drop at s
tail_from s at = take_all (length s - at) (drop at s) (le_of_eq (length-drop at s))
