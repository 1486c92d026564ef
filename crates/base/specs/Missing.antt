-- What may be missing, of any type: whether it is there, as 1 or 0. As a flag that is the library's `is_some`, and the
-- number with 0 in place of a missing one its `unwrap_or`.
use Rattle.std.specs.Prelude.{ℕ, Option, is_some}
use Rattle.base.specs.Seq.{flag_of}

abbrev pub tag : {A : Type 0} → Option A → ℕ
tag x = flag_of (is_some x)
