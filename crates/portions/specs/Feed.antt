-- Whether a session goes on.
use Rattle.std.specs.Prelude.{Bool, true, false}
use Rattle.session.specs.declared.types.Phase.{Phase}
use Rattle.session.specs.declared.types.Phase.TheVariants as phase

-- "After 13, 14 or 15 it stops": a session that is over writes no more
abbrev pub is_over : Phase → Bool
is_over phase.Settings = false
is_over phase.Running = false
is_over phase.Over = true
