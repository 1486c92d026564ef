-- What C gets where a call can be refused: document 01's number, 0 if accepted, and the value, 0 if refused. And what C
-- passes where a number may be missing: a flag and the number.
use Rattle.std.specs.Prelude.{ℕ, Bool, cond, Float, Option, None, Some, Result, Ok, Err}
use Rattle.std.specs.Float.{binary64}
use Rattle.std.specs.Float.Ieee.{of_bits}
use Rattle.base.specs.Refusals.{refusal_number}
use Rattle.base.specs.declared.types.Refusal.{Refusal}
use Rattle.c_reply.specs.declared.Reply.{Reply}
use Rattle.c_reply.specs.declared.FloatReply.{FloatReply}

-- a refusal, and a number that is given
abbrev pub refused_reply : Refusal → Reply
refused_reply why = record { number = refusal_number why; value = 0 }

abbrev pub given : ℕ → Reply
given x = record { number = 0; value = x }

-- what was answered
abbrev pub answered : Result ℕ Refusal → Reply
answered (Ok x) = given x
answered (Err why) = refused_reply why

-- the same where the value is a float
abbrev pub no_float : Refusal → FloatReply
no_float why = record { number = refusal_number why; value = of_bits binary64 0 }

abbrev pub given_float : Float → FloatReply
given_float x = record { number = 0; value = x }

-- a length that may be missing
abbrev pub maybe_len : Bool → ℕ → Option ℕ
maybe_len held n = cond held (Some n) None

-- a number that may be missing
abbrev pub maybe_of : Bool → ℕ → Option ℕ
maybe_of held x = cond held (Some x) None
