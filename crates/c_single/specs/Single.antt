-- What the single functions reply over C: the limits' refusal numbers, then the value.
use Rattle.std.specs.Prelude.{ℕ, Bool, cond, ◌||◌, Float, Option}
use Rattle.base.specs.Limits.{is_overlong, is_undersize, is_endless}
use Rattle.base.specs.Time.{deadline_of}
use Rattle.base.specs.declared.types.Refusal.TheVariants.{Length, Duration}
use Rattle.etx.specs.Etx.{seconds_of, score_of}
use Rattle.seek.specs.Ladder.{ladder_size}
use Rattle.seek.specs.declared.types.Ladder.{Ladder}
use Rattle.rtt.specs.Times.{timeout_by}
use Rattle.c_reply.specs.Replies.{refused_reply, given, no_float, given_float, maybe_len}
use Rattle.c_reply.specs.declared.Reply.{Reply}
use Rattle.c_reply.specs.declared.FloatReply.{FloatReply}

-- 6 for a duration of 2 ^ 62 or more
unfoldable pub deadline_reply : ℕ → ℕ → Reply
deadline_reply t d = cond (is_endless d) (refused_reply Duration) (given (deadline_of 64 t d))

unfoldable pub seconds_reply : ℕ → FloatReply
seconds_reply ns = cond (is_endless ns) (no_float Duration) (given_float (seconds_of ns))

unfoldable pub score_reply : Float → ℕ → FloatReply
score_reply etx rtt = cond (is_endless rtt) (no_float Duration) (given_float (score_of etx rtt))

-- the ladder of a path with these marks
abbrev pub ladder_of : Bool → Bool → ℕ → Ladder
ladder_of fallen held last = record { last = maybe_len held last; fallen = fallen }

-- a full size, or a last one, outside the limits
abbrev pub is_outside : ℕ → ℕ → Bool
is_outside full last = is_overlong full || (is_undersize full || is_overlong last)

-- 5 for a full size above 65,535 or below 27, or a last size above 65,535
unfoldable pub size_reply : ℕ → Bool → Bool → ℕ → Reply
size_reply full fallen held last = cond (is_outside full last) (refused_reply Length)
    (given (ladder_size (ladder_of fallen held last) full))

-- 6 for a floor or cap of 2 ^ 62 or more
unfoldable pub timeout_reply : ℕ → ℕ → Option ℕ → Option ℕ → Reply
timeout_reply floor cap last largest =
    cond (is_endless floor || is_endless cap) (refused_reply Duration) (given (timeout_by last largest floor cap))
