-- What holds a change of the active path (the Rust's `held` and `waits`, whose bodies are the definition), and the hold
-- on a link's cost (document 01, "Files and tail": "`Hold` holds before at + dwell or while a report of 2 is owed").
use Rattle.base.specs.declared.types.Refusal.{Refusal}
use Rattle.std.specs.Prelude.{ℕ, ◌-◌, Bool, not, cond, ◌&&◌, ◌||◌, ltb, Float, Option, None, Some, Result, Ok, Err, true, false}
use Rattle.std.specs.Float.{binary64}
use Rattle.std.specs.Float.Ieee.{mul, lt, le}
use Rattle.base.specs.Limits.{is_endless}
use Rattle.base.specs.Time.{deadline_of}
use Rattle.base.specs.declared.types.Refusal.TheVariants.{Duration}
use Rattle.select.specs.Media.{quicker_of}
use Rattle.select.specs.Rivals.{is_long}
use Rattle.select.specs.declared.types.Rival.{Rival}
use Rattle.hold.specs.declared.Hold.{Hold}

-- `from` runs over a quicker medium, and its score over the horizon is within the margin of that of `to`
abbrev pub kept_of : Rival → Rival → Float → Bool
kept_of to from margin =
    quicker_of from.medium to.medium
    && ((from.steadied && to.steadied) && le from.steady (mul binary64 to.steady margin))

-- `to` is the faster of the two at its best over the horizon; that doesn't count where `from` is kept for its medium
abbrev pub faster_of : Rival → Rival → Float → Bool
faster_of to from margin = not (kept_of to from margin) && ((to.based && from.based) && ltb to.base from.base)

-- the score of `to` beats the score of `from` over the horizon by the margin
abbrev pub beats_of : Rival → Rival → Float → Bool
beats_of to from margin = to.scored && lt (mul binary64 to.score margin) from.steady

-- a flag as an answer
abbrev pub held_if : Bool → Result Bool Refusal
held_if on = cond on (Ok true) (Ok false)

-- 6: a round trip of 2 ^ 62 or more in either
abbrev pub either_long : Rival → Rival → Bool
either_long to from = is_long to || is_long from

-- `from` has a score over the horizon, and `to` is neither faster nor beats it
abbrev pub stays_of : Rival → Rival → Float → Bool
stays_of to from margin = from.steadied && (not (faster_of to from margin) && not (beats_of to from margin))

-- the score of `to` is above margin times that of `from` over the horizon
abbrev pub above_of : Rival → Rival → Float → Bool
above_of to from margin = (from.steadied && to.scored) && lt (mul binary64 from.steady margin) to.score

-- `held`: a change on score waits while `from` has a score over the horizon and `to` is neither faster nor beats it
unfoldable pub held_of : Rival → Rival → Float → Result Bool Refusal
held_of to from margin =
    cond (either_long to from)
    (Err Duration)
    (held_if (stays_of to from margin))

-- `waits`: a change for a quicker medium waits while the score of `to` is above margin times that of `from` over the
-- horizon
unfoldable pub waits_of : Rival → Rival → Float → Result Bool Refusal
waits_of to from margin =
    cond (either_long to from)
    (Err Duration)
    (held_if (above_of to from margin))

-- a report of 2 is owed
abbrev pub new_hold : Float → ℕ → Hold
new_hold cost at = record { cost = cost; at = at; owed = 2 }

-- one report less is owed, none below 0
abbrev pub report_of : Hold → Hold
report_of h = record { cost = h.cost; at = h.at; owed = h.owed - 1 }

-- before at + dwell, or while a report is owed
abbrev pub holds_of : Hold → ℕ → ℕ → Bool
holds_of h now dwell = ltb now (deadline_of 64 h.at dwell) || ltb 0 h.owed

-- `Hold::held`: 6 for a dwell of 2 ^ 62 or more; the cost while the hold holds
unfoldable pub cost_of : Hold → ℕ → ℕ → Result (Option Float) Refusal
cost_of h now dwell =
    cond (is_endless dwell) (Err Duration) (cond (holds_of h now dwell) (Ok (Some h.cost)) (Ok None))
