-- Answers as six numbers: the refusal number, 0 if accepted, then the values, 0 where there are fewer than five.
use Rattle.base.specs.declared.types.Refusal.{Refusal}
use Rattle.std.specs.Prelude.{ℕ, [], ◌∷◌, Option, None, Some, Result, Ok, Err, Float, unwrap_or}
use Rattle.base.specs.Seq.{flag_of}
use Rattle.base.specs.declared.types.Refusal.TheVariants.{Kind}
use Rattle.live.specs.Answers.{answer_number, answer_value, answer_probe, is_matching}
use Rattle.live.specs.declared.types.Liveness.{Liveness}
use Rattle.live.specs.declared.types.Outcome.{Outcome}
use Rattle.live.specs.declared.types.Answer.{Answer}
use Rattle.live.specs.declared.types.Answer.TheVariants.{Done}
use Rattle.base.specs.Missing.{tag}
use Rattle.total.specs.Patterns.{etx_bits}
use Rattle.script.specs.declared.types.Called.{Called}

-- an answer with a path: its number, its value, and the probe that it names
abbrev pub answer_called : Liveness → Result Answer Refusal → Called
answer_called p a = record { path = p; words = answer_number a ∷ answer_value a ∷ answer_probe a }

-- what a method gives
abbrev pub outcome : Outcome → Called
outcome o = answer_called o.path o.answer

-- accepted, with no value
abbrev pub plain : Liveness → Called
plain p = answer_called p (Ok Done)

-- no such call: 15
abbrev pub kindless : Liveness → Called
kindless p = answer_called p (Err Kind)

-- accepted, with one value
abbrev pub valued : Liveness → ℕ → Called
valued p x = record { path = p; words = 0 ∷ x ∷ 0 ∷ 0 ∷ 0 ∷ 0 ∷ [] }

-- accepted, with what may be missing: 1 and its number, or 0
abbrev pub tagged : Liveness → ℕ → ℕ → Called
tagged p tag x = record { path = p; words = 0 ∷ tag ∷ x ∷ 0 ∷ 0 ∷ 0 ∷ [] }

-- an instant or a duration
abbrev pub timed : Liveness → Option ℕ → Called
timed p x = tagged p (tag x) (unwrap_or x 0)

-- a length
abbrev pub sized : Liveness → Option ℕ → Called
sized p x = tagged p (tag x) (unwrap_or x 0)

-- a score, by its pattern
abbrev pub score_called : Liveness → Option Float → Called
score_called p None = tagged p 0 0
score_called p (Some x) = tagged p 1 (etx_bits x)

-- whether what `answer` gave is a matching answer
abbrev pub matched : Outcome → Called
matched o =
    record { path = o.path; words = answer_number o.answer ∷ flag_of (is_matching o.answer) ∷ 0 ∷ 0 ∷ 0 ∷ 0 ∷ [] }
