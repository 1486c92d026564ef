-- Document 01's number and value for each case of each answer: the refusal number, 0 if accepted; a refusal has value
-- 0.
use Rattle.base.specs.declared.types.Refusal.{Refusal}
use Rattle.std.specs.Prelude.{ℕ, Float, Option, None, Some, Result, Ok, Err, Bool, true, false}
use Rattle.std.specs.Float.{binary64}
use Rattle.std.specs.Float.Ieee.{of_bits}
use Rattle.base.specs.Refusals.{refusal_number}

-- `choose`: the slot
abbrev pub chosen_number : Result ℕ Refusal → ℕ
chosen_number (Ok n) = 0
chosen_number (Err why) = refusal_number why

abbrev pub chosen_value : Result ℕ Refusal → ℕ
chosen_value (Ok n) = n
chosen_value (Err why) = 0

-- `best`: 1 and the least score, or 0 and 0 where none of the ranked has one
abbrev pub best_number : Result (Option Float) Refusal → ℕ
best_number (Ok (Some x)) = 0
best_number (Ok None) = 0
best_number (Err why) = refusal_number why

abbrev pub best_there : Result (Option Float) Refusal → ℕ
best_there (Ok (Some x)) = 1
best_there (Ok None) = 0
best_there (Err why) = 0

abbrev pub best_value : Result (Option Float) Refusal → Float
best_value (Ok (Some x)) = x
best_value (Ok None) = of_bits binary64 0
best_value (Err why) = of_bits binary64 0

-- `held`, `waits`: 1 if the change is held
abbrev pub held_number : Result Bool Refusal → ℕ
held_number (Ok true) = 0
held_number (Ok false) = 0
held_number (Err why) = refusal_number why

abbrev pub held_value : Result Bool Refusal → ℕ
held_value (Ok true) = 1
held_value (Ok false) = 0
held_value (Err why) = 0

-- `Hold::held`: 1 while the cost is held
abbrev pub cost_number : Result (Option Float) Refusal → ℕ
cost_number (Ok (Some x)) = 0
cost_number (Ok None) = 0
cost_number (Err why) = refusal_number why

abbrev pub cost_value : Result (Option Float) Refusal → ℕ
cost_value (Ok (Some x)) = 1
cost_value (Ok None) = 0
cost_value (Err why) = 0

-- `carried`: the frame's bytes
abbrev pub size_number : Result ℕ Refusal → ℕ
size_number (Ok n) = 0
size_number (Err why) = refusal_number why

abbrev pub size_value : Result ℕ Refusal → ℕ
size_value (Ok n) = n
size_value (Err why) = 0
