-- What the methods answer: document 01's number and value for each case, and the one shape of a refusal.
use Rattle.std.specs.Prelude.{ℕ, Bool, true, false, cond, List, [], ◌∷◌, Result, Ok, Err}
use Rattle.base.specs.Refusals.{refusal_number}
use Rattle.base.specs.Seq.{flag_of}
use Rattle.base.specs.declared.types.Refusal.{Refusal}
use Rattle.ring.specs.Ring.{no_sent}
use Rattle.ring.specs.declared.types.Sent.{Sent}
use Rattle.live.specs.declared.types.Liveness.{Liveness}
use Rattle.live.specs.declared.types.Outcome.{Outcome}
use Rattle.live.specs.declared.types.Answer.{Answer}
use Rattle.live.specs.declared.types.Answer.TheVariants.{Done, Id, InTime, Late, Idle, Lapsed, Len, Time, Flag}

-- the refusal number, 0 if accepted
abbrev pub answer_number : Result Answer Refusal → ℕ
answer_number (Ok a) = 0
answer_number (Err why) = refusal_number why

-- the value of an accepted call: an identifier, a length or a duration itself, a flag as 1 or 0; an answer in time is 1,
-- a late one 2; a lapse that was a miss is 1, one that was none 2; else 0
abbrev pub value_in : Answer → ℕ
value_in Done = 0
value_in (Id id) = id
value_in (InTime s) = 1
value_in (Late s) = 2
value_in Idle = 0
value_in (Lapsed miss) = cond miss 1 2
value_in (Len n) = n
value_in (Time t) = t
value_in (Flag on) = flag_of on

-- and 0 of a refused one
abbrev pub answer_value : Result Answer Refusal → ℕ
answer_value (Ok a) = value_in a
answer_value (Err why) = 0

-- the probe that `answer` found, or none
abbrev pub sent_in : Answer → Sent
sent_in Done = no_sent
sent_in (Id id) = no_sent
sent_in (InTime s) = s
sent_in (Late s) = s
sent_in Idle = no_sent
sent_in (Lapsed miss) = no_sent
sent_in (Len n) = no_sent
sent_in (Time t) = no_sent
sent_in (Flag on) = no_sent

abbrev pub answer_sent : Result Answer Refusal → Sent
answer_sent (Ok a) = sent_in a
answer_sent (Err why) = no_sent

-- its identifier, sent instant, due and length; four zeros where there is none
abbrev pub answer_probe : Result Answer Refusal → List ℕ
answer_probe a = (answer_sent a).probe_id ∷ (answer_sent a).at ∷ (answer_sent a).due ∷ (answer_sent a).len ∷ []

-- whether the call was carried out
abbrev pub is_accepted : Result Answer Refusal → Bool
is_accepted (Ok a) = true
is_accepted (Err why) = false

-- whether `expire` found a probe that lapses
abbrev pub is_lapse : Answer → Bool
is_lapse Done = false
is_lapse (Id id) = false
is_lapse (InTime s) = false
is_lapse (Late s) = false
is_lapse Idle = false
is_lapse (Lapsed miss) = true
is_lapse (Len n) = false
is_lapse (Time t) = false
is_lapse (Flag on) = false

abbrev pub has_lapsed : Result Answer Refusal → Bool
has_lapsed (Ok a) = is_lapse a
has_lapsed (Err why) = false

-- an answer in time is a matching one, a late one is not (the Rust's `Answer::matching`)
abbrev pub is_in_time : Answer → Bool
is_in_time Done = false
is_in_time (Id id) = false
is_in_time (InTime s) = true
is_in_time (Late s) = false
is_in_time Idle = false
is_in_time (Lapsed miss) = false
is_in_time (Len n) = false
is_in_time (Time t) = false
is_in_time (Flag on) = false

abbrev pub is_matching : Result Answer Refusal → Bool
is_matching (Ok a) = is_in_time a
is_matching (Err why) = false

-- a refusal returns the path as it came
abbrev pub refused : Liveness → Refusal → Outcome
refused p why = record { path = p; answer = Err why }

-- the path after a call that has nothing to say
abbrev pub done : Liveness → Outcome
done p = record { path = p; answer = Ok Done }
