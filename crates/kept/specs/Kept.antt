-- What every path keeps, whatever methods are called on it, in any order and with any numbers.
use Rattle.std.specs.Prelude.{ℕ, ◌≡◌, Bool, true, length}
use mathlib.Core.List.{List, foldl}
use Rattle.ring.specs.Ring.{max_late, Closed}
use Rattle.ring.specs.declared.types.Sent.{Sent}
use Rattle.rtt.specs.Trips.{Trips}
use Rattle.seek.specs.Rules.{is_provable}
use Rattle.etx.specs.Etx.{Within}
use Rattle.live.specs.New.{new_liveness}
use Rattle.live.specs.Probe.{take_id_of, thaw_of, send_of, answer_of, expire_of, lapse_of, clear_of}
use Rattle.live.specs.Search as search
use Rattle.live.specs.Times as times
use Rattle.live.specs.declared.types.Liveness.{Liveness}

-- what is kept of a path
pub record Kept (p : Liveness) : Type 0 where
  -- "ETX stays within 1 and 100"
  pub within : Within p.etx
  -- a proven size is at least 27 and at most 65,535
  pub provable : is_provable p.sizes.proven ≡ true
  -- "the ring closes up in its order"
  pub closed : Closed p.ring
  -- the late list has its four places
  pub four : length p.late ≡ max_late
  -- last, least and base RTT come together, and least and base are at most the last
  pub trips : Trips p.rtts

-- a call of a method that changes a path, with its numbers in the order of the method's parameters
pub data Call : Type 0 where
  TakeId : ℕ → Call
  Thaw : Call
  Send : ℕ → ℕ → ℕ → ℕ → Call
  Answer : ℕ → Call
  Expire : ℕ → Bool → ℕ → Call
  Lapse : Sent → Call
  Clear : Call
  Fresh : Call
  Prove : ℕ → Call
  SeekSend : ℕ → ℕ → ℕ → Call
  SeekRing : ℕ → ℕ → ℕ → ℕ → ℕ → Call
  SeekAnswer : ℕ → ℕ → Call
  SeekProved : ℕ → ℕ → ℕ → Call
  SeekJudge : ℕ → ℕ → ℕ → Call
  Sample : ℕ → ℕ → ℕ → ℕ → Call
  Fold : Bool → Call
  Heard : ℕ → ℕ → Call
  Carried : ℕ → Call
  Shed : ℕ → Call
  Halt : ℕ → Bool → Call
  Spend : ℕ → Call
  Owe : Call
  Rebase : ℕ → Bool → Call

-- the path after it
abbrev pub after : Liveness → Call → Liveness
after p (TakeId draw) = (take_id_of p draw).path
after p Thaw = thaw_of p
after p (Send at due n draw) = (send_of p at due n draw).path
after p (Answer id) = (answer_of p id).path
after p (Expire now overdue cap) = (expire_of p now overdue cap).path
after p (Lapse s) = lapse_of p s
after p Clear = clear_of p
after p Fresh = search.fresh_of p
after p (Prove n) = (search.prove_of p n).path
after p (SeekSend at n draw) = (search.seek_send_of p at n draw).path
after p (SeekRing at due gap n draw) = (search.seek_ring_of p at due gap n draw).path
after p (SeekAnswer id gap) = (search.seek_answer_of p id gap).path
after p (SeekProved sent acked now) = (search.seek_proved_of p sent acked now).path
after p (SeekJudge now timeout gap) = (search.seek_judge_of p now timeout gap).path
after p (Sample now x window horizon) = (times.sample_of p now x window horizon).path
after p (Fold delivered) = times.folded_of p delivered
after p (Heard n now) = (times.heard_of p n now).path
after p (Carried now) = times.carried_of p now
after p (Shed n) = (times.shed_of p n).path
after p (Halt at active) = times.halted_of p at active
after p (Spend at) = times.spent_of p at
after p Owe = times.owed_of p
after p (Rebase at ok) = times.rebased_of p at ok

-- a path after any calls on a new one
abbrev pub path_after : List Call → Liveness
path_after calls = foldl after new_liveness calls

-- every path, after any calls, has what is kept
abbrev pub EveryPath : Type 0
EveryPath = (calls : List Call) → Kept (path_after calls)
