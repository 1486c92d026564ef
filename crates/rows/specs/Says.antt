-- What a function on a slot's rows leaves: the rows before it are a, those after it b.
use Rattle.base.specs.declared.types.Refusal.{Refusal}
use Rattle.std.specs.Prelude.{ℕ, ◌≡◌, Bool, true, false, List, Result, Ok, Err}
use Rattle.live.specs.declared.types.Liveness.{Liveness}
use Rattle.rules.specs.declared.types.Reply.{Reply}
use Rattle.rules.specs.declared.types.Reply.TheVariants as reply
use Rattle.rules.specs.declared.types.Turn.{Turn}
use Rattle.rows.specs.View.{path_in, marks_in, slot_in}
use Rattle.rows.specs.Encode.{IsCoded}

-- a part stored: the path is q after it, the slot's marks stay, and what was the encoder's is the encoder's
pub record Says (a b : List (List ℕ)) (q : Liveness) : Type 0 where
  pub path : path_in b ≡ q
  pub marks : marks_in b ≡ marks_in a
  pub coded : IsCoded a → IsCoded b

-- a refusal
abbrev pub is_refused : Result Reply Refusal → Bool
is_refused (Ok (reply.Id id)) = false
is_refused (Ok reply.InTime) = false
is_refused (Ok reply.Late) = false
is_refused (Ok reply.Search) = false
is_refused (Ok (reply.Count n)) = false
is_refused (Ok reply.Lost) = false
is_refused (Ok reply.Waits) = false
is_refused (Ok (reply.Chosen slot)) = false
is_refused (Ok reply.Nothing) = false
is_refused (Err why) = true

-- an event: its answer x and the slot after it are those of the rule's turn t; what was the encoder's is the encoder's;
-- and a refusal leaves every word
pub record Turns (a b : List (List ℕ)) (x : Result Reply Refusal) (t : Turn) : Type 0 where
  pub answer : x ≡ t.reply
  pub slot : slot_in b ≡ t.slot
  pub coded : IsCoded a → IsCoded b
  pub left : is_refused x ≡ true → b ≡ a
