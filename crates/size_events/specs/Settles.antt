-- What the search probe's part of an answer leaves: the rows before it are a, those after it b.
use Rattle.std.specs.Prelude.{ℕ, ◌≡◌, Bool, true, false, List}
use Rattle.live.specs.Answers.{answer_value, is_accepted}
use Rattle.live.specs.Search.{seek_proved_of}
use Rattle.live.specs.declared.types.Outcome.{Outcome}
use Rattle.rows.specs.Says.{Says}

-- where d is what `seek_answer` gives: r says whether the probe was named; if so the path is that after `seek_proved`,
-- else every word stays
pub record Settles (a b : List (List ℕ)) (r : Bool) (d : Outcome) (acked now : ℕ) : Type 0 where
  pub named : r ≡ is_accepted d.answer
  pub proved : r ≡ true → Says a b (seek_proved_of d.path (answer_value d.answer) acked now).path
  pub left : r ≡ false → b ≡ a
