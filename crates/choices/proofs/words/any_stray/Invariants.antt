-- `choices::words::any_stray` meets its contract: the rows seen are in their places, unless one was found.
use Rattle.choices.proofs.AnswerLaws.{Placing}
use Rattle.choices.proofs.words.any_stray.Given as goal

abbrev pub invariant-loop-i : goal.invariant-loop-i
invariant-loop-i l = Placing l.field l.found l.i
