-- `choices::words::any_past` meets its contract: of the rows seen none passes the longest, unless one was found.
use Rattle.choices.proofs.AnswerLaws.{Looking}
use Rattle.choices.proofs.words.any_past.Given as goal

abbrev pub invariant-loop-w : goal.invariant-loop-w
invariant-loop-w l = Looking l.longest l.field l.found l.w-index
