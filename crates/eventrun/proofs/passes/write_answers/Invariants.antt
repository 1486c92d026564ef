use Prim.Native.Nat.{◌-◌}
use lib.ListN.{length}
use Rattle.eventrun.proofs.AnswerLaws.{Answering}
use Rattle.eventrun.proofs.passes.write_answers.Given as goal

abbrev pub invariant-loop-out : goal.invariant-loop-out
invariant-loop-out l = Answering l.file l.t l.initial.rec l.initial.out l.out l.rec l.from l.at

abbrev pub decreases-loop-out : goal.decreases-loop-out
decreases-loop-out l = length l.out - l.at
