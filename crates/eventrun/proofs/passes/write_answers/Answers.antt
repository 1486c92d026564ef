use Rattle.eventrun.proofs.AnswerLaws.{answering-start, answering-stop, answering-full, answering-next}
use borrow.Author.Rules.{rules}
use Rattle.eventrun.proofs.passes.write_answers.Goals as goal

pub loop-out-init : goal.loop-out-init
loop-out-init c = answering-start _ _ _ _ (search rules)

pub returns-in_default : goal.returns-in_default
returns-in_default c = answering-stop c.loop-out.invariant c.record_at.ensures c.in_default.not-Event

pub loop-out-preserved : goal.loop-out-preserved
loop-out-preserved c = answering-next c.loop-out.invariant c.loop-out-test.true c.tell-w.result c.record_at.ensures c.in-Event.is c.event_row.ensures.1 c.tell-w.ensures c.put_words.ensures.1

pub returns : goal.returns
returns c = answering-full c.loop-out.invariant c.loop-out-test.false
