use Rattle.choices.proofs.AnswerLaws.{answer-picked}
use Rattle.choices.proofs.words.picked_in.Goals as goal

pub returns : goal.returns
returns c = answer-picked _ _ c.answer_in.ensures
