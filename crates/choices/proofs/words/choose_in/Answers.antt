use Rattle.choices.proofs.AnswerLaws.{answer-choose}
use Rattle.choices.proofs.words.choose_in.Goals as goal

pub returns : goal.returns
returns c = answer-choose _ _ c.answer_in.ensures
