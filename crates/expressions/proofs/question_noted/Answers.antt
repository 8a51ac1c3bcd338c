-- The laws of Questions.antt, at what `read_whole` ensures.
use Rattle.expressions.proofs.Questions.{question-none, question-typed}
use Rattle.expressions.proofs.question_noted.Goals as goal

pub returns-in_default : goal.returns-in_default
returns-in_default c s a n = rw (c.at.ensures.0, c.at.ensures.1) (question-none _ _ _ _ s a n c.in_default.ensures.value)

pub returns : goal.returns
returns c s a n = rw (c.ok_or.ensures.value, c.base_in.ensures) (question-typed _ _ _ _ s a n _ c.in-Some.ensures.value c.at-2.ensures.0 c.at-2.ensures.1)
