-- The six fields are those of the refusal, by definition.
use Rattle.std.proofs.Common.{refl}
use Rattle.saiga.specs.Ask.{refusal}
use Rattle.calls.specs.Answers.{answer_of}
use Rattle.calls.proofs.refuse.Goals as goal

pub returns : goal.returns
unfolding answer_of refusal
returns c = refl
