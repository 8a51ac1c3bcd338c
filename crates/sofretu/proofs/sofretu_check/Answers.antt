-- The number and the place of the chain of checks are handed on as they are.
use Rattle.std.proofs.Common.{ap, ◌∙◌}
use Rattle.sofretu.specs.Check.{number_of, place_of}
use Rattle.sofretu.proofs.CallNumbers.{number-says, place-says}
use Rattle.sofretu.proofs.sofretu_check.Goals as goal

pub returns-clause-value : goal.returns-clause-value
returns-clause-value c = c.told-number.ensures.number ∙ ap number_of c.check-verdict.ensures.answer ∙ number-says _ _

pub returns-clause-place_after : goal.returns-clause-place_after
returns-clause-place_after c = c.told-number.ensures.place ∙ ap place_of c.check-verdict.ensures.answer ∙ place-says _ _
