-- What the question leaves, with the number kept that its answer has, and the line of its answer.
use Rattle.report.proofs.Puts.{leaves_after, leaves-line}
use Rattle.report.proofs.answer.Goals as goal

pub returns-clause-kept_after : goal.returns-clause-kept_after
returns-clause-kept_after c = search leaves_after

pub returns-clause-line : goal.returns-clause-line
returns-clause-line c = search leaves-line
