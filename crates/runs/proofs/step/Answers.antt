-- `runs::step` meets its contract: a head is read, the run is over, or a value is given.
use Rattle.runs.proofs.Stepping.{step_laws}
use Rattle.runs.proofs.step.Goals as goal

pub read_head-requires : goal.read_head-requires
read_head-requires c = search step_laws

pub returns-then-not-m-clause-steps_to : goal.returns-then-not-m-clause-steps_to
returns-then-not-m-clause-steps_to c = search step_laws

pub returns-then-not-m-clause-tally_after : goal.returns-then-not-m-clause-tally_after
returns-then-not-m-clause-tally_after c = search step_laws

pub returns-then-m-eq0-clause-steps_to : goal.returns-then-m-eq0-clause-steps_to
returns-then-m-eq0-clause-steps_to c = search step_laws

pub returns-then-m-eq0-clause-tally_after : goal.returns-then-m-eq0-clause-tally_after
returns-then-m-eq0-clause-tally_after c = search step_laws

pub returns-clause-steps_to : goal.returns-clause-steps_to
returns-clause-steps_to c = search step_laws

pub returns-clause-tally_after : goal.returns-clause-tally_after
returns-clause-tally_after c = search step_laws
