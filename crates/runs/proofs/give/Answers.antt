-- `runs::give` meets its contract: each arm knows the kind of the innermost frame's word.
use Rattle.std.proofs.Common.{arith}
use Rattle.runs.proofs.ReadyForAttributes.{run-size, top-inside, give_needs}
use Rattle.runs.proofs.Giving.{give_laws}
use Rattle.runs.proofs.give.Goals as goal

pub offset_bounds-memory-m : goal.offset_bounds-memory-m
offset_bounds-memory-m c = omega (arith, top-inside c.requires.give_ready.ready c.requires.give_ready.some)

pub bounds-memory-m : goal.bounds-memory-m
bounds-memory-m c = omega (arith, top-inside c.requires.give_ready.ready c.requires.give_ready.some, run-size c.requires.give_ready.ready)

pub give_if-r-requires-clause-pass_ready : goal.give_if-r-requires-clause-pass_ready
give_if-r-requires-clause-pass_ready c = search give_needs

pub give_if-r-requires-clause-frame_ready : goal.give_if-r-requires-clause-frame_ready
give_if-r-requires-clause-frame_ready c = search give_needs

pub take_left-requires : goal.take_left-requires
take_left-requires c = search give_needs

pub take_skip-requires-clause-pass_ready : goal.take_skip-requires-clause-pass_ready
take_skip-requires-clause-pass_ready c = search give_needs

pub take_skip-requires-clause-frame_under : goal.take_skip-requires-clause-frame_under
take_skip-requires-clause-frame_under c = search give_needs

pub take_node-requires : goal.take_node-requires
take_node-requires c = search give_needs

pub attribute_due-r-requires-clause-attribute_ready : goal.attribute_due-r-requires-clause-attribute_ready
attribute_due-r-requires-clause-attribute_ready c = search give_needs

pub close_form-requires : goal.close_form-requires
close_form-requires c = search give_needs

pub take_forward-requires : goal.take_forward-requires
take_forward-requires c = search give_needs

pub returns-in-If-clause-gives_to : goal.returns-in-If-clause-gives_to
returns-in-If-clause-gives_to c = search give_laws

pub returns-in-If-clause-tally_after : goal.returns-in-If-clause-tally_after
returns-in-If-clause-tally_after c = search give_laws

pub returns-in-Left-clause-gives_to : goal.returns-in-Left-clause-gives_to
returns-in-Left-clause-gives_to c = search give_laws

pub returns-in-Left-clause-tally_after : goal.returns-in-Left-clause-tally_after
returns-in-Left-clause-tally_after c = search give_laws

pub returns-in-Skip-clause-gives_to : goal.returns-in-Skip-clause-gives_to
returns-in-Skip-clause-gives_to c = search give_laws

pub returns-in-Skip-clause-tally_after : goal.returns-in-Skip-clause-tally_after
returns-in-Skip-clause-tally_after c = search give_laws

pub returns-in-Right-clause-gives_to : goal.returns-in-Right-clause-gives_to
returns-in-Right-clause-gives_to c = search give_laws

pub returns-in-Right-clause-tally_after : goal.returns-in-Right-clause-tally_after
returns-in-Right-clause-tally_after c = search give_laws

pub returns-in-Node-clause-gives_to : goal.returns-in-Node-clause-gives_to
returns-in-Node-clause-gives_to c = search give_laws

pub returns-in-Node-clause-tally_after : goal.returns-in-Node-clause-tally_after
returns-in-Node-clause-tally_after c = search give_laws

pub returns-in-Parameter-clause-gives_to : goal.returns-in-Parameter-clause-gives_to
returns-in-Parameter-clause-gives_to c = search give_laws

pub returns-in-Parameter-clause-tally_after : goal.returns-in-Parameter-clause-tally_after
returns-in-Parameter-clause-tally_after c = search give_laws

pub returns-in-Form-clause-gives_to : goal.returns-in-Form-clause-gives_to
returns-in-Form-clause-gives_to c = search give_laws

pub returns-in-Form-clause-tally_after : goal.returns-in-Form-clause-tally_after
returns-in-Form-clause-tally_after c = search give_laws

pub returns-in-Forward-clause-gives_to : goal.returns-in-Forward-clause-gives_to
returns-in-Forward-clause-gives_to c = search give_laws

pub returns-in-Forward-clause-tally_after : goal.returns-in-Forward-clause-tally_after
returns-in-Forward-clause-tally_after c = search give_laws
