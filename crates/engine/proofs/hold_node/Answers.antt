-- `engine::hold_node` meets its contract: the word that is written holds what `pack` gives.
use Rattle.engine.proofs.RunMemory.{rewritten}
use Rattle.engine.proofs.hold_node.Goals as goal

pub returns : goal.returns
returns c = rewritten c.pack-packed.ensures c.on_parameter.ensures c.put_frame.ensures.written c.put_frame.ensures.forms_same c.put_frame.ensures.opens_same
