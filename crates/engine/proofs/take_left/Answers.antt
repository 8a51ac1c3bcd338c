-- `engine::take_left` meets its contract: the word that is written holds what `pack` gives.
use Rattle.engine.proofs.RunMemory.{rewritten}
use Rattle.engine.proofs.take_left.Goals as goal

pub returns-clause-rewrites : goal.returns-clause-rewrites
returns-clause-rewrites c = rewritten c.pack-packed.ensures c.word.ensures c.put_frame.ensures.written c.put_frame.ensures.forms_same c.put_frame.ensures.opens_same
