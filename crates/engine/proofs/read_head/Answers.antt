-- `engine::read_head` meets its contract: at 0x30 and behind the nine other heads the rest is ready for the innermost form to be read.
use Rattle.std.proofs.Common.{rules}
use Rattle.saiga.specs.Expressions.{head_of}
use Rattle.engine.proofs.HeadsRead.{parameter-ready}
use Rattle.engine.proofs.read_head.Goals as goal

pub this_node-requires : goal.this_node-requires
unfolding head_of
this_node-requires c = rw c.in-48.is at c.requires.head

pub this_parameter-requires : goal.this_parameter-requires
this_parameter-requires c = parameter-ready c.requires (search rules)
