-- `stores::append` meets its contract: what is written leaves the index over the entries before it, and then the entry is put in.
use Rattle.std.proofs.Common.{rules}
use Rattle.stores.proofs.Linked.{free-inside}
use Rattle.stores.proofs.Written.{fields-keyed, entry-put}
use Rattle.stores.proofs.append.Goals as goal

pub plant-requires : goal.plant-requires
plant-requires c = search (rules, free-inside)

pub returns : goal.returns
returns c = search (entry-put, fields-keyed)
