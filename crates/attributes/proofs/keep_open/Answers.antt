-- `attributes::keep_open` meets its contract: the index of the store has no entry with the key.
use Rattle.stores.proofs.Linked.{linked-without}
use Rattle.attributes.proofs.keep_open.Goals as goal

pub free_cell-cell-requires : goal.free_cell-cell-requires
free_cell-cell-requires c = linked-without _ _ _ c.args.key c.requires.write_ready.linked c.requires.absent
