-- `stores::entry_at` meets its contract: the parts of twelve bytes are their numbers.
use Rattle.stores.proofs.Parts.{fields_read, two-small}
use Rattle.stores.proofs.entry_at.Goals as goal

pub overflow_cast-result : goal.overflow_cast-result
overflow_cast-result c = two-small _ c.type_inv.store _ _ c.number_at.ensures

pub returns : goal.returns
returns c = search fields_read
