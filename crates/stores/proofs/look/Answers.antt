-- `stores::look` meets its contract: by what the cell holds, and by the entry's key.
use Rattle.stores.proofs.Walks.{looks-empty, looks-has, looks-other}
use Rattle.stores.proofs.look.Goals as goal

pub returns-in-0 : goal.returns-in-0
returns-in-0 c = search looks-empty

pub returns-in_default : goal.returns-in_default
returns-in_default c = search looks-has

pub returns-in_default-2 : goal.returns-in_default-2
returns-in_default-2 c = search looks-other
