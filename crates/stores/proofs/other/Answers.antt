-- `stores::other` meets its contract: by what the cell holds.
use Rattle.stores.proofs.Walks.{other-empty, other_entry}
use Rattle.stores.proofs.other.Goals as goal

pub returns-in-0 : goal.returns-in-0
returns-in-0 c = search other-empty

pub returns-in_default : goal.returns-in_default
returns-in_default c = search other_entry
