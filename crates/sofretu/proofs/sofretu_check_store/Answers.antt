-- What `stores::check` answers is handed on.
use Rattle.sofretu.proofs.CallNumbers.{found}
use Rattle.sofretu.proofs.sofretu_check_store.Goals as goal

pub returns : goal.returns
returns c = found _ c.check.ensures c.min.ensures c.attribute_count.ensures c.node_count.ensures c.told-number.ensures.number c.told-number.ensures.place
