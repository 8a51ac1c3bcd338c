-- `stores::put_entry` meets its contract: the stores of the parts are one run of twelve bytes (`written`).
use Rattle.stores.proofs.Written.{written}
use Rattle.stores.proofs.put_entry.Goals as goal

pub returns : goal.returns
returns c = search written
