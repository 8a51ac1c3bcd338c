-- `stores::test` meets its contract: an entry that passes by itself passes after those before it if the search for its key finds nothing.
use Rattle.stores.proofs.ByKey.{entry-fails, entry_searched}
use Rattle.stores.proofs.test.Goals as goal

pub returns-then-not-is_entry : goal.returns-then-not-is_entry
returns-then-not-is_entry c = search entry-fails

pub returns : goal.returns
returns c = search entry_searched
