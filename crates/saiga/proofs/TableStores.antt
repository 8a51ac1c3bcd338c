-- The stores are left as the table has them, by computation.
use mathlib.Core.Path.{refl}
use Rattle.saiga.specs.TableStores.{outcomes, TableStores}
use Rattle.saiga.proofs.TableL.{definitions}

pub table-stores : TableStores
unfolding definitions outcomes TableStores
table-stores = (refl, refl, refl, refl)
