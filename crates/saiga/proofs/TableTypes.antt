-- The type codes are written and checked as the table has them, by computation.
use mathlib.Core.Path.{refl}
use Rattle.saiga.specs.TableStores.{outcomes}
use Rattle.saiga.specs.TableTypes.{TableTypes}
use Rattle.saiga.proofs.TableL.{definitions}

pub table-types : TableTypes
unfolding definitions outcomes TableTypes
table-types = (refl, refl, refl)
