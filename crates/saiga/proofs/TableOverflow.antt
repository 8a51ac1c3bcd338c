-- The rows of stop 17 hold, by computation.
use mathlib.Core.Path.{refl}
use Rattle.saiga.specs.TableL.{Plainly}
use Rattle.saiga.specs.TableOverflow.{PlainOverflow, TableOverflow}
use Rattle.saiga.proofs.TableL.{definitions}

plain-overflow : PlainOverflow
unfolding definitions Plainly PlainOverflow
plain-overflow = (
  (_, _, refl, refl, (_, refl, refl)),
  (_, _, refl, refl, (_, refl, refl)),
  (_, _, refl, refl, (_, refl, refl)),
  (_, _, refl, refl, (_, refl, refl)),
  (_, _, refl, refl, (_, refl, refl)),
)

pub table-overflow : TableOverflow
unfolding definitions TableOverflow
table-overflow = (refl, refl, plain-overflow)
