-- The rows of forwards hold, by computation.
use mathlib.Core.Path.{refl}
use Rattle.saiga.specs.TableL.{Plainly}
use Rattle.saiga.specs.TableStores.{outcomes}
use Rattle.saiga.specs.TableTally.{tallies}
use Rattle.saiga.specs.TableForwards.{LeftLF, PlainLF, PlainForwards, TableForwards}
use Rattle.saiga.proofs.TableL.{definitions, turns}

left-LF : LeftLF
unfolding definitions tallies LeftLF
left-LF = (refl, refl, refl)

plain-LF : PlainLF
unfolding definitions Plainly PlainLF
plain-LF = (
  (_, _, refl, refl, refl),
  (_, _, refl, refl, refl),
  (_, _, refl, refl, refl),
  (_, _, refl, refl, refl),
  (_, _, refl, refl, refl),
  (_, _, refl, refl, refl),
  (_, _, refl, refl, refl),
  (_, _, refl, refl, refl),
  (_, _, refl, refl, refl),
  (_, _, refl, refl, refl),
  (_, _, refl, refl, refl),
  (_, _, refl, refl, refl),
)

plain-forwards : PlainForwards
unfolding definitions Plainly PlainForwards
plain-forwards = (
  (_, _, refl, refl, refl),
  (_, _, refl, refl, refl),
  (_, _, refl, refl, refl),
  (_, _, refl, refl, (_, refl, refl)),
  (_, _, refl, refl, turns _ _ _ refl refl),
  (_, _, refl, refl, turns _ _ _ refl refl),
)

pub table-forwards : TableForwards
unfolding definitions outcomes TableForwards
table-forwards = (refl, left-LF, plain-LF, refl, refl, refl, refl, plain-forwards)
