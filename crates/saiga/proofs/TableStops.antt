-- The stops before the run hold as the table has them, by computation.
use mathlib.Core.Path.{refl}
use Rattle.saiga.specs.TableStops.{TableStops}
use Rattle.saiga.proofs.TableL.{definitions}

pub table-stops : TableStops
unfolding definitions TableStops
table-stops = (refl, refl, refl, refl)
