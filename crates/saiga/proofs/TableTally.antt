-- The tallies are those of the table, by computation.
use mathlib.Core.Path.{refl}
use Rattle.saiga.specs.TableTally.{tallies, brought, TableTally}
use Rattle.saiga.proofs.TableL.{definitions}

pub table-tally : TableTally
unfolding definitions tallies brought TableTally
table-tally = (refl, refl)
