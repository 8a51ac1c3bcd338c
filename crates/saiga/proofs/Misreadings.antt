-- The rows beside table L hold, by computation.
use mathlib.Core.Path.{refl}
use Rattle.saiga.specs.TableL.{Plainly}
use Rattle.saiga.specs.Misreadings.{PlainParts, Misreadings}
use Rattle.saiga.proofs.TableL.{definitions}

plain-parts : PlainParts
unfolding definitions Plainly PlainParts
plain-parts = ((_, _, refl, refl, (_, refl, refl)), (_, _, refl, refl, (_, refl, refl)), (_, _, refl, refl, (_, refl, refl)))

pub misreadings : Misreadings
unfolding definitions Misreadings
misreadings = (refl, refl, refl, refl, plain-parts)
