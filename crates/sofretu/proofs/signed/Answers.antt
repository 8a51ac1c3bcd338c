-- `sofretu::signed` meets its contract: two's complement reads n from 2^63 on as what is left to 2^64, and the definition as what is left to the largest number.
use Rattle.std.proofs.Common.{arith}
use Rattle.std.proofs.Math.Facts.{to_z-of_z}
use Rattle.sofretu.specs.Six.{in_signed}
use Rattle.sofretu.proofs.signed.Goals as goal

pub returns : goal.returns
unfolding in_signed
returns c = grind (arith, to_z-of_z)
