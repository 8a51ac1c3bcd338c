-- `sofretu::six` meets its contract: each of the six numbers is what its field of the answer is.
use Rattle.std.proofs.Common.{arith}
use Rattle.std.proofs.Math.Facts.{to_z-of_z}
use Rattle.calls.specs.Answers.{answer_of}
use Rattle.sofretu.specs.Six.{in_signed, six}
use Rattle.sofretu.proofs.six.Goals as goal

pub returns-in-Value : goal.returns-in-Value
unfolding six in_signed answer_of
returns-in-Value c = rw c.in-Value.is (grind (arith, to_z-of_z))

pub returns-in-Refused : goal.returns-in-Refused
unfolding six answer_of
returns-in-Refused c = rw c.in-Refused.is (grind (arith, to_z-of_z))
