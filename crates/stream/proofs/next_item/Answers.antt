-- A part of a question is of at most 65,536 bytes, as a length is at most 65,535 (`length-bound`). The rest of the contract follows from the laws
-- of Fronts.antt that the function names.
use Rattle.std.proofs.Common.{arith}
use Rattle.stream.proofs.Fronts.{length-bound}
use Rattle.stream.proofs.next_item.Goals as goal

pub returns-clause-more_fits : goal.returns-clause-more_fits
returns-clause-more_fits c = λ e. omega (arith, c.number_at-n.ensures, length-bound c.args.bytes.now (λ i. (c.type_inv.bytes i).fits))
