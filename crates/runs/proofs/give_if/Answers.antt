-- `runs::give_if` meets its contract: a branch has its width even where it is not measured.
use Rattle.std.proofs.Common.{arith}
use Rattle.std.proofs.lemmas.Grind.{common_steps}
use Rattle.engine.specs.CodeSteps.{stepped_of}
use Rattle.expressions.proofs.Widths.{width_of}
use Rattle.runs.proofs.give_if.Goals as goal

pub returns-in_err-allow-clause-passes : goal.returns-in_err-allow-clause-passes
unfolding stepped_of
returns-in_err-allow-clause-passes c =
    let (skip, width) = width_of c.args.e.now in
    record { skip = skip; width = width; after = λ store. grind (arith, common_steps) }
