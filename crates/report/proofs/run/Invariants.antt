-- `Running` holds from turn to turn (TurnByTurn.antt).
use Rattle.report.proofs.TurnByTurn.{Running}
use Rattle.report.proofs.run.Given as goal

abbrev pub invariant-loop : goal.invariant-loop
invariant-loop l = Running l.checked l.initial.input l.initial.store l.initial.links l.input l.store l.links l.s l.counter
