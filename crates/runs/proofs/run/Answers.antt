-- `runs::run` meets its contract: each round of the loop keeps `Round`, and where the loop is left, `Round` and the last move say what the run comes to.
use Rattle.runs.proofs.Rounds.{round-less, round-again, round-ends, tally-ends}
use Rattle.runs.proofs.run.Goals as goal

pub loop-next-smaller : goal.loop-next-smaller
loop-next-smaller c = search round-less

pub loop-next-preserved : goal.loop-next-preserved
loop-next-preserved c = search round-again

pub returns-in-Err-clause-ran : goal.returns-in-Err-clause-ran
returns-in-Err-clause-ran c lent kept whole i = search round-ends

pub returns-in-Err-clause-tallies_to : goal.returns-in-Err-clause-tallies_to
returns-in-Err-clause-tallies_to c all t = search tally-ends
