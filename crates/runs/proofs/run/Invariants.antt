-- The loop's invariant: what holds from move to move holds of every call whose run this is (`Round`). The measure is the machine's (Cost.antt of crate
-- engine): it falls in each round, and starts at 6 × budget + 24,961, so it bounds the rounds. Cost.antt of this crate says so of the rounds by
-- themselves, and by the steps that they count.
use Rattle.engine.specs.Ready.{memory_of}
use Rattle.engine.specs.Represents.{machine_in}
use Rattle.engine.specs.Cost.{measure}
use Rattle.runs.proofs.Rounds.{Round}
use Rattle.runs.proofs.run.Given as goal

abbrev pub invariant-loop-next : goal.invariant-loop-next
invariant-loop-next l =
    Round l.sheet.bytes.now l.sheet.index.now l.sheet.notes.now l.question l.limits.budget l.limits.pause l.fn.store l.fn.memory l.fn.tally l.fn.first l.store l.links
    l.memory l.tally l.m

abbrev pub decreases-loop-next : goal.decreases-loop-next
decreases-loop-next l = measure l.limits.budget (machine_in l.sheet.bytes.now l.question (memory_of l.store l.memory) l.m)
