-- `calls::put` meets its contract: the run leaves off with what the definition brings, and does not pause.
use Rattle.calls.proofs.Asking.{runs, rows-begin, finished, stopped, paused}
use Rattle.calls.proofs.put.Goals as goal

pub run-end-requires-clause-running : goal.run-end-requires-clause-running
run-end-requires-clause-running c = search runs

pub run-end-requires-clause-rows_within : goal.run-end-requires-clause-rows_within
run-end-requires-clause-rows_within c = search rows-begin

pub unreachable-requires : goal.unreachable-requires
unreachable-requires c =
    let ensured = c.run-end.ensures in
    paused c.requires.askable c.begin-first.ensures _ _ ensured.ran ensured.linked _ c.requires.tally_empty ensured.tallies_to c.in-Waits.is

pub returns-in-Finishes : goal.returns-in-Finishes
returns-in-Finishes c =
    let ensured = c.run-end.ensures in
    let (answer, (tally, (store, linked))) =
    finished c.requires.askable c.begin-first.ensures _ _ ensured.ran ensured.linked _ c.requires.tally_empty ensured.tallies_to c.in-Finishes.is in
    record { answer = answer; tally_after = tally; store_after = store; linked = linked }

pub returns-in-Stops : goal.returns-in-Stops
returns-in-Stops c =
    let ensured = c.run-end.ensures in
    let (answer, (tally, (store, linked))) =
    stopped c.requires.askable c.begin-first.ensures _ _ ensured.ran ensured.linked _ c.requires.tally_empty ensured.tallies_to c.in-Stops.is c.number.ensures in
    record { answer = answer; tally_after = tally; store_after = store; linked = linked }
