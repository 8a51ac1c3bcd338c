-- `calls::ask` meets its contract: the refusals of the checks, or the run. The length of the run's memory is what `put` keeps of the slice that it is
-- lent.
use Rattle.std.proofs.Common.{rules, ◌∙◌}
use Rattle.calls.proofs.Preparing.{refuses, refusal-keeps, scratch-as-lent, scratch-used, checked_refused, checked-accepts, checked-askable}
use Rattle.calls.proofs.ask.Goals as goal

pub put-requires-clause-askable : goal.put-requires-clause-askable
put-requires-clause-askable c = checked-askable c.check.ensures c.in_default.is (search rules)

pub returns-in-Err : goal.returns-in-Err
returns-in-Err c =
    let stops = checked_refused c.check.ensures c.in-Err.is in
    let (answer, zeros, left) = refuses _ _ _ c.refused.result stops c.refused.ensures in
    record {
      answer = answer;
      tally_after = c.clear.ensures ∙ zeros;
      store_after = left;
      indexes = rw (refusal-keeps _ _ _ c.refused.result c.refused.ensures) c.check.ensures.scratch;
      run_scratch = scratch-as-lent (search rules);
    }

pub returns-clause-run_scratch : goal.returns-clause-run_scratch
returns-clause-run_scratch c = scratch-used (checked-accepts c.check.ensures c.in_default.is).1 (search rules)
