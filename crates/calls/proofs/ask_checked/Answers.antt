-- `calls::ask_checked` meets its contract: the refusals of the budget and the question, or the run; what it leaves is prepared for the next call.
use Rattle.std.proofs.Common.{rules, ◌∙◌}
use Rattle.calls.proofs.CheckLaws.{counted}
use Rattle.calls.proofs.Preparing.{refuses, refusal-keeps, scratch-as-lent, scratch-used, question-refused, question-accepts, askable, prepared_again}
use Rattle.calls.proofs.ask_checked.Goals as goal

pub put-requires-clause-askable : goal.put-requires-clause-askable
put-requires-clause-askable c =
    let known = counted c.requires.prepared_sheet.0 c.attribute_count.ensures c.node_count.ensures in
    askable known c.requires.prepared_store _ _ c.check_question.ensures c.requires.prepared_sheet.1 c.in-Ok.is (search rules)

pub returns-in-Err : goal.returns-in-Err
returns-in-Err c =
    let known = counted c.requires.prepared_sheet.0 c.attribute_count.ensures c.node_count.ensures in
    let prepared = c.requires.prepared_store in
    let stops = question-refused known prepared _ _ c.check_question.ensures c.in-Err.is in
    let (answer, zeros, left) = refuses _ _ _ c.refused.result stops c.refused.ensures in
    record {
      answer = answer;
      tally_after = c.clear.ensures ∙ zeros;
      store_after = left;
      prepared_after = prepared_again known prepared _ _ c.refused.result answer left (rw (refusal-keeps _ _ _ c.refused.result c.refused.ensures) prepared.linked);
      run_scratch = scratch-as-lent (search rules);
    }

pub returns-in-Ok-clause-prepared_after : goal.returns-in-Ok-clause-prepared_after
returns-in-Ok-clause-prepared_after c =
    let known = counted c.requires.prepared_sheet.0 c.attribute_count.ensures c.node_count.ensures in
    let brought = c.put.ensures in
    prepared_again known c.requires.prepared_store _ _ c.put.result brought.answer brought.store_after brought.linked

pub returns-in-Ok-clause-run_scratch : goal.returns-in-Ok-clause-run_scratch
returns-in-Ok-clause-run_scratch c =
    let known = counted c.requires.prepared_sheet.0 c.attribute_count.ensures c.node_count.ensures in
    scratch-used (question-accepts known c.requires.prepared_store _ _ c.check_question.ensures c.in-Ok.is).1 (search rules)
