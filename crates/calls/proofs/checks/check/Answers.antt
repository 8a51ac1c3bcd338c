-- `checks::check` meets its contract: the first check that refuses, or none (CheckLaws.antt). What the check of the sheet came to is found by `grind`
-- from the facts, so that code between that check and its `?` is judged by the refusal that it hands on (must-fail/place_lost.edit).
use Rattle.std.proofs.Common.{rules, arith}
use Rattle.std.proofs.lemmas.Result.{err_from_is_err_and}
use Rattle.calls.proofs.CheckLaws.{sheet-prepared, attributes-fit, sheet-stops, store-stops, question-stops, question-passes}
use Rattle.calls.proofs.checks.check.Goals as goal

pub returns-in_err-counts : goal.returns-in_err-counts
returns-in_err-counts c =
    let sheet = c.check.ensures in
    let p = err_from_is_err_and c.from_residual.result c.from_residual.ensures.1 in
    rw (p.1, p.2) (sheet-stops sheet.checks _ _ sheet.notes_len sheet.checks_notes (grind arith) (search rules))

pub invariant_of-declared : goal.invariant_of-declared
invariant_of-declared c = record { within = attributes-fit (sheet-prepared c.check.ensures.checks {counts = c.in_ok-counts.counts} (grind arith)) }

pub returns-in_err-check : goal.returns-in_err-check
returns-in_err-check c =
    let sheet = c.check.ensures in
    let prepared = sheet-prepared sheet.checks {counts = c.in_ok-counts.counts} (grind arith) in
    let p = err_from_is_err_and c.from_residual-in_err-check.result c.from_residual-in_err-check.ensures.1 in
    rw (p.1, p.2) (store-stops sheet.checks _ _ sheet.notes_len sheet.checks_notes prepared c.check-2.ensures c.in_err-check.was)

pub returns-in_err-check_question : goal.returns-in_err-check_question
returns-in_err-check_question c =
    let sheet = c.check.ensures in
    let prepared = sheet-prepared sheet.checks {counts = c.in_ok-counts.counts} (grind arith) in
    let p = err_from_is_err_and c.from_residual-in_err-check_question.result c.from_residual-in_err-check_question.ensures.1 in
    rw (p.1, p.2)
    (question-stops sheet.checks _ _ sheet.notes_len sheet.checks_notes prepared c.check-2.ensures c.in_ok-check.was c.check_question.ensures c.in_err-check_question.was)

pub returns : goal.returns
returns c =
    let sheet = c.check.ensures in
    let prepared = sheet-prepared sheet.checks {counts = c.in_ok-counts.counts} (grind arith) in
    question-passes sheet.checks _ _ sheet.notes_len sheet.checks_notes prepared c.check-2.ensures c.in_ok-check.was c.check_question.ensures c.in_ok-check_question.was
