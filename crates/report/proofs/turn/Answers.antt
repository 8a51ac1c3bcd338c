-- A question, whole or cut, by the laws of Turns.antt.
use Rattle.std.proofs.Common.{◌+◌, ◌≤◌, arith}
use Rattle.report.proofs.Turns.{question-ends, after-question, question-line, after-cut}
use Rattle.report.proofs.turn.Goals as goal

pub overflow_add-end : goal.overflow_add-end
overflow_add-end c =
    let there : c.args.s.from + 2 + c.in-Question.n ≤ c.args.s.to = search question-ends in
    omega arith

pub slice_bounds-answer-end : goal.slice_bounds-answer-end
slice_bounds-answer-end c =
    let there : c.args.s.from + 2 + c.in-Question.n ≤ c.args.s.to = search question-ends in
    omega arith

pub returns-in-Question-clause-within_after : goal.returns-in-Question-clause-within_after
returns-in-Question-clause-within_after c = (search question-ends, omega arith)

pub returns-in-Question-clause-turned : goal.returns-in-Question-clause-turned
returns-in-Question-clause-turned c = search after-question

pub returns-in-Question-clause-line : goal.returns-in-Question-clause-line
returns-in-Question-clause-line c = search question-line

pub returns-in-Cut-clause-turned : goal.returns-in-Cut-clause-turned
returns-in-Cut-clause-turned c = search after-cut
