-- `checks::check_question` meets its contract: the budget, then the question (CheckLaws.antt).
use Rattle.std.proofs.Common.{sym, ap, ◌∙◌, arith}
use Rattle.expressions.specs.Forms.{question_of}
use Rattle.calls.proofs.CheckLaws.{budget-refused, budget-permits}
use Rattle.calls.proofs.checks.check_question.Goals as goal

pub returns-then-budget-gt-BUDGET_LIMIT : goal.returns-then-budget-gt-BUDGET_LIMIT
returns-then-budget-gt-BUDGET_LIMIT c s of = rw (c.at.ensures.0, c.at.ensures.1) (search (arith, budget-refused))

pub returns : goal.returns
returns c s of =
    c.check_question.ensures s of.attributes_are of.nodes_count ∙ ap (question_of s.attributes) (sym (search budget-permits))
