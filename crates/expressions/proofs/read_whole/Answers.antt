-- The laws of Wholes.antt, at what `read` ensures.
use Rattle.expressions.proofs.Wholes.{whole_long, whole-none, whole-reads, whole-left-over}
use Rattle.expressions.proofs.read_whole.Goals as goal

pub returns-then-e-gt-EXPRESSION_LIMIT-clause-value : goal.returns-then-e-gt-EXPRESSION_LIMIT-clause-value
returns-then-e-gt-EXPRESSION_LIMIT-clause-value c = whole_long _ _ _ _ c.if-e-gt-EXPRESSION_LIMIT.true

pub returns-in_err-form-clause-value : goal.returns-in_err-form-clause-value
returns-in_err-form-clause-value c = rw c.from_residual.ensures (whole-none _ _ _ _ c.if-e-gt-EXPRESSION_LIMIT.false c.in_err-form.ensures.formed)

pub returns-then-form-e-clause-value : goal.returns-then-form-e-clause-value
returns-then-form-e-clause-value c = whole-reads _ _ _ _ c.if-e-gt-EXPRESSION_LIMIT.false c.in_ok-form.ensures.formed c.if-form-e.true

pub returns-else-form-e-clause-value : goal.returns-else-form-e-clause-value
returns-else-form-e-clause-value c = whole-left-over _ _ _ _ c.if-e-gt-EXPRESSION_LIMIT.false c.in_ok-form.ensures.formed c.if-form-e.false
