-- In each scope in which an expression stands at the front, passing over the expressions still to come ends where that one does. The measure is what is left of the bytes.
use Rattle.std.proofs.Common.{◌≡◌, ℕ, ◌-◌, length}
use Rattle.saiga.specs.Expressions.{Scope, Expr, reads, read_expr}
use Rattle.expressions.proofs.Passing.{Ahead}
use Rattle.expressions.proofs.width.Given as goal

abbrev pub invariant-loop-left : goal.invariant-loop-left
invariant-loop-left l = (sc : Scope) (f : Expr) (w : ℕ) → read_expr sc (length l.e) l.e ≡ reads f w → Ahead sc l.e l.left l.at w

abbrev pub decreases-loop-left : goal.decreases-loop-left
decreases-loop-left l = length l.e - l.at
