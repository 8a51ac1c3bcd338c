-- The width of the expression at the front of some bytes.
use Rattle.std.specs.Prelude.{List, ℕ, ◌+◌, ◌*◌, length, ◌≡◌}
use Rattle.saiga.specs.Expressions.{Expr, Scope, Head, base_literal, function_literal, if_head, application_head, attribute_head, this_head, parameter_head, no_head, operand_width, reads, read_expr}

-- an expression stands at the front, in some scope
pub record Starts (l : List ℕ) : Type 0 where
  pub scope : Scope
  pub expr : Expr
  pub width : ℕ
  pub read : read_expr scope (length l) l ≡ reads expr width

-- how many bytes a head takes with its operand
abbrev pub head_width : Head → ℕ
head_width (base_literal t) = 1 + operand_width t
head_width function_literal = 2
head_width if_head = 1
head_width application_head = 1
head_width attribute_head = 2
head_width this_head = 1
head_width parameter_head = 1
head_width no_head = 1

-- how many expressions follow a head and its operand
abbrev pub following : Head → ℕ
following (base_literal t) = 0
following function_literal = 0
following if_head = 3
following application_head = 2
following attribute_head = 2
following this_head = 0
following parameter_head = 0
following no_head = 0

-- both in one number: a width is below 8
unfoldable pub shape_of : Head → ℕ
shape_of h = head_width h + 8 * following h
