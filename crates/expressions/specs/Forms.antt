-- What the code answers of an expression's form and type, by the definitions of crate saiga.
use Rattle.std.specs.Prelude.{Bool, List, ℕ, is_some}
use Rattle.std.specs.Prelude.{Option, None as none, Some as some}
use Rattle.saiga.specs.declared.Base.{Base}
use Rattle.saiga.specs.declared.Base.TheVariants.{Unit as unit_t}
use Rattle.saiga.specs.Values.{Ty, base, ◌⇒◌}
use Rattle.saiga.specs.Expressions.{Expr, Head, Scope, Reading, malformed, reads, read_after, read_expr, Whole, no_expression, expression}
use Rattle.saiga.specs.Types.{Attribute, infer}
use Rattle.saiga.specs.Sheet.{Checked}
use Rattle.saiga.specs.Stops.{says}
use Rattle.values.specs.Layout.{attributes_in}
use Rattle.expressions.specs.Types.{typed}
use Rattle.expressions.specs.declared.types.«Type».{«Type»}
use Rattle.expressions.specs.declared.Scope.{Scope as Place}
use Rattle.expressions.specs.declared.Form.{Form}

abbrev pub scope_of : ℕ → ℕ → Bool → Bool → Scope
scope_of nodes attributes has-this has-parameter =
    record { nodes = nodes; attributes = attributes; has-this = has-this; has-parameter = has-parameter }

-- The type of 0x31. Where it may not be used, its type is never asked.
abbrev pub parameter_type : Option Base → Base
parameter_type none = unit_t
parameter_type (some p) = p

-- The scope, and the attributes with their types, of the place that the code is told of.
abbrev pub scope_in : Place → Scope
scope_in p = scope_of p.declared.nodes p.declared.attributes p.this (is_some p.parameter)

abbrev pub attributes_of : Place → List Attribute
attributes_of p = attributes_in p.declared.sheet.now p.declared.attributes

-- the width and the type of what was read
unfoldable pub form_of : List Attribute → Base → Reading → Option (ℕ × Option Ty)
form_of sig p malformed = none
form_of sig p (reads e w) = some (w, infer sig p e)

-- what a reader answers, in these words
abbrev pub shown_form : Option Form → Option (ℕ × Option Ty)
shown_form none = none
shown_form (some f) = some (f.width, typed f.ty)

-- the form of the expression whose head is followed by `l`, where `k` bounds the nesting inside
abbrev pub form_after : Scope → List Attribute → Base → ℕ → Head → List ℕ → Option (ℕ × Option Ty)
form_after s sig p k c l = form_of sig p (read_after s (read_expr s k) c l)

-- the type of the bytes as a whole, if they are an expression and it has one
unfoldable pub formed_of : List Attribute → Base → Whole → Option (Option Ty)
formed_of sig p no_expression = none
formed_of sig p (expression e) = some (infer sig p e)

abbrev pub shown : Option (Option «Type») → Option (Option Ty)
shown none = none
shown (some t) = some (typed t)

-- the base type that was inferred: an accepted question has one
unfoldable pub base_in : Option Ty → Base
base_in none = unit_t
base_in (some (base B)) = B
base_in (some (B ⇒ T)) = unit_t

-- the check of a question, which says of an accepted one no more than its base type
abbrev pub question_of : List Attribute → Checked Expr → Checked Base
question_of sig = says (λ e. base_in (infer sig unit_t e))
