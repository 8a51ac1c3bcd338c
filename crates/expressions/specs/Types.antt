-- The code's types, by those of crate saiga.
use Rattle.std.specs.Prelude.{Option, None as none, Some as some}
use Rattle.saiga.specs.declared.Base.{Base}
use Rattle.saiga.specs.declared.Base.TheVariants.{Bool as bool_t, Int as int_t, Node as node_t, Unit as unit_t}
use Rattle.saiga.specs.Values.{Ty, base, ◌⇒◌}
use Rattle.saiga.specs.Types.{Attribute, given}
use Rattle.expressions.specs.declared.types.«Type».{«Type»}
use Rattle.expressions.specs.declared.types.«Type».TheVariants.{Unit, Bool, Int, Node, BoolToBool, IntToBool, NodeToBool, IntToInt, IntsToBool, NodesToBool, IntsToInt}

abbrev pub ty_of : «Type» → Ty
ty_of Unit = base unit_t
ty_of Bool = base bool_t
ty_of Int = base int_t
ty_of Node = base node_t
ty_of BoolToBool = bool_t ⇒ base bool_t
ty_of IntToBool = int_t ⇒ base bool_t
ty_of NodeToBool = node_t ⇒ base bool_t
ty_of IntToInt = int_t ⇒ base int_t
ty_of IntsToBool = int_t ⇒ int_t ⇒ base bool_t
ty_of NodesToBool = node_t ⇒ node_t ⇒ base bool_t
ty_of IntsToInt = int_t ⇒ int_t ⇒ base int_t

-- what was inferred, if an expression has a type
abbrev pub typed : Option «Type» → Option Ty
typed none = none
typed (some t) = some (ty_of t)

-- the base type that was inferred, if one was
abbrev pub base_type_in : Option Ty → Option Base
base_type_in none = none
base_type_in (some (base B)) = some B
base_type_in (some (B ⇒ T)) = none

-- the parameter's type and the result's of a function type
abbrev pub parts_of : Ty → Option (Ty × Ty)
parts_of (base B) = none
parts_of (B ⇒ T) = some (base B, T)

abbrev pub parted : Option («Type» × «Type») → Option (Ty × Ty)
parted none = none
parted (some p) = some (ty_of p.0, ty_of p.1)

-- what `infer` gives for an attribute of a node with a parameter
abbrev pub infer_attribute : Attribute → Option Ty → Option Ty → Option Ty
infer_attribute a N X = given (base node_t) N (given (base a.parameter-type) X (some (base a.result)))
