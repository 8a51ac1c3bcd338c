-- What is inferred, worked out on the code's types.
use Rattle.std.proofs.Common.{◌≡◌, refl, sym, ap, ◌∙◌, arith, ℕ, List, ◌<◌, Bool as Flag, cond}
use Rattle.std.specs.Prelude.{Option, None as none, Some as some}
use Rattle.std.specs.Option.{option_eq}
use Rattle.std.proofs.lemmas.Option.{none-some, some_pair_parts}
use Rattle.saiga.specs.Values.{Ty, base, ◌⇒◌, base_of}
use Rattle.saiga.specs.Types.{attribute_at, same_base, same_ty, given, infer_if, infer_application}
use Rattle.values.specs.Layout.{result_at, parameter_at, attributes_in}
use Rattle.values.proofs.Attributes.{attribute-at}
use Rattle.expressions.specs.declared.types.«Type».{«Type»}
use Rattle.expressions.specs.declared.types.«Type».TheVariants.{Unit, Bool, Int, Node, BoolToBool, IntToBool, NodeToBool, IntToInt, IntsToBool, NodesToBool, IntsToInt}
use Rattle.expressions.specs.Types.{ty_of, typed, parts_of, infer_attribute}
use Rattle.expressions.specs.contracts.types.TypePartialEq.TheImpl as type_eq

-- `==` tells the code's types apart as the definitions do.
abbrev equal : «Type» → «Type» → Flag
equal S T = type_eq.eq-value.it S T

same-types : (S T : «Type») → equal T S ≡ same_ty (ty_of S) (ty_of T)
unfolding same_ty same_base
same-types Unit Unit = refl
same-types Bool Bool = refl
same-types Int Int = refl
same-types Node Node = refl
same-types BoolToBool BoolToBool = refl
same-types IntToBool IntToBool = refl
same-types NodeToBool NodeToBool = refl
same-types IntToInt IntToInt = refl
same-types IntsToBool IntsToBool = refl
same-types NodesToBool NodesToBool = refl
same-types IntsToInt IntsToInt = refl
same-types S T = refl

pub given-tested : (S : «Type») (I : Option «Type») (X : Option Ty) → given (ty_of S) (typed I) X ≡ cond (option_eq equal I (some S)) X none
unfolding given
given-tested S none X = refl
given-tested S (some T) X = rw (same-types S T)

pub application-of-none : (X : Option Ty) → infer_application none X ≡ none
unfolding infer_application
application-of-none X = refl

pub application-of-base : (T : Ty) (X : Option Ty) → none ≡ parts_of T → infer_application (some T) X ≡ none
unfolding infer_application
application-of-base (base B) X h = refl
application-of-base (B ⇒ T) X h = absurd (none-some _ h)

pub application-of-function : (T P R : Ty) (X : Option Ty) → some (P, R) ≡ parts_of T → infer_application (some T) X ≡ given P X (some R)
unfolding infer_application
application-of-function (base B) P R X h = absurd (none-some _ (sym h))
application-of-function (B ⇒ T) P R X h = let q = some_pair_parts P (base B) R T h in rw (q.0, q.1)

-- What the code's tests come to, for the functions of types.rt.
pub ruleset given_laws = (given-tested)

pub ruleset application_laws = (application-of-none, application-of-base, application-of-function)

pub ruleset attribute_laws = (attribute-at)
