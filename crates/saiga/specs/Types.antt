-- The types of expressions (001, figures 5 and 8; document 01, "The sheet": "Typing follows 001").
use Rattle.std.specs.Prelude.{Bool, true, false, cond, List, ℕ, ◌<◌, eqb, ltb, length, get_or}
use Rattle.std.specs.Prelude.{Option, None as none, Some as some}
use Rattle.saiga.specs.Values.{Base, unit_t, bool_t, node_t, base_code, Ty, base, ◌⇒◌, Value, type_of}
use Rattle.saiga.specs.Expressions.{Expr, literal, if, application, attribute, this, parameter}

-- An attribute's result type τ(a) and parameter type ρ(a).
pub record Attribute : Type 0 where
  pub result : Base
  pub parameter-type : Base

abbrev pub attribute_at : List Attribute → ℕ → Attribute
attribute_at l a = get_or l a (record { result = unit_t; parameter-type = unit_t })

-- The rules of the figures: `Typed attributes p e T` is e ∈ T, where `p` is the type of 0x31.
pub data Typed (attributes : List Attribute) (p : Base) : Expr → Ty → Type 0 where
  literal∈ : {v : Value} → Typed attributes p (literal v) (type_of v)
  if∈ : {c t e : Expr} {T : Ty} → Typed attributes p c (base bool_t) → Typed attributes p t T → Typed attributes p e T
      → Typed attributes p (if c t e) T
  application∈ : {f x : Expr} {B : Base} {T : Ty} → Typed attributes p f (B ⇒ T) → Typed attributes p x (base B)
      → Typed attributes p (application f x) T
  attribute∈ : {n x : Expr} {a : ℕ} → a < length attributes → Typed attributes p n (base node_t)
      → Typed attributes p x (base (attribute_at attributes a).parameter-type)
      → Typed attributes p (attribute n a x) (base (attribute_at attributes a).result)
  this∈ : Typed attributes p this (base node_t)
  parameter∈ : Typed attributes p parameter (base p)

unfoldable pub same_base : Base → Base → Bool
same_base s t = eqb (base_code s) (base_code t)

unfoldable pub same_ty : Ty → Ty → Bool
same_ty (base s) (base t) = same_base s t
same_ty (base s) (b ⇒ t) = false
same_ty (a ⇒ s) (base t) = false
same_ty (a ⇒ s) (b ⇒ t) = cond (same_base a b) (same_ty s t) false

-- ---- Inference, proved sound and complete for the rules (Inference.antt)

-- `given T I X` is X where T was inferred
unfoldable pub given : Ty → Option Ty → Option Ty → Option Ty
given T none X = none
given T (some U) X = cond (same_ty T U) X none

unfoldable pub infer_if : Option Ty → Option Ty → Option Ty → Option Ty
infer_if C none E = none
infer_if C (some T) E = given (base bool_t) C (given T E (some T))

unfoldable pub infer_application : Option Ty → Option Ty → Option Ty
infer_application none X = none
infer_application (some (base B)) X = none
infer_application (some (B ⇒ T)) X = given (base B) X (some T)

unfoldable pub infer : List Attribute → Base → Expr → Option Ty
infer sig p (literal v) = some (type_of v)
infer sig p (if c t e) = infer_if (infer sig p c) (infer sig p t) (infer sig p e)
infer sig p (application f x) = infer_application (infer sig p f) (infer sig p x)
infer sig p (attribute n a x) =
    cond (ltb a (length sig))
    (given (base node_t) (infer sig p n)
    (given (base (attribute_at sig a).parameter-type) (infer sig p x) (some (base (attribute_at sig a).result))))
    none
infer sig p this = some (base node_t)
infer sig p parameter = some (base p)

-- whether an expression has a type
unfoldable pub has_type : List Attribute → Base → Ty → Expr → Bool
has_type sig p T e = is_some (given T (infer sig p e) (some T))
  where
    is_some : Option Ty → Bool
    is_some none = false
    is_some (some U) = true
