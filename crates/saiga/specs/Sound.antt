-- Values, expressions and running expressions that are of their type and within the sheet's declarations: what an accepted sheet
-- and an accepted question are made of, and what the steps preserve (001, theorem 4.3).
use Rattle.std.specs.Prelude.{true, List, [], ◌∷◌, ◌≡◌, ℕ, ◌<◌, length}
use Rattle.saiga.specs.Values.{Base, bool_t, node_t, Ty, base, ◌⇒◌, Value, type_of, is_word, of_word, to_word}
use Rattle.saiga.specs.Expressions.{Expr, literal, if, application, attribute, this, parameter, Scope}
use Rattle.saiga.specs.Types.{Attribute, attribute_at}
use Rattle.saiga.specs.Terms.{Occurrence, Term, val, cond, app, attr, form}
use Rattle.saiga.specs.Plain.{Plain}
use Rattle.saiga.specs.Caching.{Running, Entry}

-- A value of the base type B on a sheet of so many nodes: its four-byte form is one of B's, and holds it.
pub record IsA (nodes : ℕ) (B : Base) (v : Value) : Type 0 where
  pub is-word : is_word nodes B (to_word v) ≡ true
  pub round_trip : of_word B (to_word v) ≡ v

-- A value of a type, base or function.
abbrev pub ValueIn : ℕ → Ty → Value → Type 0
ValueIn nodes (base B) v = IsA nodes B v
ValueIn nodes (B ⇒ T) v = type_of v ≡ (B ⇒ T)

-- A written expression: figures 5 and 8 with each literal a value on this sheet, and 0x30 and 0x31 only where the scope has them.
pub data ExprIn (sc : Scope) (sig : List Attribute) (p : Base) : Expr → Ty → Type 0 where
  literal∈ : {v : Value} {T : Ty} → ValueIn sc.nodes T v → ExprIn sc sig p (literal v) T
  if∈ : {c t e : Expr} {T : Ty} → ExprIn sc sig p c (base bool_t) → ExprIn sc sig p t T → ExprIn sc sig p e T → ExprIn sc sig p (if c t e) T
  application∈ : {f x : Expr} {B : Base} {T : Ty} → ExprIn sc sig p f (B ⇒ T) → ExprIn sc sig p x (base B) → ExprIn sc sig p (application f x) T
  attribute∈ : {n x : Expr} {a : ℕ} → a < length sig → ExprIn sc sig p n (base node_t) → ExprIn sc sig p x (base (attribute_at sig a).parameter-type)
      → ExprIn sc sig p (attribute n a x) (base (attribute_at sig a).result)
  this∈ : sc.has-this ≡ true → ExprIn sc sig p this (base node_t)
  parameter∈ : sc.has-parameter ≡ true → ExprIn sc sig p parameter (base p)

-- An occurrence of a declared node and attribute with a parameter of the attribute's type, and an entry that keeps a value of its type.
pub record OccurrenceIn (nodes : ℕ) (sig : List Attribute) (o : Occurrence) : Type 0 where
  pub node_declared : o.node < nodes
  pub attribute_declared : o.attribute < length sig
  pub parameter-in : IsA nodes (attribute_at sig o.attribute).parameter-type o.parameter

pub record EntryIn (nodes : ℕ) (sig : List Attribute) (e : Entry) : Type 0 where
  pub occurrence_in : OccurrenceIn nodes sig e.occurrence
  pub value-in : IsA nodes (attribute_at sig e.occurrence.attribute).result e.value

pub data All {A : Type 0} (P : A → Type 0) : List A → Type 0 where
  all_none : All P []
  all_cons : {x : A} {l : List A} → P x → All P l → All P (x ∷ l)

-- A running expression (001, figures 5, 8 and 10). `FormIn o B` says what lets a form o := e have the base type B, given that e has it.
pub data TermIn {F : Type 0} (FormIn : F → Base → Type 0) (nodes : ℕ) (sig : List Attribute) : Term F → Ty → Type 0 where
  val∈ : {v : Value} {T : Ty} → ValueIn nodes T v → TermIn FormIn nodes sig (val v) T
  cond∈ : {c t e : Term F} {T : Ty} → TermIn FormIn nodes sig c (base bool_t) → TermIn FormIn nodes sig t T → TermIn FormIn nodes sig e T
      → TermIn FormIn nodes sig (cond c t e) T
  app∈ : {f x : Term F} {B : Base} {T : Ty} → TermIn FormIn nodes sig f (B ⇒ T) → TermIn FormIn nodes sig x (base B) → TermIn FormIn nodes sig (app f x) T
  attr∈ : {n x : Term F} {a : ℕ} → a < length sig → TermIn FormIn nodes sig n (base node_t)
      → TermIn FormIn nodes sig x (base (attribute_at sig a).parameter-type)
      → TermIn FormIn nodes sig (attr n a x) (base (attribute_at sig a).result)
  form∈ : {o : F} {e : Term F} {B : Base} → FormIn o B → TermIn FormIn nodes sig e (base B) → TermIn FormIn nodes sig (form o e) (base B)

-- In plain Saiga no form has a type, since there is none. In the caching steps the form of an occurrence has the attribute's result type.
abbrev pub PlainIn : ℕ → List Attribute → Plain → Ty → Type 0
PlainIn nodes sig t T = TermIn (λ o B. ⊥) nodes sig t T

abbrev pub RunningIn : ℕ → List Attribute → Running → Ty → Type 0
RunningIn nodes sig t T = TermIn (λ o B. OccurrenceIn nodes sig o × (B ≡ (attribute_at sig o.attribute).result)) nodes sig t T

-- A context (001, "a correctly-typed context"): σ of each declared pair has the attribute's type.
pub record ContextIn (nodes : ℕ) (sig : List Attribute) (context : ℕ → ℕ → Expr) : Type 0 where
  pub scope : Scope
  pub same_nodes : scope.nodes ≡ nodes
  pub defines : (n a : ℕ) → n < nodes → a < length sig → ExprIn scope sig (attribute_at sig a).parameter-type (context n a) (base (attribute_at sig a).result)
