-- Type safety (001, theorems 4.2 and 4.3): of an accepted question on an accepted sheet every step, in plain Saiga and in the caching
-- steps, is one of the figures' rules, and looks at values of the forms which that rule is for. So none of them meets a default of
-- `truth`, `number`, `node_of`, `apply` or `definition_expr`, or looks past the end of a list.
use Rattle.std.specs.Prelude.{Bool, List, ◌≡◌, ℕ, ℤ}
use Rattle.std.specs.Prelude.{Some as some}
use Rattle.saiga.specs.Values.{Base, unit_t, bool_t, int_t, node_t, Ty, base, ◌⇒◌, Value, unit, bool, int, node, Function, function, Holding, holding, function_type, holding_type, null}
use Rattle.saiga.specs.Expressions.{Expr, expression, read_whole}
use Rattle.saiga.specs.Types.{attribute_at, infer}
use Rattle.saiga.specs.Sheet.{Sheet, node_count, rule_scope, forward_scope, Definition, undefined, figure, piece_of, forward_of, definition, context, accepted, check_sheet}
use Rattle.saiga.specs.Terms.{Occurrence, Term, val, cond, app, attr, form}
use Rattle.saiga.specs.Plain.{Plain, plain_at}
use Rattle.saiga.specs.Caching.{Entry, kept, State}
use Rattle.saiga.specs.Runs.{Reaches}
use Rattle.saiga.specs.Sound.{IsA, ValueIn, OccurrenceIn, PlainIn, RunningIn}
use Rattle.saiga.specs.Store.{capacity, check_store}
use Rattle.saiga.specs.Ask.{asked, check_question}

-- ---- What a step looks at

-- Canonical forms: `truth`, `number` and `node_of` have a default for all others.
abbrev pub Canonical : Base → Value → Type 0
Canonical unit_t v = v ≡ unit
Canonical bool_t v = (b : Bool) × (v ≡ bool b)
Canonical int_t v = (z : ℤ) × (v ≡ int z)
Canonical node_t v = (n : ℕ) × (v ≡ node n)

-- A function, or one holding its first argument, whose next argument is of the base type B: `apply` has a default for all others.
pub data Takes (B : Base) : Value → Type 0 where
  takes_first : {f : Function} {T : Ty} → function_type f ≡ (B ⇒ T) → Takes B (function f)
  takes_second : {h : Holding} {T : Ty} → holding_type h ≡ (B ⇒ T) → Takes B (holding h)

-- A definition with an expression: `definition_expr` has a default for all others.
abbrev pub InForce : Sheet → Definition → Type 0
InForce s undefined = ⊥
InForce s (figure v) = Unit {0}
InForce s (piece_of p) = (e : Expr) × (read_whole (rule_scope s) p ≡ expression e)
InForce s (forward_of p) = (e : Expr) × (read_whole (forward_scope s) p ≡ expression e)

-- The rule that is due at an expression (001, figures 6, 8 and 10), with what it looks at. A value has none, so where a rule for the
-- whole needs a value of a part, no rule for that part applies.
pub data RuleDue (s : Sheet) {F : Type 0} : Term F → Type 0 where
  cond_left : {c t e : Term F} → RuleDue s c → RuleDue s (cond c t e)
  -- CondTrue, CondFalse
  cond_bool : {b : Bool} {t e : Term F} → RuleDue s (cond (val (bool b)) t e)
  app_left : {f x : Term F} → RuleDue s f → RuleDue s (app f x)
  app_right : {f : Value} {x : Term F} → RuleDue s x → RuleDue s (app (val f) x)
  -- AppApp, where the run ends if a sum does not fit
  app-app : {B : Base} {f x : Value} → Takes B f → Canonical B x → RuleDue s (app (val f) (val x))
  attr_left : {n x : Term F} {a : ℕ} → RuleDue s n → RuleDue s (attr n a x)
  attr_right : {n : Value} {a : ℕ} {x : Term F} → RuleDue s x → RuleDue s (attr (val n) a x)
  -- AttrApp on null, where the run ends
  attr_null : {a : ℕ} {x : Value} → RuleDue s (attr (val (node null)) a (val x))
  -- AttrApp of a declared node and attribute, with a parameter of its type
  attr-app : {n a : ℕ} {x : Value} → OccurrenceIn (node_count s) s.attributes record { node = n; attribute = a; parameter = x }
      → InForce s (definition s n a) → RuleDue s (attr (val (node n)) a (val x))
  cache_left : {o : F} {e : Term F} → RuleDue s e → RuleDue s (form o e)
  cache-write : {o : F} {v : Value} → RuleDue s (form o (val v))

-- Strong progress: a value of the type, or a rule is due.
pub data Progress (s : Sheet) (T : Ty) {F : Type 0} : Term F → Type 0 where
  at_value : {v : Value} → ValueIn (node_count s) T v → Progress s T (val v)
  at_rule : {t : Term F} → RuleDue s t → Progress s T t

-- ---- The claim

-- Of a state of the caching steps: its expression, and each kept value that AttrApp can take from its store.
pub record SafeState (s : Sheet) (B : Base) (st : State) : Type 0 where
  pub typed : RunningIn (node_count s) s.attributes st.term (base B)
  pub progress : Progress s (base B) st.term
  pub kept_typed : (o : Occurrence) (v : Value) → kept st.entries o ≡ some v → IsA (node_count s) (attribute_at s.attributes o.attribute).result v

-- Of a question e of the base type B: each expression that plain Saiga comes to, at any count; and each state that the caching steps
-- come to, from any store that passes the checks, right or wrong in its values, with any budget.
pub record SafeQuestion (s : Sheet) (e : Expr) (B : Base) : Type 0 where
  pub plain : (n : ℕ) (t : Plain) → plain_at (context s) n (asked e) ≡ some t
      → PlainIn (node_count s) s.attributes t (base B) × Progress s (base B) t
  pub caching : (store : List ℕ) (k : ℕ) (entries : List Entry) → check_store s store k ≡ accepted entries → (budget : ℕ) (st : State)
      → Reaches (context s) (capacity store) budget record { term = asked e; entries = entries; steps = 0 } st → SafeState s B st

-- For the bytes of any accepted sheet and any accepted question.
abbrev pub TypeSafety : Type 0
TypeSafety =
    (sheet : List ℕ) (s : Sheet) → check_sheet sheet ≡ accepted s → (question : List ℕ) (e : Expr) → check_question s question ≡ accepted e
    → (B : Base) × (infer s.attributes unit_t e ≡ some (base B)) × SafeQuestion s e B
