-- Expressions as they run.
use Rattle.std.specs.Prelude.{ℕ}
use Rattle.saiga.specs.Values.{Value, node}
use Rattle.saiga.specs.Expressions.{Expr, literal, if, application, attribute, this, parameter}

-- An occurrence (n, a, v) (document 01's term for an attribute instance with its parameter).
pub record Occurrence : Type 0 where
  pub node : ℕ
  pub attribute : ℕ
  pub parameter : Value

-- 001, figures 7 and 9. `F` is what stands before := in the form n.a(v) := e: an occurrence in the caching steps, and nothing, ⊥,
-- in plain Saiga, which has no such form.
pub data Term (F : Type 0) : Type 0 where
  val : Value → Term F
  cond : Term F → Term F → Term F → Term F
  app : Term F → Term F → Term F
  attr : Term F → ℕ → Term F → Term F
  form : F → Term F → Term F

-- "with n and v put for 0x30 and 0x31". What a sheet writes has no form, so none is put in.
unfoldable pub put : {F : Type 0} → ℕ → Value → Expr → Term F
put n v (literal w) = val w
put n v (if c t e) = cond (put n v c) (put n v t) (put n v e)
put n v (application f x) = app (put n v f) (put n v x)
put n v (attribute m a x) = attr (put n v m) a (put n v x)
put n v this = val (node n)
put n v parameter = val v
