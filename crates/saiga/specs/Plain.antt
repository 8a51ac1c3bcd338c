-- Plain Saiga (document 01, "Plain Saiga", and F-4 of document 02): no store, no form n.a(v) := e, no limits.
use Rattle.std.specs.Prelude.{◌≡◌, ℕ, zero, suc, eqb}
use Rattle.std.proofs.Math.Bool as Bool
use Rattle.std.specs.Prelude.{Option, None as none, Some as some}
use Rattle.saiga.specs.Values.{Value, null, truth, node_of, apply}
use Rattle.saiga.specs.Expressions.{Expr}
use Rattle.saiga.specs.Terms.{Term, val, cond, app, attr, form, put}

-- "Its state is one expression and a count."
abbrev pub Plain : Type 0
Plain = Term ⊥

-- The endings without a value: on null, and by overflow, where a sum or difference is due that does not fit (F-4).
pub data NoValue : Type 0 where
  on_null by_overflow : NoValue

-- What a state comes to: it is a value; a counted step leads to another expression; or all ends without a value.
pub data PlainStep : Type 0 where
  is_value : Value → PlainStep
  steps_to : Plain → PlainStep
  ends_without : NoValue → PlainStep

-- A part is stepped in its place `inside`, to a value; then `after` follows.
unfoldable pub step_part : (Plain → Plain) → (Value → PlainStep) → PlainStep → PlainStep
step_part inside after (is_value v) = after v
step_part inside after (steps_to t) = steps_to (inside t)
step_part inside after (ends_without why) = ends_without why

-- AppApp: "The run stops instead, and the step is not counted" (F-4).
unfoldable pub plain_application : Option Value → PlainStep
plain_application (some v) = steps_to (val v)
plain_application none = ends_without by_overflow

module _ (context : ℕ → ℕ → Expr) where
  -- "On null, all of plain Saiga ends, uncounted. Otherwise σ(n, a, v) takes the place of this part; that counts one."
  unfoldable pub plain_attribute : ℕ → ℕ → Value → PlainStep
  plain_attribute n a v = Bool.cond (eqb n null) (ends_without on_null) (steps_to (put n v (context n a)))

  unfoldable pub plain_step : Plain → PlainStep
  plain_step (val v) = is_value v
  plain_step (cond c t e) = step_part (λ c'. cond c' t e) (λ v. steps_to (Bool.cond (truth v) t e)) (plain_step c)
  plain_step (app f x) =
      step_part (λ f'. app f' x) (λ v. step_part (λ x'. app (val v) x') (λ w. plain_application (apply v w)) (plain_step x)) (plain_step f)
  plain_step (attr n a x) =
      step_part (λ n'. attr n' a x)
      (λ v. step_part (λ x'. attr (val v) a x') (λ w. plain_attribute (node_of v) a w) (plain_step x))
      (plain_step n)
  plain_step (form o e) = absurd o

  -- the expression when the count is n, if plain Saiga comes so far
  unfoldable pub plain_at : ℕ → Plain → Option Plain
  plain_at zero t = some t
  plain_at (suc n) t = elim (plain_step t) [ is_value v ↦ none | steps_to t' ↦ plain_at n t' | ends_without why ↦ none ]

  -- "It ends with a value or on null, and n is the count then; or it runs for ever." F-4 has "three endings, value, null and overflow, under the same
  -- conditions and counts".
  unfoldable pub EndsWithValue : Plain → Value → ℕ → Type 0
  EndsWithValue t v n = plain_at n t ≡ some (val v)

  unfoldable pub EndsWithout : NoValue → Plain → ℕ → Type 0
  EndsWithout why t n = (t' : Plain) × (plain_at n t ≡ some t') × (plain_step t' ≡ ends_without why)

  unfoldable pub RunsForEver : Plain → Type 0
  RunsForEver t = (n : ℕ) → (t' : Plain) × (plain_at n t ≡ some t')
