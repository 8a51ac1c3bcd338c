-- When stop 17 is due (F-4 of document 02): the law of add and subtract, and of AppApp.
use Rattle.std.specs.Prelude.{Bool, List, ◌≡◌, ℕ, ℤ, ◌+ℤ◌, ◌-ℤ◌, Option, None as none, Some as some}
use Rattle.saiga.specs.Values.{Value, int, holding, add_to, subtract_from, apply}
use Rattle.saiga.specs.FourBytes.{IsInt}
use Rattle.saiga.specs.Expressions.{Expr}
use Rattle.saiga.specs.Terms.{Occurrence, val, app}
use Rattle.saiga.specs.Plain.{by_overflow, ends_without, plain_step}
use Rattle.saiga.specs.Caching.{Entry, as_plain, halts, due}

-- "An add or subtract whose exact result lies outside Int has no value." Any other has that result.
pub record Exactly (z : ℤ) (a : Option Value) : Type 0 where
  pub inside : IsInt z → a ≡ some (int z)
  pub outside : (IsInt z → ⊥) → a ≡ none

-- "The run stops instead, and the step is not counted", with budget and without, and so does plain Saiga.
pub record StopsAt (f x : Value) : Type 0 where
  pub caching : (context : ℕ → ℕ → Expr) (s : List Entry) (b : Bool) (os : List Occurrence)
      → due context s b os (app (val f) (val x)) ≡ halts (as_plain by_overflow)
  pub plain : (context : ℕ → ℕ → Expr) → plain_step context (app (val f) (val x)) ≡ ends_without by_overflow

pub record OverflowLaw : Type 0 where
  pub sums : (x y : ℤ) → Exactly (x +ℤ y) (apply (holding (add_to x)) (int y))
  pub differences : (x y : ℤ) → Exactly (x -ℤ y) (apply (holding (subtract_from x)) (int y))
  pub stops : (f x : Value) → apply f x ≡ none → StopsAt f x
