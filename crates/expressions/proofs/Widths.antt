-- The width of the expression at the front of some bytes is the same in every scope in which there is one.
use mathlib.Core.List.{List}
use mathlib.Core.Path.{◌≡◌, refl}
use Prim.Native.Nat.{ℕ, zero, suc, ◌+◌, ◌-◌, ◌/◌, ◌%◌, ◌≤◌}
use native.Mathlib.Omega.{arith}
use lib.ListN.{length, get_or}
use Rattle.saiga.specs.Expressions.{Scope, head_of}
use Rattle.expressions.specs.Noted.{WidthOf}
use Rattle.expressions.specs.Widths.{shape_of}
use Rattle.expressions.proofs.Passing.{shape-moves, Ahead, one-ahead, none_ahead, more-inside, turn}

module _ (l : List ℕ) where
  abbrev shape : ℕ → ℕ
  shape at = shape_of (head_of (get_or l at 0))

  -- where passing over `n` expressions from `at` ends
  passed : ℕ → ℕ → ℕ → ℕ
  passed zero n at = at
  passed (suc k) zero at = at
  passed (suc k) (suc n) at = passed k (n + shape at / 8) (at + shape at % 8)

  passed-all : {sc : Scope} {w : ℕ} (k n at : ℕ) → length l ≤ at + k → Ahead sc l n at w → passed k n at ≡ w
  unfolding passed
  passed-all zero zero at fits a = none_ahead (omega arith) a
  passed-all zero (suc n) at fits a = absurd (omega (arith, more-inside {n = suc n} (omega arith) a))
  passed-all (suc k) zero at fits a = none_ahead (omega arith) a
  passed-all (suc k) (suc n) at fits a =
      let less : suc n - 1 ≡ n = omega arith in
      passed-all k (n + shape at / 8) (at + shape at % 8) (omega (arith, shape-moves (head_of (get_or l at 0)) {r = shape at} refl))
      (rw less at (turn {r = shape at} refl (omega arith) a))

  pub width_of : (skip : ℕ) × WidthOf l skip
  width_of = (passed (length l) 1 0, λ sc f w r. passed-all (length l) 1 0 (omega arith) (one-ahead r))
