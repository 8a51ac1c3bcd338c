-- Facts on integers that the code's tests and casts ask for. `mag z` is n both for n and for -(n + 1), and an Int is an integer with
-- `mag` below 2^31.
use mathlib.Core.Bool.{Bool, true, false}
use mathlib.Core.Path.{◌≡◌, refl}
use Prim.Native.Nat.{suc, ◌-◌, ◌^◌, ◌<◌}
use native.Mathlib.Omega.{arith}
use lib.Dec.{eqb}
use lib.IntN.{ℤ, pos, negsuc}
use lib.Signed.{mag, lt_z}
use mir.Syntax.{Width, w32}
use mir.Val.{SFits, of_z, to_z}
use mir.Facts.{to_z-of_z}
use borrow.Author.Tests.{eqb-true, eqb-false, eq-eqb, ne_eqb}
use Rattle.saiga.specs.Values.{equal_z}

-- The code's test of the bits of z.
pub negative : (w : Width) (z : ℤ) → SFits w z → lt_z (to_z w (of_z w z)) (pos 0) ≡ true → lt_z z (pos 0) ≡ true
negative w z fits below = rw (to_z-of_z fits) at below

-- Two Ints are equal where their bits are.
pub equal_bits : (y z : ℤ) → mag y < 2 ^ 31 → mag z < 2 ^ 31 → eqb (of_z w32 y) (of_z w32 z) ≡ equal_z y z
unfolding equal_z
equal_bits (pos m) (pos n) p q = refl
equal_bits (pos m) (negsuc n) p q = ne_eqb m _ (λ e. omega arith)
equal_bits (negsuc m) (pos n) p q = ne_eqb _ n (λ e. omega arith)
equal_bits (negsuc m) (negsuc n) p q = go (eqb m n) refl
  where
    go : (b : Bool) → eqb m n ≡ b → eqb (2 ^ 32 - suc m) (2 ^ 32 - suc n) ≡ b
    go true e = eq-eqb (2 ^ 32 - suc m) (2 ^ 32 - suc n) (omega (arith, eqb-true m n e))
    go false e = ne_eqb (2 ^ 32 - suc m) (2 ^ 32 - suc n) (λ k. eqb-false m n e (omega arith))
