-- A number in decimal says that number, and has no zero before its digits.
use mathlib.Core.List.{List, [], ◌∷◌, ◌++◌}
use mathlib.Core.Path.{◌≡◌, refl}
use Prim.Native.Nat.{ℕ, ◌+◌, ◌*◌, ◌-◌, ◌/◌, ◌%◌, ◌<◌}
use native.Mathlib.Omega.{arith}
use lib.ListN.{length, get_or, length-append, get_or-append}
use Rattle.lines.specs.Lines.{decimal}
use Rattle.lines.proofs.Decimals.{decimal_digit, decimal-more, by_digits}

-- what digits say after a number that is read already
pub says : ℕ → List ℕ → ℕ
says n [] = n
says n (d ∷ l) = says (10 * n + (d - 48)) l

says_last : (n : ℕ) (l : List ℕ) (d : ℕ) → says n (l ++ (d ∷ [])) ≡ 10 * says n l + (d - 48)
unfolding says
says_last n [] d = refl
says_last n (x ∷ l) d = says_last (10 * n + (x - 48)) l d

pub decimal-says : (n : ℕ) → says 0 (decimal n) ≡ n
unfolding says
decimal-says =
    by_digits (λ n. says 0 (decimal n) ≡ n)
    (λ n h. rw (decimal_digit n h) (omega arith))
    (λ n h shorter. rw (decimal-more n h, says_last, shorter) (omega arith))

pub decimal-first : (n : ℕ) → (0 < length (decimal n)) × (0 < n → 48 < get_or (decimal n) 0 0)
decimal-first =
    by_digits (λ n. (0 < length (decimal n)) × (0 < n → 48 < get_or (decimal n) 0 0))
    (λ n h. rw (decimal_digit n h) (omega arith, λ p. omega arith))
    (λ n h shorter.
    rw (decimal-more n h, length-append, get_or-append (decimal (n / 10)) ((48 + n % 10) ∷ []) 0 0 shorter.0)
    (omega (arith, shorter.0), λ p. shorter.1 (omega arith)))
