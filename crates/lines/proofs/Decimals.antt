-- Numbers in decimal: by their last digit, how many digits they have, and as the kit prints them.
use mathlib.Core.Bool.{Bool, true, false, true≢false}
use mathlib.Core.List.{List, [], ◌∷◌, ◌++◌}
use mathlib.Core.Path.{◌≡◌, refl, sym, ap}
use Prim.Native.Nat.{ℕ, zero, suc, ◌+◌, ◌/◌, ◌%◌, ◌^◌, ◌≤◌, ◌<◌}
use native.Mathlib.Nat.{pow-suc}
use native.Mathlib.Omega.{arith}
use lib.Dec.{ltb}
use lib.IntN.{ℤ, pos, negsuc, nat_abs}
use lib.ListN.{length, length-append}
use lib.Signed.{lt_z}
use borrow.Author.Tests.{ltb-true, ltb-false, lt-ltb, le-ltb}
use mir.Syntax.{w64}
use mir.Val.{SFits, of_z, to_z}
use mir.Facts.{to_z-of_z}
use Rattle.std.specs.Fmt.{decimal as printed_decimal, signed_decimal as printed_signed}
use Rattle.std.proofs.lemmas.Fmt.{AppendsLastDigit, decimal_from_appends, length-decimal-le_succ}
use Rattle.lines.specs.Lines.{decimal_within, decimal, signed_decimal}

-- a bound above the number is as good as any other
enough : (k j n : ℕ) → n < k → n < j → decimal_within k n ≡ decimal_within j n
unfolding decimal_within
enough zero j n hk hj = absurd (omega arith)
enough (suc k) zero n hk hj = absurd (omega arith)
enough (suc k) (suc j) n hk hj = go (ltb n 10) refl (enough k j (n / 10))
  where
    go : (t : Bool) → ltb n 10 ≡ t → (n / 10 < k → n / 10 < j → decimal_within k (n / 10) ≡ decimal_within j (n / 10)) → decimal_within (suc k) n ≡ decimal_within (suc j) n
    go true e shorter = rw e
    go false e shorter =
        let h = ltb-false n 10 e in
        rw (e, shorter (omega arith) (omega arith))

pub decimal_digit : (n : ℕ) → n < 10 → decimal n ≡ (48 + n) ∷ []
unfolding decimal decimal_within
decimal_digit n h = rw (lt-ltb n 10 h)

pub decimal-more : (n : ℕ) → 10 ≤ n → decimal n ≡ decimal (n / 10) ++ ((48 + n % 10) ∷ [])
unfolding decimal decimal_within
decimal-more n h = rw (le-ltb n 10 h) (ap (λ (l : List ℕ). l ++ ((48 + n % 10) ∷ [])) (enough n (suc (n / 10)) (n / 10) (omega arith) (omega arith)))

-- what holds of digits, and of a number where it holds of its tenth, holds of every number
pub by_digits : (P : ℕ → Type 0) → ((n : ℕ) → n < 10 → P n) → ((n : ℕ) → 10 ≤ n → P (n / 10) → P n) → (n : ℕ) → P n
by_digits P digit more n = below (suc n) n (omega arith)
  where
    below : (k m : ℕ) → m < k → P m
    below zero m h = absurd (omega arith)
    below (suc k) m h = go (ltb m 10) refl (below k (m / 10))
      where
        go : (t : Bool) → ltb m 10 ≡ t → (m / 10 < k → P (m / 10)) → P m
        go true e shorter = digit m (ltb-true m 10 e)
        go false e shorter = let l = ltb-false m 10 e in more m l (shorter (omega arith))

-- A number below 10 ^ k has at most k digits.
pub decimal-length : (k n : ℕ) → n < 10 ^ suc k → length (decimal n) ≤ suc k
decimal-length zero n h = rw (decimal_digit n h) (omega arith)
decimal-length (suc k) n h = go (ltb n 10) refl (decimal-length k (n / 10))
  where
    go : (t : Bool) → ltb n 10 ≡ t → (n / 10 < 10 ^ suc k → length (decimal (n / 10)) ≤ suc k) → length (decimal n) ≤ suc (suc k)
    go true e shorter = rw (decimal_digit n (ltb-true n 10 e)) (omega arith)
    go false e shorter =
        let s = shorter (omega (arith, pow-suc 10 (suc k))) in
        rw (decimal-more n (ltb-false n 10 e), length-append) (omega arith)

-- a number that is not negative has no sign
pub other_decimal : (z : ℤ) → lt_z z (pos 0) ≡ false → signed_decimal z ≡ decimal (nat_abs z)
unfolding signed_decimal
other_decimal (pos n) t = refl
other_decimal (negsuc n) t = absurd (true≢false t)

-- ---- Numbers as the kit prints them

appends : AppendsLastDigit decimal_within
unfolding decimal_within
appends = record { one = λ k n h. rw (lt-ltb n 10 h); more = λ k n h. rw (le-ltb n 10 h) }

pub decimal_printed : (n : ℕ) → n < 2 ^ 64 → printed_decimal n ≡ decimal n
unfolding decimal
decimal_printed n h = sym (decimal_from_appends decimal_within appends (suc n) n h (omega (arith, length-decimal-le_succ n h)))

signed_same : (z : ℤ) → SFits w64 z → printed_signed z ≡ signed_decimal z
unfolding signed_decimal
signed_same (pos n) h = decimal_printed n (omega arith)
signed_same (negsuc n) h = ap (λ (l : List ℕ). 45 ∷ l) (decimal_printed (suc n) (omega arith))

-- as the code has it, read from its bits
pub signed_printed : (z : ℤ) → SFits w64 z → printed_signed (to_z w64 (of_z w64 z)) ≡ signed_decimal z
signed_printed z h = rw (to_z-of_z h) (signed_same z h)
