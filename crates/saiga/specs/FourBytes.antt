-- An Int in four bytes: the laws of `signed` and `unsigned`, and the four ends (document 02, F-3).
use Rattle.std.specs.Prelude.{cond, ◌≡◌, ℕ, ◌-◌, ◌<◌, ltb, ℤ, pos, negsuc, ◌≤ℤ◌}
use Rattle.saiga.specs.Values.{lowest, highest, word_limit, sign_bit, signed, unsigned}

-- The four ends of a number of four bytes.
abbrev pub FourEnds : Type 0
FourEnds =
    (signed 0 ≡ pos 0)
    × (signed 2147483647 ≡ highest)
    × (signed 2147483648 ≡ lowest)
    × (signed 4294967295 ≡ negsuc 0)

-- "every four bytes read as the same Int as today": in two's complement, where a number with the top bit set is negative.
abbrev pub TwosComplement : Type 0
TwosComplement = (u : ℕ) → u < word_limit → signed u ≡ cond (ltb u sign_bit) (pos u) (negsuc (word_limit - 1 - u))

-- Int is −2,147,483,648 to 2,147,483,647.
pub record IsInt (z : ℤ) : Type 0 where
  pub from_lowest : lowest ≤ℤ z
  pub to_highest : z ≤ℤ highest

-- Writing and reading undo one another: each Int has four bytes, each four bytes have an Int.
abbrev pub WritingAndReading : Type 0
WritingAndReading =
    ((z : ℤ) → IsInt z → (unsigned z < word_limit) × (signed (unsigned z) ≡ z))
    × ((u : ℕ) → u < word_limit → IsInt (signed u) × (unsigned (signed u) ≡ u))
