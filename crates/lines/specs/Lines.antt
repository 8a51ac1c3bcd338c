-- The line of an answer (document 01: "It prints number, place, type, value, steps, kept. A value is signed decimal").
use Rattle.std.specs.Prelude.{cond, List, [], ◌∷◌, ◌++◌, ℕ, zero, suc, ◌+◌, ◌/◌, ◌%◌, ltb, ℤ, pos, negsuc}
use Rattle.saiga.specs.Ask.{Answer}

-- the digits of a number, of which there are at most k
unfoldable pub decimal_within : ℕ → ℕ → List ℕ
decimal_within zero n = []
decimal_within (suc k) n =
    let longer = decimal_within k (n / 10) ++ ((48 + n % 10) ∷ []) in
    cond (ltb n 10) ((48 + n) ∷ []) longer

-- A number in decimal, with no zeros before its digits; 0 is one digit. The bound is never met: `decimal_digit` and `decimal-more`
-- (proofs/Decimals.antt) have it without.
unfoldable pub decimal : ℕ → List ℕ
decimal n = decimal_within (suc n) n

-- A signed number: a minus sign before a negative one.
unfoldable pub signed_decimal : ℤ → List ℕ
signed_decimal (pos n) = decimal n
signed_decimal (negsuc n) = 45 ∷ decimal (suc n)

-- fields, with a space between two of them and a newline after the last
unfoldable pub fields : List (List ℕ) → List ℕ
fields [] = []
fields (f ∷ []) = f ++ (10 ∷ [])
fields (f ∷ g ∷ l) = f ++ (32 ∷ []) ++ fields (g ∷ l)

unfoldable pub line_of : Answer → List ℕ
line_of a =
    fields
    (decimal a.number ∷ decimal a.place ∷ decimal a.type ∷ signed_decimal a.value ∷ decimal a.steps ∷ decimal a.kept ∷ [])
