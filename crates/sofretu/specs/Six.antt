-- An answer as the six signed numbers of 64 bits that a C call brings (document 01: "An answer has number (0 for a value), place, type, value,
-- steps, kept").
use Rattle.std.specs.Prelude.{cond, List, [], ◌∷◌, ℕ, ◌-◌, ltb, ℤ, pos, negsuc}
use Rattle.saiga.specs.Ask.{Answer}

-- a number of 64 bits in two's complement
unfoldable pub in_signed : ℕ → ℤ
in_signed n = cond (ltb n 9223372036854775808) (pos n) (negsuc (18446744073709551615 - n))

unfoldable pub six : Answer → List ℤ
six a = pos a.number ∷ in_signed a.place ∷ pos a.type ∷ a.value ∷ in_signed a.steps ∷ in_signed a.kept ∷ []
