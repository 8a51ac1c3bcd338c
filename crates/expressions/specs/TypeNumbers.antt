-- The types as numbers.
use Rattle.std.specs.Prelude.{ℕ, ◌+◌, ◌*◌}
use Rattle.std.specs.Prelude.{Option, None as none, Some as some}
use Rattle.saiga.specs.Values.{base_code, Ty, base, ◌⇒◌}

-- The number of a type: a base type's code and one; for p ⇒ r four times r's number, p's code and one. 0 stands for no type.
unfoldable pub type_number : Ty → ℕ
type_number (base B) = base_code B + 1
type_number (B ⇒ T) = 4 * type_number T + base_code B + 1

unfoldable pub inferred_number : Option Ty → ℕ
inferred_number none = 0
inferred_number (some T) = type_number T
