-- Values and functions (document 01, "Values and functions").
use Rattle.std.specs.Prelude.{Bool, true, false, not, ◌&&◌, ◌||◌, cond, List, [], ◌∷◌, ℕ, zero, suc, ◌+◌, ◌*◌, ◌-◌, ◌/◌, ◌%◌, ltb, eqb, ℤ, pos, negsuc, ◌+ℤ◌, ◌-ℤ◌, Option, None as none, Some as some}
use Rattle.std.specs.Int.Signed.{lt_z, le_z}
pub use Rattle.saiga.specs.declared.Value.{Value}
pub use Rattle.saiga.specs.declared.Value.TheVariants.{Unit as unit, Bool as bool, Int as int, Node as node, Function as function, Holding as holding}
pub use Rattle.saiga.specs.declared.Base.{Base}
pub use Rattle.saiga.specs.declared.Base.TheVariants.{Unit as unit_t, Bool as bool_t, Int as int_t, Node as node_t}
pub use Rattle.saiga.specs.declared.Function.{Function}
pub use Rattle.saiga.specs.declared.Function.TheVariants.{Le as le, EqualInt as equal_int, EqualNode as equal_node, Not as negation, Add as add, Subtract as subtract}
pub use Rattle.saiga.specs.declared.Holding.{Holding}
pub use Rattle.saiga.specs.declared.Holding.TheVariants.{Le as le_of, EqualInt as equal_int_of, EqualNode as equal_node_of, Add as add_to, Subtract as subtract_from}

-- ---- Types

-- "Base types: 0 Unit, 1 Bool, 2 Int, 3 Node."
abbrev pub base_code : Base → ℕ
base_code unit_t = 0
base_code bool_t = 1
base_code int_t = 2
base_code node_t = 3

-- the base type of a code below 4
unfoldable pub base_of : ℕ → Base
base_of c = cond (eqb c 0) unit_t (cond (eqb c 1) bool_t (cond (eqb c 2) int_t node_t))

-- The types: the base types, and "the types of functions between basic types" (001, section 3.1). Figure 5 lets an application's argument
-- have any type. Here a base type is enough: attributes and the parameter have base types, so whatever has a function type comes from one
-- of the six functions, alone, given its first argument, or in a branch of IF, and each argument of these has a base type.
infixr 40 ◌⇒◌
pub data Ty : Type 0 where
  base : Base → Ty
  ◌⇒◌ : Base → Ty → Ty

-- "Function codes: 0 le, 1 equal on Int, 2 equal on Node, 3 not, 4 add, 5 subtract."
unfoldable pub function_of : ℕ → Function
function_of c =
    cond (eqb c 0) le
    (cond (eqb c 1) equal_int
    (cond (eqb c 2) equal_node
    (cond (eqb c 3) negation
    (cond (eqb c 4) add subtract))))

unfoldable pub function_type : Function → Ty
function_type le = int_t ⇒ int_t ⇒ base bool_t
function_type equal_int = int_t ⇒ int_t ⇒ base bool_t
function_type equal_node = node_t ⇒ node_t ⇒ base bool_t
function_type negation = bool_t ⇒ base bool_t
function_type add = int_t ⇒ int_t ⇒ base int_t
function_type subtract = int_t ⇒ int_t ⇒ base int_t

unfoldable pub holding_type : Holding → Ty
holding_type (le_of x) = int_t ⇒ base bool_t
holding_type (equal_int_of x) = int_t ⇒ base bool_t
holding_type (equal_node_of x) = node_t ⇒ base bool_t
holding_type (add_to x) = int_t ⇒ base int_t
holding_type (subtract_from x) = int_t ⇒ base int_t

unfoldable pub type_of : Value → Ty
type_of unit = base unit_t
type_of (bool b) = base bool_t
type_of (int z) = base int_t
type_of (node n) = base node_t
type_of (function f) = function_type f
type_of (holding h) = holding_type h

-- ---- Functions

-- "Null is a Node value", 65,535 in bytes.
abbrev pub null : ℕ
null = 65535

-- Int is −2,147,483,648 to 2,147,483,647.
abbrev pub lowest : ℤ
lowest = negsuc 2147483647

abbrev pub highest : ℤ
highest = pos 2147483647

-- "An add or subtract whose exact result lies outside Int has no value" (document 02, F-4).
unfoldable pub exact : ℤ → Option ℤ
exact z = cond (lt_z z lowest || lt_z highest z) none (some z)

-- The Bool, the Int and the Node of a value. Accepted questions never meet the other cases (Safety.antt).
unfoldable pub truth : Value → Bool
truth unit = false
truth (bool b) = b
truth (int z) = false
truth (node n) = false
truth (function f) = false
truth (holding h) = false

unfoldable pub number : Value → ℤ
number unit = pos 0
number (bool b) = pos 0
number (int z) = z
number (node n) = pos 0
number (function f) = pos 0
number (holding h) = pos 0

unfoldable pub node_of : Value → ℕ
node_of unit = null
node_of (bool b) = null
node_of (int z) = null
node_of (node n) = n
node_of (function f) = null
node_of (holding h) = null

unfoldable pub equal_z : ℤ → ℤ → Bool
equal_z (pos m) (pos n) = eqb m n
equal_z (pos m) (negsuc n) = false
equal_z (negsuc m) (pos n) = false
equal_z (negsuc m) (negsuc n) = eqb m n

-- "All but 3 take their arguments one after the other, so le(4) is itself a function value."
unfoldable pub apply_function : Function → Value → Value
apply_function le v = holding (le_of (number v))
apply_function equal_int v = holding (equal_int_of (number v))
apply_function equal_node v = holding (equal_node_of (node_of v))
apply_function negation v = bool (not (truth v))
apply_function add v = holding (add_to (number v))
apply_function subtract v = holding (subtract_from (number v))

-- the Int of a sum that has one
unfoldable pub summed : Option ℤ → Option Value
summed (some z) = some (int z)
summed none = none

unfoldable pub apply_holding : Holding → Value → Option Value
apply_holding (le_of x) v = some (bool (le_z x (number v)))
apply_holding (equal_int_of x) v = some (bool (equal_z x (number v)))
apply_holding (equal_node_of x) v = some (bool (eqb x (node_of v)))
apply_holding (add_to x) v = summed (exact (x +ℤ number v))
apply_holding (subtract_from x) v = summed (exact (x -ℤ number v))

-- The functional layer of 001's AppApp, which gives a value or overflow. Only add and subtract with both arguments overflow.
unfoldable pub apply : Value → Value → Option Value
apply unit v = some unit
apply (bool b) v = some unit
apply (int z) v = some unit
apply (node n) v = some unit
apply (function f) v = some (apply_function f v)
apply (holding h) v = apply_holding h v

-- ---- The four-byte form

-- "A base value takes four bytes": a number of four bytes is below `word_limit`, and those from the sign bit on are negative Ints.
abbrev pub word_limit : ℕ
word_limit = 4294967296

abbrev pub sign_bit : ℕ
sign_bit = 2147483648

-- "Multi-byte numbers are little-endian."
unfoldable pub of_bytes : List ℕ → ℕ
of_bytes [] = 0
of_bytes (b ∷ l) = b + 256 * of_bytes l

unfoldable pub to_bytes : ℕ → ℕ → List ℕ
to_bytes zero n = []
to_bytes (suc k) n = n % 256 ∷ to_bytes k (n / 256)

-- "With u the unsigned number of the four bytes, the Int is (u + 2,147,483,648) modulo 4,294,967,296, less 2,147,483,648" (document 02, F-3).
-- FourBytes.antt has its laws: it is the two's complement of document 01.
unfoldable pub signed : ℕ → ℤ
signed u = pos ((u + sign_bit) % word_limit) -ℤ pos sign_bit

-- And back: the number that an Int is written as.
unfoldable pub unsigned : ℤ → ℕ
unsigned (pos n) = n
unsigned (negsuc n) = word_limit - 1 - n

abbrev pub bit : Bool → ℕ
bit false = 0
bit true = 1

-- "No other bytes are values": whether a number is the four-byte form of a value of the type, on a sheet that declares so many nodes.
unfoldable pub is_word : ℕ → Base → ℕ → Bool
is_word nodes unit_t w = eqb w 0
is_word nodes bool_t w = ltb w 2
is_word nodes int_t w = ltb w word_limit
is_word nodes node_t w = ltb w nodes || eqb w null

-- "Unit 0; Bool 0 or 1; Int in two's complement; Node its declared number, or 65,535 for null."
unfoldable pub of_word : Base → ℕ → Value
of_word unit_t w = unit
of_word bool_t w = bool (eqb w 1)
of_word int_t w = int (signed w)
of_word node_t w = node w

unfoldable pub to_word : Value → ℕ
to_word unit = 0
to_word (bool b) = bit b
to_word (int z) = unsigned z
to_word (node n) = n
to_word (function f) = 0
to_word (holding h) = 0

-- The type and the value that an answer brings; an entry carries the type too. "A value is signed decimal, a Unit 0, a Bool 0 or 1, a Node its
-- number or 65535." An accepted question never ends with a function (Safety.antt), whose code 4 is no base type's.
unfoldable pub type_code : Value → ℕ
type_code unit = 0
type_code (bool b) = 1
type_code (int z) = 2
type_code (node n) = 3
type_code (function f) = 4
type_code (holding h) = 4

unfoldable pub decimal : Value → ℤ
decimal unit = pos 0
decimal (bool b) = pos (bit b)
decimal (int z) = z
decimal (node n) = pos n
decimal (function f) = pos 0
decimal (holding h) = pos 0

-- whether two values are one base value
unfoldable pub same_value : Value → Value → Bool
same_value v w = ltb (type_code v) 4 && eqb (type_code v) (type_code w) && equal_z (decimal v) (decimal w)
