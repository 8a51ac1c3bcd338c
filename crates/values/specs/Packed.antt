-- Values in words of 64 bits.
use Rattle.std.specs.Prelude.{cond, ℕ, ◌-◌, ◌/◌, ◌%◌, eqb}
use Rattle.saiga.specs.Values.{function_of, word_limit, signed}
use Rattle.saiga.specs.declared.Value.{Value}
use Rattle.saiga.specs.declared.Value.TheVariants.{Unit as unit, Bool as bool, Int as int, Node as node, Function as function, Holding as holding}
use Rattle.saiga.specs.declared.Holding.{Holding}
use Rattle.saiga.specs.declared.Holding.TheVariants.{Le as le_of, EqualInt as equal_int_of, EqualNode as equal_node_of, Add as add_to, Subtract as subtract_from}

-- the function with its first argument, by a tag and the argument's four-byte form
unfoldable pub holding_of : ℕ → ℕ → Holding
holding_of t w =
    cond (eqb t 0) (le_of (signed w))
    (cond (eqb t 1) (equal_int_of (signed w))
    (cond (eqb t 2) (equal_node_of (w % 65536))
    (cond (eqb t 3) (add_to (signed w)) (subtract_from (signed w)))))

-- the value, by a tag and a four-byte form
unfoldable pub value_of : ℕ → ℕ → Value
value_of t w =
    cond (eqb t 0) unit
    (cond (eqb t 1) (bool (eqb w 1))
    (cond (eqb t 2) (int (signed w))
    (cond (eqb t 3) (node (w % 65536))
    (cond (eqb t 4) (function (function_of w)) (holding (holding_of (t - 5) w))))))

-- The value that a word holds: a tag, `word_limit` times, and a four-byte form.
unfoldable pub value_in : ℕ → Value
value_in p = value_of (p / word_limit) (p % word_limit)

-- a packed value is below 16 tags
abbrev pub packed_limit : ℕ
packed_limit = 68719476736
