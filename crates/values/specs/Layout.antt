-- Where the attributes and the nodes of an accepted sheet stand in its bytes: their commands come first, of fixed widths, so that a
-- number gives an offset.
use Rattle.std.specs.Prelude.{List, [], ◌∷◌, ℕ, zero, suc, ◌+◌, ◌*◌, drop, get_or}
use Rattle.saiga.specs.Values.{base_of}
use Rattle.saiga.specs.Types.{Attribute}

-- "0x41 attribute: result type (1 byte), parameter type (1)": the types' codes of attribute a.
abbrev pub result_at : List ℕ → ℕ → ℕ
result_at l a = get_or l (3 * a + 1) 0

abbrev pub parameter_at : List ℕ → ℕ → ℕ
parameter_at l a = get_or l (3 * a + 2) 0

-- "0x4E node: kind 0 to 15 (1)": the kind of node n, where so many attributes are declared before the nodes.
abbrev pub kind_at : List ℕ → ℕ → ℕ → ℕ
kind_at l attributes n = get_or l (3 * attributes + 2 * n + 1) 0

-- The first n attributes, from the operands of their commands, three bytes each.
unfoldable pub attributes_in : List ℕ → ℕ → List Attribute
attributes_in l zero = []
attributes_in l (suc n) = record { result = base_of (result_at l 0); parameter-type = base_of (parameter_at l 0) } ∷ attributes_in (drop 3 l) n

-- The kinds of the first n nodes, from the operands of their commands, two bytes each.
unfoldable pub kinds_in : List ℕ → ℕ → List ℕ
kinds_in l zero = []
kinds_in l (suc n) = kind_at l 0 0 ∷ kinds_in (drop 2 l) n
