-- What stands in the memory of a run: a frame in a word of 64 bits, which is its kind and eight times what it holds; and an open form in four numbers.
use Rattle.std.specs.Prelude.{ℕ, ◌+◌, ◌*◌, ◌/◌, ◌%◌}
use Rattle.saiga.specs.Limits.{attribute_limit}
use Rattle.values.specs.Packed.{packed_limit}
use Rattle.engine.specs.declared.frames.Kind.{Kind}
use Rattle.engine.specs.declared.frames.Kind.TheVariants.{If, Left, Skip, Right, Node, Parameter, Form, Forward}

-- ---- Kinds

abbrev pub kind_of : ℕ → ℕ
kind_of w = w % 8

-- IF that waits for its condition; an application for its function; IF whose second branch is taken, before its third is passed over; an
-- application for its argument; an attribute for its node, and for its parameter; a form for its value; a forward for its node
abbrev pub if_kind : ℕ
if_kind = 0

abbrev pub left_kind : ℕ
left_kind = 1

abbrev pub skip_kind : ℕ
skip_kind = 2

abbrev pub right_kind : ℕ
right_kind = 3

abbrev pub node_kind : ℕ
node_kind = 4

abbrev pub parameter_kind : ℕ
parameter_kind = 5

abbrev pub form_kind : ℕ
form_kind = 6

abbrev pub forward_kind : ℕ
forward_kind = 7

-- the kind in words of the code
abbrev pub kind_number : Kind → ℕ
kind_number If = if_kind
kind_number Left = left_kind
kind_number Skip = skip_kind
kind_number Right = right_kind
kind_number Node = node_kind
kind_number Parameter = parameter_kind
kind_number Form = form_kind
kind_number Forward = forward_kind

-- ---- What a word holds

-- an application's function, as a packed value
abbrev pub right_word : ℕ → ℕ
right_word packed = right_kind + 8 * packed

abbrev pub held_function : ℕ → ℕ
held_function w = w / 8 % packed_limit

-- an attribute's number, of an attribute that waits for its node and of a forward
abbrev pub node_word : ℕ → ℕ
node_word a = node_kind + 8 * a

abbrev pub forward_word : ℕ → ℕ
forward_word a = forward_kind + 8 * a

abbrev pub held_attribute : ℕ → ℕ
held_attribute w = w / 8 % attribute_limit

-- an attribute's number, and its node as a packed value
abbrev pub parameter_word : ℕ → ℕ → ℕ
parameter_word a packed = parameter_kind + 8 * (a + attribute_limit * packed)

abbrev pub held_node : ℕ → ℕ
held_node w = w / (8 * attribute_limit) % packed_limit

-- ---- An open form

-- The first of its numbers is its node and its attribute in one; then come its parameter's four-byte form, and where the piece around it goes on and ends.
abbrev pub pair_of : ℕ → ℕ → ℕ
pair_of n a = n * attribute_limit + a

abbrev pub pair_node : ℕ → ℕ
pair_node pair = pair / attribute_limit

abbrev pub pair_attribute : ℕ → ℕ
pair_attribute pair = pair % attribute_limit
