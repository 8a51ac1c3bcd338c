-- What the tables beside table L are written with: expressions in bytes, and rows of one question.
use Rattle.std.specs.Prelude.{List, [], ◌∷◌, ◌++◌, ℕ, zero, suc, length, ℤ, pos}
use Rattle.saiga.specs.Ask.{asking, Answer}
use Rattle.saiga.specs.TableL.{five, answer, Row, row}

-- ---- Expressions and rules in bytes

abbrev pub times : ℕ → List ℕ → List ℕ
times zero l = []
times (suc n) l = l ++ times n l

abbrev pub unit_literal : List ℕ
unit_literal = 0x10 ∷ []

-- an Int below 256
abbrev pub whole : ℕ → List ℕ
whole n = 0x12 ∷ n ∷ 0 ∷ 0 ∷ 0 ∷ []

-- the lowest and the highest Int, and −1
abbrev pub lowest_int : List ℕ
lowest_int = 0x12 ∷ 0 ∷ 0 ∷ 0 ∷ 0x80 ∷ []

abbrev pub highest_int : List ℕ
highest_int = 0x12 ∷ 0xFF ∷ 0xFF ∷ 0xFF ∷ 0x7F ∷ []

abbrev pub minus_one : List ℕ
minus_one = 0x12 ∷ 0xFF ∷ 0xFF ∷ 0xFF ∷ 0xFF ∷ []

abbrev pub true_literal : List ℕ
true_literal = 0x11 ∷ 1 ∷ []

abbrev pub false_literal : List ℕ
false_literal = 0x11 ∷ 0 ∷ []

abbrev pub null_literal : List ℕ
null_literal = 0x13 ∷ 0xFF ∷ 0xFF ∷ []

-- a node below 256
abbrev pub node_literal : ℕ → List ℕ
node_literal n = 0x13 ∷ n ∷ 0 ∷ []

-- the function of this code on one argument, and on two
abbrev pub one : ℕ → List ℕ → List ℕ
one f x = 0x21 ∷ 0x14 ∷ f ∷ x

abbrev pub two : ℕ → List ℕ → List ℕ → List ℕ
two f x y = 0x21 ∷ 0x21 ∷ 0x14 ∷ f ∷ x ++ y

abbrev pub if_then_else : List ℕ → List ℕ → List ℕ → List ℕ
if_then_else c t e = 0x20 ∷ c ++ t ++ e

-- the attribute `a` of a node with a parameter
abbrev pub attribute_of : ℕ → List ℕ → List ℕ → List ℕ
attribute_of a n x = 0x22 ∷ a ∷ n ++ x

abbrev pub this-node : List ℕ
this-node = 0x30 ∷ []

abbrev pub the_parameter : List ℕ
the_parameter = 0x31 ∷ []

-- the rule for a kind and an attribute, of an expression below 256 bytes
abbrev pub rule-for : ℕ → ℕ → List ℕ → List ℕ
rule-for kind a e = 0x52 ∷ kind ∷ a ∷ length e ∷ 0 ∷ e

-- the forward for a kind, of such an expression
abbrev pub forward-for : ℕ → List ℕ → List ℕ
forward-for kind e = 0x46 ∷ kind ∷ length e ∷ 0 ∷ e

-- ---- Rows

-- one question
abbrev pub asks : List ℕ → ℕ → List ℕ → ℕ → Answer → Row
asks sheet capacity question budget a = row sheet capacity (asking question budget ∷ []) (a ∷ [])

-- a value, and a stop of the run
abbrev pub ends_with : ℕ → ℤ → ℕ → ℕ → Answer
ends_with type value steps kept = answer 0 0 type value steps kept

abbrev pub an_int : ℤ → ℕ → ℕ → Answer
an_int value steps kept = ends_with 2 value steps kept

abbrev pub a_bool : ℕ → ℕ → Answer
a_bool value steps = ends_with 1 (pos value) steps 0

abbrev pub stop : ℕ → ℕ → ℕ → Answer
stop number steps kept = answer number 0 0 (pos 0) steps kept

-- a sheet that is refused at a place, and one that is accepted
abbrev pub refuses : List ℕ → ℕ → ℕ → Row
refuses sheet number place = asks sheet 0 five 0 (answer number place 0 (pos 0) 0 0)

abbrev pub accepts : List ℕ → Row
accepts sheet = asks sheet 0 five 0 (an_int (pos 5) 0 0)
