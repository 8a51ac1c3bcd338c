-- Where stop 20 is due, and where it is not (F-9 of document 02). Each answer is worked out from the document.
use Rattle.std.specs.Prelude.{List, [], ◌∷◌, ◌++◌, ◌≡◌, ℕ, pos}
use Rattle.saiga.specs.Values.{int}
use Rattle.saiga.specs.Sheet.{context}
use Rattle.saiga.specs.Plain.{RunsForEver, EndsWithValue}
use Rattle.saiga.specs.PlainCircles.{CircleIn}
use Rattle.saiga.specs.Ask.{asking, asked}
use Rattle.saiga.specs.TableL.{sheet_l12, itself, Row, row, bring, brought, Plainly}
use Rattle.saiga.specs.Rows.{unit_literal, whole, true_literal, false_literal, node_literal, one, two, if_then_else, attribute_of, this-node, the_parameter, rule-for, asks, an_int, stop}
use Rattle.saiga.specs.Misreadings.{sheet_p, next, sixteen, falling}
use Rattle.saiga.specs.TableStores.{Case, case, entry, a_node, expected, outcomes}

-- ---- Sheets

-- Attributes that are each due again inside themselves, of one node, all with Unit parameter but fed: any (0, Bool) is
-- IF any THEN true ELSE false; more (1, Int) is add(more)(1); above (2, Node) is above of above; fed (3, Int with Int parameter) is
-- fed(fed(the parameter)); and rest (4, Int) is add(1)(rest).
abbrev pub sheet_self : List ℕ
sheet_self =
    0x41 ∷ 1 ∷ 0 ∷
    0x41 ∷ 2 ∷ 0 ∷
    0x41 ∷ 3 ∷ 0 ∷
    0x41 ∷ 2 ∷ 2 ∷
    0x41 ∷ 2 ∷ 0 ∷
    0x4E ∷ 0 ∷
    rule-for 0 0 (if_then_else (attribute_of 0 this-node unit_literal) true_literal false_literal)
    ++ rule-for 0 1 (two 4 (attribute_of 1 this-node unit_literal) (whole 1))
    ++ rule-for 0 2 (attribute_of 2 (attribute_of 2 this-node unit_literal) unit_literal)
    ++ rule-for 0 3 (attribute_of 3 this-node (attribute_of 3 this-node the_parameter))
    ++ rule-for 0 4 (two 4 (whole 1) (attribute_of 4 this-node unit_literal))
    ++ 0x5A ∷ []

-- such an attribute of the node, with a parameter
abbrev pub self : ℕ → List ℕ → List ℕ
self a x = attribute_of a (node_literal 0) x

-- Attributes 0 to 2, Int, and other (3, Node), all with Unit parameter; nodes 0 and 1, each the other's other by its figure. Attribute 0 is 1 of this
-- node, 1 is 2 of the other, 2 is 0 of this node: a circle over three attributes and two nodes, with a figure in the node part.
abbrev pub sheet_ring : List ℕ
sheet_ring =
    0x41 ∷ 2 ∷ 0 ∷
    0x41 ∷ 2 ∷ 0 ∷
    0x41 ∷ 2 ∷ 0 ∷
    0x41 ∷ 3 ∷ 0 ∷
    0x4E ∷ 0 ∷
    0x4E ∷ 0 ∷
    0x56 ∷ 0 ∷ 0 ∷ 3 ∷ 1 ∷ 0 ∷ 0 ∷ 0 ∷
    0x56 ∷ 1 ∷ 0 ∷ 3 ∷ 0 ∷ 0 ∷ 0 ∷ 0 ∷
    rule-for 0 0 (attribute_of 1 this-node unit_literal)
    ++ rule-for 0 1 (attribute_of 2 (attribute_of 3 this-node unit_literal) unit_literal)
    ++ rule-for 0 2 (attribute_of 0 this-node unit_literal)
    ++ 0x5A ∷ []

abbrev pub ring : ℕ → ℕ → List ℕ
ring a n = attribute_of a (node_literal n) unit_literal

-- One node. Flip (16, Int with Bool parameter) is flip(not(the parameter)). At the end of the fall of attributes 0 to 15 stands attribute 0 of this node
-- with 4.
abbrev pub sheet_round : List ℕ
sheet_round =
    sixteen ++
    0x41 ∷ 2 ∷ 1 ∷
    0x4E ∷ 0 ∷
    rule-for 0 16 (attribute_of 16 this-node (one 3 the_parameter)) ++ falling (attribute_of 0 this-node (whole 4)) ++ 0x5A ∷ []

abbrev pub flip : List ℕ
flip = attribute_of 16 (node_literal 0) true_literal

abbrev pub round : ℕ → List ℕ
round k = attribute_of 0 (node_literal 0) (whole k)

-- One node. Sure (0, Bool) is its figure, true. Guarded (1, Int) is IF sure THEN 5 ELSE guarded.
abbrev pub sheet_guarded : List ℕ
sheet_guarded =
    0x41 ∷ 1 ∷ 0 ∷
    0x41 ∷ 2 ∷ 0 ∷
    0x4E ∷ 0 ∷
    0x56 ∷ 0 ∷ 0 ∷ 0 ∷ 1 ∷ 0 ∷ 0 ∷ 0 ∷
    rule-for 0 1 (if_then_else (attribute_of 0 this-node unit_literal) (whole 5) (attribute_of 1 this-node unit_literal))
    ++ 0x5A ∷ []

abbrev pub guarded : List ℕ
guarded = attribute_of 1 (node_literal 0) unit_literal

-- ---- Rows

abbrev pub circles : List Row
circles =
    -- In every part: a condition, an application's left part, a node part, a parameter part, and an application's argument, where add(1) comes first.
    asks sheet_self 4 (self 0 unit_literal) 1000000 (stop 20 1 0) ∷
    asks sheet_self 4 (self 1 unit_literal) 1000000 (stop 20 1 0) ∷
    asks sheet_self 4 (self 2 unit_literal) 1000000 (stop 20 1 0) ∷
    asks sheet_self 4 (self 3 (whole 5)) 1000000 (stop 20 1 0) ∷
    asks sheet_self 4 (self 4 unit_literal) 1000000 (stop 20 2 0) ∷
    -- "before 15": with the whole budget used, and 15 a step before.
    row sheet_self 4 (asking (self 4 unit_literal) 2 ∷ asking (self 4 unit_literal) 1 ∷ asking (self 4 unit_literal) 0 ∷ [])
    (stop 20 2 0 ∷ stop 15 1 0 ∷ stop 15 0 0 ∷ []) ∷
    -- Over attributes and nodes: six forms and the two figures come first, and "leaves store and tally as 14 does": what was finished before is kept,
    -- the two figures, and what was open is not. A later question of the list takes them from the store.
    row sheet_ring 4 (asking (ring 0 0) 1000000 ∷ asking (ring 0 0) 8 ∷ asking (ring 0 0) 7 ∷ asking (ring 1 1) 1000000 ∷ asking (ring 3 1) 1 ∷ [])
    (stop 20 8 2 ∷ stop 20 8 2 ∷ stop 15 7 2 ∷ stop 20 8 2 ∷ a_node 0 1 2 ∷ []) ∷
    asks sheet_ring 0 (ring 2 0) 1000000 (stop 20 8 0) ∷
    -- Through a parameter that comes back: flip(true), flip(false), and flip(true) again.
    asks sheet_round 4 flip 1000000 (stop 20 4 0) ∷
    -- "before 16": round(4) is due again inside its 64 forms, after 82 steps, the whole budget.
    row sheet_round 0 (asking (round 4) 82 ∷ asking (round 4) 1000000 ∷ asking (round 4) 81 ∷ []) (stop 20 82 0 ∷ stop 20 82 0 ∷ stop 15 81 0 ∷ []) ∷
    -- Another parameter is another occurrence: round(1) is due inside the 64 forms from round(5) on, after 4 × 21 steps.
    asks sheet_round 0 (round 5) 1000000 (stop 16 84 0) ∷
    -- A form that is closed is not open, be its figure kept or not.
    asks sheet_p 0 (two 4 (next (whole 3)) (next (whole 3))) 1000000 (an_int (pos 8) 8 0) ∷
    asks sheet_p 4 (two 4 (next (whole 3)) (next (whole 3))) 1000000 (an_int (pos 8) 6 1) ∷
    asks sheet_guarded 4 guarded 1000000 (an_int (pos 5) 3 2) ∷
    []

-- From a store whose values are wrong, 20 may come where plain Saiga ends: where it keeps that sure is false, guarded is due inside itself.
abbrev pub wrong_stores : List Case
wrong_stores =
    case sheet_guarded (entry 0 0 1 0 0 ++ entry 0 0 0 0 0) 1 (asking guarded 1000000) (stop 20 3 1) (entry 0 0 1 0 0 ++ entry 0 0 0 0 0) ∷
    case sheet_guarded (entry 0 0 1 0 1) 1 (asking guarded 1000000) (an_int (pos 5) 3 1) (entry 0 0 1 0 1) ∷
    -- A kept occurrence is no circle, though it is defined as itself.
    case sheet_l12 (entry 0 0 2 0 9) 1 (asking itself 1000000) (an_int (pos 9) 1 1) (entry 0 0 2 0 9) ∷
    []

-- ---- Plain Saiga

unfoldable pub PlainRounds : Type 0
PlainRounds =
    Plainly sheet_l12 itself (λ s e. CircleIn (context s) (asked e) × RunsForEver (context s) (asked e))
    × Plainly sheet_ring (ring 0 0) (λ s e. CircleIn (context s) (asked e) × RunsForEver (context s) (asked e))
    × Plainly sheet_guarded guarded (λ s e. EndsWithValue (context s) (asked e) (int (pos 5)) 3)

-- The tables, as one statement.
unfoldable pub TableCircles : Type 0
TableCircles = (bring circles ≡ brought circles) × (outcomes wrong_stores ≡ expected wrong_stores) × PlainRounds
