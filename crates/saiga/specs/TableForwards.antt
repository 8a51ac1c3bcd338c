-- What a forward gives, and the stops of its command (F-7 of document 02). Each answer is worked out from the document.
use Rattle.std.specs.Prelude.{List, [], ◌∷◌, ◌++◌, ◌≡◌, ℕ, length, take, replicate, pos}
use Rattle.saiga.specs.Values.{Value, int, node, null}
use Rattle.saiga.specs.Sheet.{context}
use Rattle.saiga.specs.Plain.{on_null, EndsWithValue, EndsWithout, RunsForEver}
use Rattle.saiga.specs.Caching.{Entry}
use Rattle.saiga.specs.Store.{entries_bytes}
use Rattle.saiga.specs.Ask.{asking, asked}
use Rattle.saiga.specs.Calls.{empty, after_calls}
use Rattle.saiga.specs.TableL.{Row, row, bring, brought, keeps, kept_l1, Plainly}
use Rattle.saiga.specs.Rows.{times, unit_literal, whole, true_literal, null_literal, node_literal, two, if_then_else, attribute_of, this-node, the_parameter, rule-for, forward-for, asks, an_int, stop, refuses, accepts}
use Rattle.saiga.specs.Misreadings.{one_more, sixteen, falling}
use Rattle.saiga.specs.TableStores.{Case, case, entry, a_node, expected, outcomes}
use Rattle.saiga.specs.TableTally.{tallies, first_three}

-- ---- Sheet LF, the worked example

-- Sheet L with a fourth node, 3, of kind 2. Its up is node 1, a figure; kind 2 has no rule, and its forward is this node's up. 121 bytes.
abbrev pub sheet_lf : List ℕ
sheet_lf =
    0x41 ∷ 0x03 ∷ 0x00 ∷
    0x41 ∷ 0x02 ∷ 0x00 ∷
    0x41 ∷ 0x02 ∷ 0x00 ∷
    0x4E ∷ 0x00 ∷
    0x4E ∷ 0x01 ∷
    0x4E ∷ 0x01 ∷
    0x4E ∷ 0x02 ∷
    0x56 ∷ 0x00 ∷ 0x00 ∷ 0x00 ∷ 0xFF ∷ 0xFF ∷ 0x00 ∷ 0x00 ∷
    0x56 ∷ 0x00 ∷ 0x00 ∷ 0x01 ∷ 0xBC ∷ 0x02 ∷ 0x00 ∷ 0x00 ∷
    0x56 ∷ 0x01 ∷ 0x00 ∷ 0x00 ∷ 0x00 ∷ 0x00 ∷ 0x00 ∷ 0x00 ∷
    0x56 ∷ 0x01 ∷ 0x00 ∷ 0x01 ∷ 0x00 ∷ 0x00 ∷ 0x00 ∷ 0x00 ∷
    0x56 ∷ 0x02 ∷ 0x00 ∷ 0x00 ∷ 0x00 ∷ 0x00 ∷ 0x00 ∷ 0x00 ∷
    0x56 ∷ 0x02 ∷ 0x00 ∷ 0x01 ∷ 0x2B ∷ 0x03 ∷ 0x00 ∷ 0x00 ∷
    0x56 ∷ 0x03 ∷ 0x00 ∷ 0x00 ∷ 0x01 ∷ 0x00 ∷ 0x00 ∷ 0x00 ∷
    0x52 ∷ 0x00 ∷ 0x02 ∷ 0x04 ∷ 0x00 ∷ 0x22 ∷ 0x01 ∷ 0x30 ∷ 0x10 ∷
    0x52 ∷ 0x01 ∷ 0x02 ∷ 0x19 ∷ 0x00 ∷ 0x20 ∷ 0x21 ∷ 0x21 ∷ 0x14 ∷ 0x01 ∷ 0x22 ∷ 0x01 ∷ 0x30 ∷ 0x10 ∷ 0x12 ∷ 0x00 ∷ 0x00 ∷ 0x00 ∷ 0x00 ∷ 0x22 ∷ 0x02 ∷ 0x22 ∷ 0x00 ∷ 0x30 ∷ 0x10 ∷ 0x10 ∷ 0x22 ∷ 0x01 ∷ 0x30 ∷ 0x10 ∷
    0x46 ∷ 0x02 ∷ 0x04 ∷ 0x00 ∷ 0x22 ∷ 0x00 ∷ 0x30 ∷ 0x10 ∷
    0x5A ∷ []

-- a node's up, own and dial
abbrev pub up : ℕ → List ℕ
up n = attribute_of 0 (node_literal n) unit_literal

abbrev pub own : ℕ → List ℕ
own n = attribute_of 1 (node_literal n) unit_literal

abbrev pub dial : ℕ → List ℕ
dial n = attribute_of 2 (node_literal n) unit_literal

abbrev pub rows_LF : List Row
rows_LF =
    -- Every question of one attribute, from an empty store.
    asks sheet_lf 1024 (up 0) 1000000 (a_node 65535 1 1) ∷
    asks sheet_lf 1024 (up 1) 1000000 (a_node 0 1 1) ∷
    asks sheet_lf 1024 (up 2) 1000000 (a_node 0 1 1) ∷
    asks sheet_lf 1024 (up 3) 1000000 (a_node 1 1 1) ∷
    asks sheet_lf 1024 (own 0) 1000000 (an_int (pos 700) 1 1) ∷
    asks sheet_lf 1024 (own 1) 1000000 (an_int (pos 0) 1 1) ∷
    asks sheet_lf 1024 (own 2) 1000000 (an_int (pos 811) 1 1) ∷
    -- AttrApp for own of 3, up of 3 and own of 1
    asks sheet_lf 1024 (own 3) 1000000 (an_int (pos 0) 3 3) ∷
    asks sheet_lf 1024 (dial 0) 1000000 (an_int (pos 700) 2 2) ∷
    asks sheet_lf 1024 (dial 1) 1000000 (an_int (pos 700) 8 5) ∷
    asks sheet_lf 1024 (dial 2) 1000000 (an_int (pos 811) 6 2) ∷
    -- AttrApp for dial of 3 and up of 3, then the 8 steps of dial of 1. Again it is kept. Own of 3 takes its AttrApp, and finds up of 3 and own of 1 kept.
    row sheet_lf 1024 (asking (dial 3) 1000000 ∷ asking (dial 3) 1000000 ∷ asking (own 3) 1000000 ∷ [])
    (an_int (pos 700) 10 7 ∷ an_int (pos 700) 1 7 ∷ an_int (pos 0) 3 8 ∷ []) ∷
    -- Where dial of 1 is kept, it is found there.
    row sheet_lf 1024 (asking (dial 1) 1000000 ∷ asking (dial 3) 1000000 ∷ []) (an_int (pos 700) 8 5 ∷ an_int (pos 700) 3 7 ∷ []) ∷
    -- With nothing kept, and with room for one.
    row sheet_lf 0 (asking (dial 3) 1000000 ∷ asking (dial 3) 1000000 ∷ []) (an_int (pos 700) 10 0 ∷ an_int (pos 700) 10 0 ∷ []) ∷
    row sheet_lf 1 (asking (dial 3) 1000000 ∷ asking (dial 3) 1000000 ∷ []) (an_int (pos 700) 10 1 ∷ an_int (pos 700) 10 1 ∷ []) ∷
    -- 15 before each of its 10 steps. With 2 it is due at AttrApp on dial of 1, which does not count then.
    asks sheet_lf 8 (dial 3) 0 (stop 15 0 0) ∷
    asks sheet_lf 8 (dial 3) 1 (stop 15 1 0) ∷
    asks sheet_lf 8 (dial 3) 2 (stop 15 2 1) ∷
    asks sheet_lf 8 (dial 3) 3 (stop 15 3 1) ∷
    asks sheet_lf 8 (dial 3) 4 (stop 15 4 2) ∷
    asks sheet_lf 8 (dial 3) 5 (stop 15 5 2) ∷
    asks sheet_lf 8 (dial 3) 6 (stop 15 6 2) ∷
    asks sheet_lf 8 (dial 3) 7 (stop 15 7 2) ∷
    asks sheet_lf 8 (dial 3) 8 (stop 15 8 3) ∷
    asks sheet_lf 8 (dial 3) 9 (stop 15 9 3) ∷
    asks sheet_lf 8 (dial 3) 10 (an_int (pos 700) 10 7) ∷
    []

-- Dial of 3 keeps 3.up, then what dial of 1 keeps in L1, and 3.dial behind 1.dial.
abbrev pub kept_lf : List Entry
kept_lf = keeps 3 0 (node 1) ∷ kept_l1 ++ keeps 3 2 (int (pos 700)) ∷ []

-- The bytes, and the tallies of dial of 3 and of dial of 3 again: up of 3 and 1, own of 1 and 0, dial of 3, 1 and 0, equal's two AppApp and CondTrue.
unfoldable pub LeftLF : Type 0
LeftLF =
    (length sheet_lf ≡ 121)
    × (take 84 (after_calls sheet_lf (empty 1024) (asking (dial 3) 1000000 ∷ [])).store ≡ entries_bytes kept_lf)
    × (tallies sheet_lf (empty 1024) (asking (dial 3) 1000000 ∷ asking (dial 3) 1000000 ∷ []) ≡ first_three 2 2 3 2 1 ∷ first_three 0 0 1 0 0 ∷ [])

-- Plain Saiga's counts.
abbrev pub PlainlyLF : List ℕ → Value → ℕ → Type 0
PlainlyLF question v n = Plainly sheet_lf question λ s e. EndsWithValue (context s) (asked e) v n

unfoldable pub PlainLF : Type 0
PlainLF =
    PlainlyLF (up 0) (node null) 1
    × PlainlyLF (up 1) (node 0) 1
    × PlainlyLF (up 2) (node 0) 1
    × PlainlyLF (up 3) (node 1) 1
    × PlainlyLF (own 0) (int (pos 700)) 1
    × PlainlyLF (own 1) (int (pos 0)) 1
    × PlainlyLF (own 2) (int (pos 811)) 1
    × PlainlyLF (own 3) (int (pos 0)) 3
    × PlainlyLF (dial 0) (int (pos 700)) 2
    × PlainlyLF (dial 1) (int (pos 700)) 8
    × PlainlyLF (dial 2) (int (pos 811)) 6
    × PlainlyLF (dial 3) (int (pos 700)) 10

-- ---- Other sheets

-- Level (0, Int with Int parameter). Nodes 0 and 1 of kind 0, 2 and 3 of kind 1, 4 of kind 2, 5 of kind 3. Figures: level of 0 is 9, of 2 is 7. Rules: level
-- for kind 0 is 8, for kind 2 add(the parameter)(1). Forwards: of kind 3 to node 1, of kinds 0 and 1 to node 4.
abbrev pub sheet_order : List ℕ
sheet_order =
    0x41 ∷ 2 ∷ 2 ∷
    0x4E ∷ 0 ∷
    0x4E ∷ 0 ∷
    0x4E ∷ 1 ∷
    0x4E ∷ 1 ∷
    0x4E ∷ 2 ∷
    0x4E ∷ 3 ∷
    0x56 ∷ 0 ∷ 0 ∷ 0 ∷ 9 ∷ 0 ∷ 0 ∷ 0 ∷
    0x56 ∷ 2 ∷ 0 ∷ 0 ∷ 7 ∷ 0 ∷ 0 ∷ 0 ∷
    forward-for 3 (node_literal 1)
    ++ rule-for 0 0 (whole 8)
    ++ forward-for 0 (node_literal 4)
    ++ forward-for 1 (node_literal 4)
    ++ rule-for 2 0 one_more
    ++ 0x5A ∷ []

-- A chain: level (0, Int with Int parameter) is add(the parameter)(1) for kind 0; kinds 1, 2 and 3 forward to nodes 0, 1 and 2, and nodes 0 to 3 are of
-- these four kinds.
abbrev pub sheet_chain : List ℕ
sheet_chain =
    0x41 ∷ 2 ∷ 2 ∷
    0x4E ∷ 0 ∷
    0x4E ∷ 1 ∷
    0x4E ∷ 2 ∷
    0x4E ∷ 3 ∷
    rule-for 0 0 one_more
    ++ forward-for 1 (node_literal 0)
    ++ forward-for 2 (node_literal 1)
    ++ forward-for 3 (node_literal 2)
    ++ 0x5A ∷ []

abbrev pub level : ℕ → List ℕ → List ℕ
level n x = attribute_of 0 (node_literal n) x

-- Attributes amount (0, Int), near (1, Bool) and above (2, Node), all with Unit parameter. Nodes 0 and 1 of kind 0, whose amounts are 10 and 20, by figures;
-- its other attributes have rules. Nodes 2, 3 and 4 of kind 1, whose forward is IF near THEN above ELSE node 0: 2 is near and below 1, 3 is not near and below
-- 1, 4 is near and below nothing. Node 5 of kind 2, whose forward is null.
abbrev pub sheet_choice : List ℕ
sheet_choice =
    0x41 ∷ 2 ∷ 0 ∷
    0x41 ∷ 1 ∷ 0 ∷
    0x41 ∷ 3 ∷ 0 ∷
    0x4E ∷ 0 ∷
    0x4E ∷ 0 ∷
    0x4E ∷ 1 ∷
    0x4E ∷ 1 ∷
    0x4E ∷ 1 ∷
    0x4E ∷ 2 ∷
    0x56 ∷ 0 ∷ 0 ∷ 0 ∷ 10 ∷ 0 ∷ 0 ∷ 0 ∷
    0x56 ∷ 1 ∷ 0 ∷ 0 ∷ 20 ∷ 0 ∷ 0 ∷ 0 ∷
    0x56 ∷ 2 ∷ 0 ∷ 1 ∷ 1 ∷ 0 ∷ 0 ∷ 0 ∷
    0x56 ∷ 2 ∷ 0 ∷ 2 ∷ 1 ∷ 0 ∷ 0 ∷ 0 ∷
    0x56 ∷ 3 ∷ 0 ∷ 1 ∷ 0 ∷ 0 ∷ 0 ∷ 0 ∷
    0x56 ∷ 3 ∷ 0 ∷ 2 ∷ 1 ∷ 0 ∷ 0 ∷ 0 ∷
    0x56 ∷ 4 ∷ 0 ∷ 1 ∷ 1 ∷ 0 ∷ 0 ∷ 0 ∷
    0x56 ∷ 4 ∷ 0 ∷ 2 ∷ 0xFF ∷ 0xFF ∷ 0 ∷ 0 ∷
    rule-for 0 1 true_literal
    ++ forward-for 1 (if_then_else (attribute_of 1 this-node unit_literal) (attribute_of 2 this-node unit_literal) (node_literal 0))
    ++ rule-for 0 2 this-node
    ++ forward-for 2 null_literal
    ++ 0x5A ∷ []

abbrev pub amount : ℕ → List ℕ
amount n = attribute_of 0 (node_literal n) unit_literal

-- Round and round: one attribute (Int, Unit parameter) and a node that forwards to itself; the same and two nodes whose kinds forward to each other; and one
-- attribute, up, of type Node, and a node whose forward is its own up.
abbrev pub sheet_itself : List ℕ
sheet_itself = 0x41 ∷ 2 ∷ 0 ∷ 0x4E ∷ 0 ∷ forward-for 0 this-node ++ 0x5A ∷ []

abbrev pub sheet_turns : List ℕ
sheet_turns = 0x41 ∷ 2 ∷ 0 ∷ 0x4E ∷ 0 ∷ 0x4E ∷ 1 ∷ forward-for 0 (node_literal 1) ++ forward-for 1 (node_literal 0) ++ 0x5A ∷ []

abbrev pub sheet_up : List ℕ
sheet_up = 0x41 ∷ 3 ∷ 0 ∷ 0x4E ∷ 0 ∷ forward-for 0 (attribute_of 0 this-node unit_literal) ++ 0x5A ∷ []

-- The fall of attributes 0 to 15 (Misreadings.antt) for kind 0, and last (16, Int), for kind 0 the Int 9. Node 0 is of kind 0, node 1 of kind 1, which forwards to
-- node 0. At the end of the fall stands last of node 1.
abbrev pub sheet_hops : List ℕ
sheet_hops =
    sixteen ++
    0x41 ∷ 2 ∷ 0 ∷
    0x4E ∷ 0 ∷
    0x4E ∷ 1 ∷
    forward-for 1 (node_literal 0)
    ++ rule-for 0 16 (whole 9)
    ++ falling (attribute_of 16 (node_literal 1) unit_literal)
    ++ 0x5A ∷ []

-- attribute `a` of the fall with 4, at a node
abbrev pub falls : ℕ → ℕ → List ℕ
falls a n = attribute_of a (node_literal n) (whole 4)

-- ---- Rows

abbrev pub forwards : List Row
forwards =
    -- Figure, rule and forward: the figure. Rule and forward: the rule. Figure and forward: the figure. Each takes one step.
    asks sheet_order 4 (level 0 (whole 5)) 1000000 (an_int (pos 9) 1 1) ∷
    asks sheet_order 4 (level 1 (whole 5)) 1000000 (an_int (pos 8) 1 1) ∷
    asks sheet_order 4 (level 2 (whole 5)) 1000000 (an_int (pos 7) 1 1) ∷
    -- A forward alone, to node 4, "with parameter v": 5 + 1, and 6 + 1, another occurrence. That of kind 3 is to node 1.
    row sheet_order 4 (asking (level 3 (whole 5)) 1000000 ∷ asking (level 3 (whole 6)) 1000000 ∷ asking (level 4 (whole 5)) 1000000 ∷ [])
    (an_int (pos 6) 4 2 ∷ an_int (pos 7) 4 4 ∷ an_int (pos 6) 1 4 ∷ []) ∷
    asks sheet_order 4 (level 5 (whole 5)) 1000000 (an_int (pos 8) 2 2) ∷
    -- The parameter is worked out once, before the first AttrApp: add(2)(3).
    asks sheet_order 4 (level 3 (two 4 (whole 2) (whole 3))) 1000000 (an_int (pos 6) 6 2) ∷
    asks sheet_order 4 (level 3 (two 4 (whole 2) (whole 3))) 1 (stop 15 1 0) ∷
    -- Three hops, and the rule's two AppApp; then each hop's occurrence is kept.
    row sheet_chain 4 (asking (level 3 (whole 5)) 1000000 ∷ asking (level 2 (whole 5)) 1000000 ∷ asking (level 1 (whole 5)) 1000000 ∷ [])
    (an_int (pos 6) 6 4 ∷ an_int (pos 6) 1 4 ∷ an_int (pos 6) 1 4 ∷ []) ∷
    -- With room for two, those of nodes 0 and 1 are kept.
    row sheet_chain 2 (asking (level 3 (whole 5)) 1000000 ∷ asking (level 3 (whole 5)) 1000000 ∷ []) (an_int (pos 6) 6 2 ∷ an_int (pos 6) 3 2 ∷ []) ∷
    -- The steps of f count: AttrApp for amount, near, CondTrue, above, and amount of 1. Above of 3 is not taken.
    asks sheet_choice 8 (amount 2) 1000000 (an_int (pos 20) 5 4) ∷
    asks sheet_choice 8 (amount 3) 1000000 (an_int (pos 10) 4 3) ∷
    -- f null is 14 at the second AttrApp, before 15 too: the first has counted, what f needed is kept, and amount is not.
    asks sheet_choice 8 (amount 4) 1000000 (stop 14 4 2) ∷
    asks sheet_choice 8 (amount 4) 4 (stop 14 4 2) ∷
    asks sheet_choice 8 (amount 4) 3 (stop 15 3 1) ∷
    asks sheet_choice 8 (amount 5) 1 (stop 14 1 0) ∷
    asks sheet_choice 8 (amount 5) 0 (stop 15 0 0) ∷
    -- "A forward that leads back is a circle like any other": to this node, over two nodes, and where f needs what it is to give.
    asks sheet_itself 4 (amount 0) 1000000 (stop 20 1 0) ∷
    asks sheet_itself 4 (amount 0) 1 (stop 20 1 0) ∷
    asks sheet_itself 4 (amount 0) 0 (stop 15 0 0) ∷
    asks sheet_turns 4 (amount 0) 1000000 (stop 20 2 0) ∷
    asks sheet_turns 4 (amount 1) 2 (stop 20 2 0) ∷
    asks sheet_turns 4 (amount 1) 1 (stop 15 1 0) ∷
    asks sheet_up 4 (up 0) 1000000 (stop 20 1 0) ∷
    []

-- "Each hop takes one of the 64". Attribute 2 of the fall comes to its end inside 62 forms, after 80 steps; there last of node 1 and last of node 0 take a form
-- each. Asked of node 1, which hands it on, it comes there inside one form more.
abbrev pub deep_forwards : List Row
deep_forwards =
    asks sheet_hops 0 (falls 2 0) 1000000 (an_int (pos 9) 82 0) ∷
    asks sheet_hops 0 (falls 2 1) 1000000 (stop 16 82 0) ∷
    []

-- The inner occurrence is kept before the outer, each with the parameter; under 14 and 20 none of them.
abbrev pub stores_left : List Case
stores_left =
    case sheet_chain (replicate 60 7) 0 (asking (level 3 (whole 5)) 1000000) (an_int (pos 6) 6 4)
    (entry 0 0 2 5 6 ++ entry 1 0 2 5 6 ++ entry 2 0 2 5 6 ++ entry 3 0 2 5 6 ++ replicate 12 7) ∷
    case sheet_choice (replicate 36 7) 0 (asking (amount 3) 1000000) (an_int (pos 10) 4 3) (entry 3 1 1 0 0 ++ entry 0 0 2 0 10 ++ entry 3 0 2 0 10) ∷
    case sheet_choice (replicate 36 7) 0 (asking (amount 4) 1000000) (stop 14 4 2)
    (entry 4 1 1 0 1 ++ (4 ∷ 0 ∷ 2 ∷ 3 ∷ 0 ∷ 0 ∷ 0 ∷ 0 ∷ 0xFF ∷ 0xFF ∷ 0 ∷ 0 ∷ []) ++ replicate 12 7) ∷
    case sheet_turns (replicate 24 7) 0 (asking (amount 0) 1000000) (stop 20 2 0) (replicate 24 7) ∷
    -- A kept value is taken, of the inner occurrence and of the outer.
    case sheet_chain (entry 2 0 2 5 100) 1 (asking (level 3 (whole 5)) 1000000) (an_int (pos 100) 2 1) (entry 2 0 2 5 100) ∷
    case sheet_chain (entry 3 0 2 5 100) 1 (asking (level 3 (whole 5)) 1000000) (an_int (pos 100) 1 1) (entry 3 0 2 5 100) ∷
    []

-- ---- The stops of the command

-- Attributes up (0, Node with Unit parameter) and level (1, Int with Int parameter), and node 0 of kind 0: 8 bytes. Figures for both, of 8 bytes each, and a
-- forward of 5 bytes, this node, for kind 0.
abbrev pub front : List ℕ
front = 0x41 ∷ 3 ∷ 0 ∷ 0x41 ∷ 2 ∷ 2 ∷ 0x4E ∷ 0 ∷ []

abbrev pub figures : List ℕ
figures = 0x56 ∷ 0 ∷ 0 ∷ 0 ∷ 0 ∷ 0 ∷ 0 ∷ 0 ∷ 0x56 ∷ 0 ∷ 0 ∷ 1 ∷ 5 ∷ 0 ∷ 0 ∷ 0 ∷ []

abbrev pub forward0 : List ℕ
forward0 = forward-for 0 this-node

-- up of .. up of this node, 1 + 3 × k bytes: 256 of them with k = 85; and a Node of 257 bytes
abbrev pub ups : ℕ → List ℕ
ups k = times k (0x22 ∷ 0 ∷ []) ++ this-node ++ times k unit_literal

abbrev pub too_long : List ℕ
too_long = if_then_else true_literal (ups 84) this-node

abbrev pub sheets : List Row
sheets =
    -- "no missing pair": both of node 0 are defined by the forward
    accepts (front ++ forward0 ++ 0x5A ∷ []) ∷
    -- 2: cut by the sheet's end, with the length it states, good or bad
    refuses (front ++ 0x46 ∷ []) 2 8 ∷
    refuses (front ++ 0x46 ∷ 16 ∷ []) 2 8 ∷
    refuses (front ++ 0x46 ∷ 16 ∷ 0 ∷ []) 2 8 ∷
    refuses (front ++ 0x46 ∷ 16 ∷ 2 ∷ 0 ∷ 0x30 ∷ []) 2 8 ∷
    refuses (front ++ forward0 ++ 0x46 ∷ 0 ∷ 2 ∷ 0 ∷ 0x30 ∷ []) 2 13 ∷
    refuses (front ++ 0x46 ∷ 0 ∷ 1 ∷ 1 ∷ 0x30 ∷ 0x5A ∷ []) 2 8 ∷
    -- 2: a forward stands among the rules, so a figure, a node and an attribute after it are out of order; and no end
    refuses (front ++ forward0 ++ figures ++ 0x5A ∷ []) 2 13 ∷
    refuses (front ++ forward0 ++ 0x4E ∷ 0 ∷ 0x5A ∷ []) 2 13 ∷
    refuses (front ++ forward0 ++ 0x41 ∷ 2 ∷ 2 ∷ 0x5A ∷ []) 2 13 ∷
    refuses (front ++ forward0) 2 13 ∷
    -- 4, after 2 and before 6: a kind above 15
    refuses (front ++ forward-for 16 this-node ++ 0x5A ∷ []) 4 8 ∷
    refuses (front ++ 0x46 ∷ 16 ∷ 0 ∷ 0 ∷ 0x5A ∷ []) 4 8 ∷
    accepts (front ++ forward0 ++ forward-for 15 this-node ++ 0x5A ∷ []) ∷
    -- 5, before 6 and 7: a second forward for a kind, be it equal or itself bad; not for another kind
    refuses (front ++ forward0 ++ forward0 ++ 0x5A ∷ []) 5 13 ∷
    refuses (front ++ forward0 ++ rule-for 0 1 the_parameter ++ forward-for 0 null_literal ++ 0x5A ∷ []) 5 19 ∷
    refuses (front ++ forward0 ++ 0x46 ∷ 0 ∷ 0 ∷ 0 ∷ 0x5A ∷ []) 5 13 ∷
    refuses (front ++ forward0 ++ forward-for 0 (whole 5) ++ 0x5A ∷ []) 5 13 ∷
    accepts (front ++ forward0 ++ forward-for 1 this-node ++ 0x5A ∷ []) ∷
    -- 6: length 0, also where the sheet has no byte more; 256 and 257
    refuses (front ++ 0x46 ∷ 0 ∷ 0 ∷ 0 ∷ 0x5A ∷ []) 6 8 ∷
    refuses (front ++ 0x46 ∷ 0 ∷ 0 ∷ 0 ∷ []) 6 8 ∷
    accepts (front ++ 0x46 ∷ 0 ∷ 0 ∷ 1 ∷ ups 85 ++ 0x5A ∷ []) ∷
    refuses (front ++ 0x46 ∷ 0 ∷ 1 ∷ 1 ∷ too_long ++ 0x5A ∷ []) 6 8 ∷
    -- 6: "not 0x31", where all else is well typed and where it is not
    refuses (front ++ forward-for 0 (attribute_of 0 this-node the_parameter) ++ 0x5A ∷ []) 6 8 ∷
    refuses (front ++ forward-for 0 the_parameter ++ 0x5A ∷ []) 6 8 ∷
    refuses (front ++ forward-for 0 (attribute_of 1 this-node the_parameter) ++ 0x5A ∷ []) 6 8 ∷
    -- 6: a piece that is no expression, or not of exactly that length; an undeclared node and attribute
    refuses (front ++ forward-for 0 (0x32 ∷ []) ++ 0x5A ∷ []) 6 8 ∷
    refuses (front ++ forward-for 0 (0x30 ∷ 0x30 ∷ []) ++ 0x5A ∷ []) 6 8 ∷
    refuses (front ++ forward-for 0 (0x22 ∷ 0 ∷ 0x30 ∷ []) ++ 0x10 ∷ 0x5A ∷ []) 6 8 ∷
    refuses (front ++ forward-for 0 (node_literal 1) ++ 0x5A ∷ []) 6 8 ∷
    refuses (front ++ forward-for 0 (attribute_of 2 this-node unit_literal) ++ 0x5A ∷ []) 6 8 ∷
    -- 7: "a type other than Node", Int, Bool, Unit and a function's, and none at all
    refuses (front ++ forward-for 0 (whole 5) ++ 0x5A ∷ []) 7 8 ∷
    refuses (front ++ forward-for 0 (attribute_of 1 this-node (whole 5)) ++ 0x5A ∷ []) 7 8 ∷
    refuses (front ++ forward-for 0 true_literal ++ 0x5A ∷ []) 7 8 ∷
    refuses (front ++ forward-for 0 unit_literal ++ 0x5A ∷ []) 7 8 ∷
    refuses (front ++ forward-for 0 (0x14 ∷ 3 ∷ []) ++ 0x5A ∷ []) 7 8 ∷
    refuses (front ++ forward-for 0 (attribute_of 0 (whole 5) unit_literal) ++ 0x5A ∷ []) 7 8 ∷
    accepts (front ++ forward-for 0 null_literal ++ 0x5A ∷ []) ∷
    -- 8: "only if its kind has no forward either", in the order of the gaps
    refuses (front ++ forward-for 1 this-node ++ 0x5A ∷ []) 8 0 ∷
    refuses (front ++ 0x4E ∷ 1 ∷ forward0 ++ 0x5A ∷ []) 8 32 ∷
    refuses (front ++ 0x4E ∷ 1 ∷ forward0 ++ rule-for 1 0 this-node ++ 0x5A ∷ []) 8 33 ∷
    refuses (front ++ 0x4E ∷ 1 ∷ rule-for 0 0 this-node ++ forward-for 1 this-node ++ 0x5A ∷ []) 8 1 ∷
    accepts (front ++ 0x4E ∷ 1 ∷ figures ++ forward-for 1 this-node ++ 0x5A ∷ []) ∷
    -- A forward of a kind that no node has, or with nothing left to forward, is legal, and checked.
    accepts (front ++ figures ++ forward-for 7 this-node ++ 0x5A ∷ []) ∷
    refuses (front ++ figures ++ forward-for 7 (whole 5) ++ 0x5A ∷ []) 7 24 ∷
    accepts (front ++ figures ++ forward0 ++ 0x5A ∷ []) ∷
    -- A forward where no attribute is declared, and no node.
    accepts (0x46 ∷ 0 ∷ 1 ∷ 0 ∷ 0x30 ∷ 0x5A ∷ []) ∷
    accepts (0x4E ∷ 0 ∷ 0x46 ∷ 0 ∷ 1 ∷ 0 ∷ 0x30 ∷ 0x5A ∷ []) ∷
    -- Rules and forwards "in any order"; a rule after a forward has its own place.
    accepts (front ++ rule-for 0 0 this-node ++ forward0 ++ rule-for 0 1 the_parameter ++ 0x5A ∷ []) ∷
    accepts (front ++ forward0 ++ rule-for 0 1 the_parameter ++ forward-for 1 this-node ++ 0x5A ∷ []) ∷
    refuses (front ++ forward0 ++ rule-for 0 1 this-node ++ 0x5A ∷ []) 7 13 ∷
    []

-- ---- Plain Saiga

-- The comparison is "over this wider σ".
unfoldable pub PlainForwards : Type 0
PlainForwards =
    Plainly sheet_order (level 3 (whole 5)) (λ s e. EndsWithValue (context s) (asked e) (int (pos 6)) 4)
    × Plainly sheet_chain (level 3 (whole 5)) (λ s e. EndsWithValue (context s) (asked e) (int (pos 6)) 6)
    × Plainly sheet_choice (amount 2) (λ s e. EndsWithValue (context s) (asked e) (int (pos 20)) 5)
    × Plainly sheet_choice (amount 4) (λ s e. EndsWithout (context s) on_null (asked e) 4)
    × Plainly sheet_itself (amount 0) (λ s e. RunsForEver (context s) (asked e))
    × Plainly sheet_turns (amount 0) (λ s e. RunsForEver (context s) (asked e))

-- The tables, as one statement.
unfoldable pub TableForwards : Type 0
TableForwards =
    (bring rows_LF ≡ brought rows_LF)
    × LeftLF
    × PlainLF
    × (bring forwards ≡ brought forwards)
    × (bring deep_forwards ≡ brought deep_forwards)
    × (outcomes stores_left ≡ expected stores_left)
    × (bring sheets ≡ brought sheets)
    × PlainForwards
