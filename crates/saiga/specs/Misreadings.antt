-- What table L does not tell apart: document 01's "Likely misreadings" and others, the functions, and the limits of the run. Each answer
-- is worked out from the document. TableStops.antt has the stops before the run, TableOverflow.antt the sums that do not fit,
-- TableStores.antt the store's bytes.
use Rattle.std.specs.Prelude.{List, [], ◌∷◌, ◌++◌, ◌≡◌, ℕ, zero, suc, pos, negsuc}
use Rattle.saiga.specs.Sheet.{context}
use Rattle.saiga.specs.Plain.{on_null, EndsWithout}
use Rattle.saiga.specs.Ask.{asking, Answer, asked}
use Rattle.saiga.specs.TableL.{sheet_l, Row, row, bring, brought, Plainly}
use Rattle.saiga.specs.Rows.{times, unit_literal, whole, lowest_int, highest_int, minus_one, true_literal, false_literal, null_literal, node_literal, one, two, if_then_else, attribute_of, this-node, the_parameter, rule-for, asks, ends_with, an_int, a_bool, stop}

-- ---- Sheets

-- Attributes next (0) and fixed (1), both Int with Int parameter. Nodes 0 and 1, both of kind 0. Figure: fixed of node 0 is 9. Rules for
-- kind 0: next is add(the parameter)(1); fixed is 8.
abbrev pub sheet_p : List ℕ
sheet_p =
    0x41 ∷ 2 ∷ 2 ∷
    0x41 ∷ 2 ∷ 2 ∷
    0x4E ∷ 0 ∷
    0x4E ∷ 0 ∷
    0x56 ∷ 0 ∷ 0 ∷ 1 ∷ 9 ∷ 0 ∷ 0 ∷ 0 ∷
    0x52 ∷ 0 ∷ 0 ∷ 10 ∷ 0 ∷ 0x21 ∷ 0x21 ∷ 0x14 ∷ 4 ∷ 0x31 ∷ 0x12 ∷ 1 ∷ 0 ∷ 0 ∷ 0 ∷
    0x52 ∷ 0 ∷ 1 ∷ 5 ∷ 0 ∷ 0x12 ∷ 8 ∷ 0 ∷ 0 ∷ 0 ∷
    0x5A ∷ []

-- next and fixed of node 0
abbrev pub next : List ℕ → List ℕ
next x = attribute_of 0 (node_literal 0) x

abbrev pub fixed : List ℕ → List ℕ
fixed x = attribute_of 1 (node_literal 0) x

abbrev pub next_of_null : List ℕ → List ℕ
next_of_null x = attribute_of 0 null_literal x

-- add(the parameter)(1), and subtract(the parameter)(1)
abbrev pub one_more : List ℕ
one_more = two 4 the_parameter (whole 1)

abbrev pub one_less : List ℕ
one_less = two 5 the_parameter (whole 1)

-- Rules by which each attribute from `a` on is the next one of this node, with the parameter: `n` of them.
abbrev pub links : ℕ → ℕ → List ℕ
links zero a = []
links (suc n) a = rule-for 0 a (attribute_of (suc a) this-node the_parameter) ++ links n (suc a)

-- Attributes 0 to 15, Int with Int parameter, and their rules, which open many forms in few steps: 0 to 14 are the next of this node with the parameter,
-- and 15 is IF le(the parameter)(1) THEN e ELSE attribute 0 of this node with subtract(the parameter)(1). So attribute 0 of k comes to e inside 16 × k
-- forms, after 21 × k - 2 steps: the forms' AttrApp, and for each parameter two AppApp, IF's step and, above 1, two AppApp. Attribute 1 of k comes to it
-- inside a form less, a step before.
abbrev pub sixteen : List ℕ
sixteen = times 16 (0x41 ∷ 2 ∷ 2 ∷ [])

abbrev pub falling : List ℕ → List ℕ
falling e = links 15 0 ++ rule-for 0 15 (if_then_else (two 0 the_parameter (whole 1)) e (attribute_of 0 this-node one_less))

-- One node, and attribute 0 of null, with the parameter, at the end of the fall.
abbrev pub sheet_null : List ℕ
sheet_null = sixteen ++ 0x4E ∷ 0 ∷ falling (attribute_of 0 null_literal the_parameter) ++ 0x5A ∷ []

-- Nodes 0 and 1 of kind 0, and last (16), Int. Figure: last of node 0 is 9. Rule: last is 9. At the end of the fall stands add(last)(last).
abbrev pub sheet_fall : List ℕ
sheet_fall =
    sixteen ++
    0x41 ∷ 2 ∷ 0 ∷
    0x4E ∷ 0 ∷
    0x4E ∷ 0 ∷
    0x56 ∷ 0 ∷ 0 ∷ 16 ∷ 9 ∷ 0 ∷ 0 ∷ 0 ∷
    rule-for 0 16 (whole 9)
    ++ falling (two 4 (attribute_of 16 this-node unit_literal) (attribute_of 16 this-node unit_literal))
    ++ 0x5A ∷ []

-- last of a node inside 63 forms and inside 64, and by itself
abbrev pub inside63 : ℕ → List ℕ
inside63 n = attribute_of 1 (node_literal n) (whole 4)

abbrev pub inside64 : ℕ → List ℕ
inside64 n = attribute_of 0 (node_literal n) (whole 4)

abbrev pub last : ℕ → List ℕ
last n = attribute_of 16 (node_literal n) unit_literal

-- Attributes choice (0, Int), few (1, Bool), via (2, Int), there (3, Node) and sum (4, Int), all with Int parameter. One node. In each rule the next
-- attribute, of this node and with add(the parameter)(1), stands in another part: choice is IF few THEN 1 ELSE 0; few is le(via)(1); via is via of there,
-- with 1; there is there with sum for its parameter; and sum is add(1)(choice). AttrApp leads to the next AttrApp in three steps, of sum in four.
abbrev pub sheet_inside : List ℕ
sheet_inside =
    0x41 ∷ 2 ∷ 2 ∷
    0x41 ∷ 1 ∷ 2 ∷
    0x41 ∷ 2 ∷ 2 ∷
    0x41 ∷ 3 ∷ 2 ∷
    0x41 ∷ 2 ∷ 2 ∷
    0x4E ∷ 0 ∷
    rule-for 0 0 (if_then_else (attribute_of 1 this-node one_more) (whole 1) (whole 0))
    ++ rule-for 0 1 (two 0 (attribute_of 2 this-node one_more) (whole 1))
    ++ rule-for 0 2 (attribute_of 2 (attribute_of 3 this-node one_more) (whole 1))
    ++ rule-for 0 3 (attribute_of 3 this-node (attribute_of 4 this-node one_more))
    ++ rule-for 0 4 (two 4 (whole 1) (attribute_of 0 this-node one_more))
    ++ 0x5A ∷ []

abbrev pub choice : ℕ → List ℕ
choice k = attribute_of 0 (node_literal 0) (whole k)

-- ---- Rows

abbrev pub runs : List Row
runs =
    -- One entry for each parameter: next(3) and next(4) take 3 steps each (AttrApp, two AppApp), next(3) again 1.
    row sheet_p 4 (asking (next (whole 3)) 1000000 ∷ asking (next (whole 4)) 1000000 ∷ asking (next (whole 3)) 1000000 ∷ [])
    (an_int (pos 4) 3 1 ∷ an_int (pos 5) 3 2 ∷ an_int (pos 4) 1 2 ∷ []) ∷
    -- A figure comes before the rule and holds for every parameter; its AttrApp counts one, and it is kept. Node 1 has the rule.
    row sheet_p 4 (asking (fixed (whole 7)) 1000000 ∷ asking (fixed (whole 7)) 1000000 ∷ asking (fixed (whole 6)) 1000000 ∷ asking (attribute_of 1 (node_literal 1) (whole 7)) 1000000 ∷ [])
    (an_int (pos 9) 1 1 ∷ an_int (pos 9) 1 1 ∷ an_int (pos 9) 1 2 ∷ an_int (pos 8) 1 3 ∷ []) ∷
    -- Null is tested when the parameter is a value: its two AppApp count before 14, and 15 comes first where they are not paid for.
    asks sheet_p 4 (next_of_null (two 4 (whole 1) (whole 2))) 1000000 (stop 14 2 0) ∷
    asks sheet_p 4 (next_of_null (two 4 (whole 1) (whole 2))) 2 (stop 14 2 0) ∷
    asks sheet_p 4 (next_of_null (two 4 (whole 1) (whole 2))) 1 (stop 15 1 0) ∷
    asks sheet_p 4 (next_of_null (next (whole 3))) 1000000 (stop 14 3 1) ∷
    -- A full store drops nothing, and CacheWrite then changes nothing.
    row sheet_p 1 (asking (next (whole 3)) 1000000 ∷ asking (next (whole 4)) 1000000 ∷ asking (next (whole 4)) 1000000 ∷ asking (next (whole 3)) 1000000 ∷ [])
    (an_int (pos 4) 3 1 ∷ an_int (pos 5) 3 1 ∷ an_int (pos 5) 3 1 ∷ an_int (pos 4) 1 1 ∷ []) ∷
    -- 14 before 15 and 16: an attribute of null is due inside 64 forms, after 82 steps, the whole budget.
    asks sheet_null 1 (inside64 0) 82 (stop 14 82 0) ∷
    asks sheet_p 1 (next_of_null (whole 5)) 0 (stop 14 0 0) ∷
    -- "15 spent: a counted step due with the whole budget used": IF's too, with the steps counted so far.
    asks sheet_p 1 (if_then_else true_literal (whole 1) (whole 2)) 0 (stop 15 0 0) ∷
    asks sheet_p 1 (if_then_else (one 3 true_literal) (whole 1) (whole 2)) 1 (stop 15 1 0) ∷
    asks sheet_p 1 (if_then_else (one 3 true_literal) (whole 1) (whole 2)) 2 (an_int (pos 2) 2 0) ∷
    []

-- "An occurrence (n, a, v) is open while its form stands around the part being stepped": all the forms around it are counted, through
-- whatever else stands between them.
abbrev pub open-forms : List Row
open-forms =
    -- Between a form and the next stands, by turns, IF's condition, an application's left part, an attribute's node part and its parameter part, and an
    -- application's argument. The 64 forms take three steps each, and one more for each of the 12 that are of sum.
    asks sheet_inside 0 (choice 5) 205 (stop 16 204 0) ∷
    []

-- "AttrApp on a kept occurrence goes through with 64 open and counts its one step. Stop 16 is given only when the occurrence due is not kept"
-- (F-8 of document 02): of last, which is a figure of node 0 and a rule's of node 1.
abbrev pub depths : List Row
depths =
    -- Nothing is kept: taken inside 63 forms, after 81 steps, and too deep inside 64, after 82. With none of the budget left it is spent. First
    -- of the figure, then of the rule.
    row sheet_fall 0 (asking (inside63 0) 1000000 ∷ asking (inside64 0) 83 ∷ asking (inside64 0) 82 ∷ [])
    (an_int (pos 18) 85 0 ∷ stop 16 82 0 ∷ stop 15 82 0 ∷ []) ∷
    row sheet_fall 0 (asking (inside63 1) 1000000 ∷ asking (inside64 1) 83 ∷ []) (an_int (pos 18) 85 0 ∷ stop 16 82 0 ∷ []) ∷
    -- Last is kept: taken twice inside 64 forms, each time for one step of the budget.
    row sheet_fall 1 (asking (last 1) 1 ∷ asking (inside64 1) 86 ∷ asking (inside64 1) 82 ∷ [])
    (an_int (pos 9) 1 1 ∷ an_int (pos 18) 86 1 ∷ stop 15 82 1 ∷ []) ∷
    -- A larger store spares the stop: the smaller is full, with last of the other node.
    row sheet_fall 1 (asking (last 1) 1 ∷ asking (last 0) 1 ∷ asking (inside64 0) 1000000 ∷ [])
    (an_int (pos 9) 1 1 ∷ an_int (pos 9) 1 1 ∷ stop 16 82 1 ∷ []) ∷
    row sheet_fall 2 (asking (last 1) 1 ∷ asking (last 0) 1 ∷ asking (inside64 0) 86 ∷ [])
    (an_int (pos 9) 1 1 ∷ an_int (pos 9) 1 2 ∷ an_int (pos 18) 86 2 ∷ []) ∷
    []

-- A question to the single byte 0x5A, and the type, value and steps of its answer.
abbrev pub computes : List ℕ → Answer → Row
computes question a = asks (0x5A ∷ []) 0 question 1000000 a

abbrev pub functions : List Row
functions =
    -- le, equal on Int, not
    computes (two 0 (whole 4) (whole 4)) (a_bool 1 2) ∷
    computes (two 0 (whole 5) (whole 4)) (a_bool 0 2) ∷
    computes (two 0 minus_one (whole 0)) (a_bool 1 2) ∷
    computes (two 0 (whole 0) minus_one) (a_bool 0 2) ∷
    computes (two 1 minus_one minus_one) (a_bool 1 2) ∷
    computes (two 1 (whole 0) minus_one) (a_bool 0 2) ∷
    computes (one 3 true_literal) (a_bool 0 1) ∷
    computes (one 3 false_literal) (a_bool 1 1) ∷
    -- add and subtract; TableOverflow.antt has the ends of Int
    computes (two 5 (whole 5) (whole 3)) (an_int (pos 2) 2 0) ∷
    computes (two 5 (two 4 lowest_int (whole 1)) (whole 1)) (an_int (negsuc 2147483647) 4 0) ∷
    computes (two 4 highest_int minus_one) (an_int (pos 2147483646) 2 0) ∷
    -- equal on Node: "null equals only null"
    computes (two 2 null_literal null_literal) (a_bool 1 2) ∷
    asks sheet_p 0 (two 2 null_literal (node_literal 0)) 1000000 (a_bool 0 2) ∷
    asks sheet_p 0 (two 2 (node_literal 1) null_literal) 1000000 (a_bool 0 2) ∷
    asks sheet_p 0 (two 2 (node_literal 1) (node_literal 0)) 1000000 (a_bool 0 2) ∷
    asks sheet_p 0 (two 2 (node_literal 1) (node_literal 1)) 1000000 (a_bool 1 2) ∷
    -- IF, "by condition only", its type a function's too
    computes (if_then_else true_literal (whole 1) (whole 2)) (an_int (pos 1) 1 0) ∷
    computes (if_then_else false_literal (whole 1) (whole 2)) (an_int (pos 2) 1 0) ∷
    asks sheet_p 0 (if_then_else true_literal (whole 1) (next_of_null (whole 5))) 1000000 (an_int (pos 1) 1 0) ∷
    computes (0x21 ∷ 0x21 ∷ if_then_else true_literal (0x14 ∷ 4 ∷ []) (0x14 ∷ 5 ∷ []) ++ whole 5 ++ whole 3) (an_int (pos 8) 3 0) ∷
    -- the four base types
    computes (0x10 ∷ []) (ends_with 0 (pos 0) 0 0) ∷
    computes true_literal (a_bool 1 0) ∷
    computes minus_one (an_int (negsuc 0) 0 0) ∷
    computes null_literal (ends_with 3 (pos 65535) 0 0) ∷
    []

-- ---- Plain Saiga

-- IF true THEN x ELSE x, which takes a step to x
abbrev pub a_step_to : List ℕ → List ℕ
a_step_to x = if_then_else true_literal x x

-- sheet L's up and own
abbrev pub up : List ℕ → List ℕ → List ℕ
up n x = attribute_of 0 n x

abbrev pub own : List ℕ → List ℕ → List ℕ
own n x = attribute_of 1 n x

-- The order of the parts, seen where one of them ends all: node 0's up is null.
unfoldable pub PlainParts : Type 0
PlainParts =
    -- "the node part is stepped to a value, then the parameter": up of null ends all after one step, node 0's up, and the parameter takes none.
    Plainly sheet_l (own (up (up (node_literal 0) unit_literal) unit_literal) (a_step_to unit_literal))
    (λ s e. EndsWithout (context s) on_null (asked e) 1)
    -- "On null" comes after both: the node part is null, and the parameter takes its step first.
    × Plainly sheet_l (own (up (node_literal 0) unit_literal) (a_step_to unit_literal)) (λ s e. EndsWithout (context s) on_null (asked e) 2)
    -- "the left part is stepped to a value, then the right": own of null ends all before the right part takes its step.
    × Plainly sheet_l (two 4 (own null_literal unit_literal) (a_step_to (whole 1))) (λ s e. EndsWithout (context s) on_null (asked e) 0)

-- The tables, as one statement.
unfoldable pub Misreadings : Type 0
Misreadings =
    (bring runs ≡ brought runs)
    × (bring open-forms ≡ brought open-forms)
    × (bring depths ≡ brought depths)
    × (bring functions ≡ brought functions)
    × PlainParts
