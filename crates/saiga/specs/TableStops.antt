-- Stops 1 to 8 and 11 to 13, each with its place and in their order (document 01, "Stops by origin"). TableStores.antt has 9 and 10.
use Rattle.std.specs.Prelude.{List, [], ◌∷◌, ◌++◌, ◌≡◌, ℕ, replicate}
use Rattle.saiga.specs.Sheet.{node_part, Read, stops◌at_offset◌, read_node}
use Rattle.saiga.specs.TableL.{five, Row, bring, brought}
use Rattle.saiga.specs.Rows.{times, true_literal, node_literal, one, if_then_else, attribute_of, asks, a_bool, stop, refuses, accepts}

-- ---- The stops of the sheet

-- Attributes 0 (Int with Int parameter) and 1 (Bool with Unit parameter), and node 0 of kind 0: 8 bytes. Figures for both, of 8 bytes each,
-- and a rule of 6 bytes, the parameter, for kind 0 and attribute 0.
abbrev pub front : List ℕ
front = 0x41 ∷ 2 ∷ 2 ∷ 0x41 ∷ 1 ∷ 0 ∷ 0x4E ∷ 0 ∷ []

abbrev pub figure0 : List ℕ
figure0 = 0x56 ∷ 0 ∷ 0 ∷ 0 ∷ 5 ∷ 0 ∷ 0 ∷ 0 ∷ []

abbrev pub figure1 : List ℕ
figure1 = 0x56 ∷ 0 ∷ 0 ∷ 1 ∷ 1 ∷ 0 ∷ 0 ∷ 0 ∷ []

abbrev pub rule0 : List ℕ
rule0 = 0x52 ∷ 0 ∷ 0 ∷ 1 ∷ 0 ∷ 0x31 ∷ []

abbrev pub sheet_f : List ℕ
sheet_f = front ++ figure0 ++ figure1 ++ 0x5A ∷ []

-- an attribute and a node of 5 bytes, the attribute's result of this type
abbrev pub front_of : ℕ → List ℕ
front_of type = 0x41 ∷ type ∷ 0 ∷ 0x4E ∷ 0 ∷ []

-- a figure with these low bytes of its value, and the end
abbrev pub figure-of : ℕ → ℕ → ℕ → List ℕ
figure-of b c d = 0x56 ∷ 0 ∷ 0 ∷ 0 ∷ b ∷ c ∷ d ∷ 0 ∷ 0x5A ∷ []

-- not(.. not(true)), 2 + 3 × k bytes: 257 of them with k = 85
abbrev pub nots : ℕ → List ℕ
nots k = times k (0x21 ∷ 0x14 ∷ 3 ∷ []) ++ true_literal

-- an expression of 3 + (2 + 3 × 83) + 2 = 256 bytes
abbrev pub longest : List ℕ
longest = if_then_else true_literal (nots 83) true_literal

abbrev pub sheets : List Row
sheets =
    -- 1: "over 65,536 bytes"
    refuses (replicate 65537 0x5A) 1 0 ∷
    refuses (replicate 65536 0x5A) 2 1 ∷
    -- 2: unknown, out of order
    refuses (front ++ 0x40 ∷ 0x5A ∷ []) 2 8 ∷
    refuses (front ++ 0x41 ∷ 4 ∷ 4 ∷ 0x5A ∷ []) 2 8 ∷
    refuses (front ++ figure0 ++ 0x4E ∷ 16 ∷ 0x5A ∷ []) 2 16 ∷
    refuses (front ++ rule0 ++ figure0 ++ 0x5A ∷ []) 2 14 ∷
    -- 2: cut by the sheet's end, a rule with its length too
    refuses (0x41 ∷ 4 ∷ []) 2 0 ∷
    refuses (0x4E ∷ []) 2 0 ∷
    refuses (front ++ 0x56 ∷ 1 ∷ 0 ∷ 0 ∷ 5 ∷ 0 ∷ 0 ∷ []) 2 8 ∷
    refuses (front ++ 0x52 ∷ 16 ∷ 0 ∷ 0 ∷ []) 2 8 ∷
    refuses (front ++ 0x52 ∷ 16 ∷ 0 ∷ 2 ∷ 0 ∷ 0x31 ∷ []) 2 8 ∷
    refuses (front ++ 0x52 ∷ 0 ∷ 0 ∷ 1 ∷ 1 ∷ 0x31 ∷ 0x5A ∷ []) 2 8 ∷
    -- 2: no end, at the sheet's length; bytes after it, at the first of them, and before 8
    refuses front 2 8 ∷
    refuses (sheet_f ++ 0x5A ∷ []) 2 25 ∷
    refuses (front ++ 0x5A ∷ 0 ∷ 0 ∷ []) 2 9 ∷
    -- 3, after 2 and before 4: a 33rd attribute
    refuses (times 32 (0x41 ∷ 3 ∷ 3 ∷ []) ++ 0x41 ∷ 4 ∷ 0 ∷ 0x5A ∷ []) 3 96 ∷
    refuses (times 32 (0x41 ∷ 3 ∷ 3 ∷ []) ++ 0x41 ∷ 4 ∷ []) 2 96 ∷
    -- 4: operands of attribute, node, figure and rule
    refuses (0x41 ∷ 4 ∷ 0 ∷ 0x5A ∷ []) 4 0 ∷
    refuses (0x41 ∷ 0 ∷ 4 ∷ 0x5A ∷ []) 4 0 ∷
    refuses (0x4E ∷ 16 ∷ 0x5A ∷ []) 4 0 ∷
    refuses (front ++ 0x56 ∷ 1 ∷ 0 ∷ 0 ∷ 5 ∷ 0 ∷ 0 ∷ 0 ∷ 0x5A ∷ []) 4 8 ∷
    refuses (front ++ 0x56 ∷ 0 ∷ 1 ∷ 0 ∷ 5 ∷ 0 ∷ 0 ∷ 0 ∷ 0x5A ∷ []) 4 8 ∷
    refuses (front ++ 0x56 ∷ 0 ∷ 0 ∷ 2 ∷ 0 ∷ 0 ∷ 0 ∷ 0 ∷ 0x5A ∷ []) 4 8 ∷
    refuses (front ++ 0x52 ∷ 16 ∷ 0 ∷ 0 ∷ 0 ∷ 0x5A ∷ []) 4 8 ∷
    refuses (front ++ 0x52 ∷ 0 ∷ 2 ∷ 1 ∷ 0 ∷ 0x31 ∷ 0x5A ∷ []) 4 8 ∷
    -- 4: a figure's value, by type
    accepts (front_of 0 ++ figure-of 0 0 0) ∷
    refuses (front_of 0 ++ figure-of 1 0 0) 4 5 ∷
    accepts (front_of 1 ++ figure-of 1 0 0) ∷
    refuses (front_of 1 ++ figure-of 2 0 0) 4 5 ∷
    refuses (front_of 1 ++ figure-of 1 0 1) 4 5 ∷
    accepts (front_of 2 ++ figure-of 2 1 1) ∷
    accepts (front_of 3 ++ figure-of 0 0 0) ∷
    refuses (front_of 3 ++ figure-of 1 0 0) 4 5 ∷
    accepts (front_of 3 ++ figure-of 0xFF 0xFF 0) ∷
    refuses (front_of 3 ++ figure-of 0xFF 0xFF 1) 4 5 ∷
    -- 5, after 4 and before 6: a second figure, a second rule
    refuses (front ++ figure0 ++ figure0 ++ 0x5A ∷ []) 5 16 ∷
    refuses (front ++ figure1 ++ 0x56 ∷ 0 ∷ 0 ∷ 1 ∷ 2 ∷ 0 ∷ 0 ∷ 0 ∷ 0x5A ∷ []) 4 16 ∷
    refuses (front ++ rule0 ++ 0x52 ∷ 0 ∷ 0 ∷ 0 ∷ 0 ∷ 0x5A ∷ []) 5 14 ∷
    -- 6: length 0 and 257; a piece that is no expression, or not of exactly that length
    refuses (front ++ 0x52 ∷ 0 ∷ 0 ∷ 0 ∷ 0 ∷ 0x5A ∷ []) 6 8 ∷
    -- 6, not 2: "a rule with the length it states" is not cut where it states 0, though the sheet has no byte more
    refuses (front ++ 0x52 ∷ 0 ∷ 0 ∷ 0 ∷ 0 ∷ []) 6 8 ∷
    accepts (front ++ figure0 ++ 0x52 ∷ 0 ∷ 1 ∷ 0 ∷ 1 ∷ longest ++ 0x5A ∷ []) ∷
    refuses (front ++ figure0 ++ 0x52 ∷ 0 ∷ 1 ∷ 1 ∷ 1 ∷ nots 85 ++ 0x5A ∷ []) 6 16 ∷
    refuses (front ++ 0x52 ∷ 0 ∷ 0 ∷ 1 ∷ 0 ∷ 0x32 ∷ 0x5A ∷ []) 6 8 ∷
    refuses (front ++ 0x52 ∷ 0 ∷ 1 ∷ 2 ∷ 0 ∷ 0x11 ∷ 2 ∷ 0x5A ∷ []) 6 8 ∷
    refuses (front ++ 0x52 ∷ 0 ∷ 0 ∷ 2 ∷ 0 ∷ 0x14 ∷ 6 ∷ 0x5A ∷ []) 6 8 ∷
    refuses (front ++ 0x52 ∷ 0 ∷ 0 ∷ 3 ∷ 0 ∷ 0x13 ∷ 1 ∷ 0 ∷ 0x5A ∷ []) 6 8 ∷
    refuses (front ++ 0x52 ∷ 0 ∷ 0 ∷ 4 ∷ 0 ∷ 0x22 ∷ 2 ∷ 0x30 ∷ 0x31 ∷ 0x5A ∷ []) 6 8 ∷
    refuses (front ++ 0x52 ∷ 0 ∷ 0 ∷ 2 ∷ 0 ∷ 0x31 ∷ 0x5A ∷ 0x5A ∷ []) 6 8 ∷
    refuses (front ++ 0x52 ∷ 0 ∷ 1 ∷ 1 ∷ 0 ∷ 0x11 ∷ 0x5A ∷ []) 6 8 ∷
    -- 7: the parameter is of its own type; a function is no result; and a command's stop comes before those behind it
    refuses (front ++ 0x52 ∷ 0 ∷ 0 ∷ 1 ∷ 0 ∷ 0x30 ∷ 0x5A ∷ []) 7 8 ∷
    refuses (front ++ rule0 ++ 0x52 ∷ 0 ∷ 1 ∷ 1 ∷ 0 ∷ 0x31 ∷ 0 ∷ []) 7 14 ∷
    refuses (front ++ 0x52 ∷ 0 ∷ 0 ∷ 2 ∷ 0 ∷ 0x14 ∷ 4 ∷ 0x5A ∷ []) 7 8 ∷
    -- 8: the pair with the lowest attribute, and of these the lowest node; node × 32 + attribute
    refuses (front ++ 0x5A ∷ []) 8 0 ∷
    refuses (front ++ rule0 ++ 0x5A ∷ []) 8 1 ∷
    refuses (front ++ 0x4E ∷ 1 ∷ rule0 ++ 0x52 ∷ 1 ∷ 0 ∷ 1 ∷ 0 ∷ 0x31 ∷ 0x5A ∷ []) 8 1 ∷
    refuses (front ++ 0x4E ∷ 1 ∷ figure1 ++ rule0 ++ 0x52 ∷ 1 ∷ 0 ∷ 1 ∷ 0 ∷ 0x31 ∷ 0x5A ∷ []) 8 33 ∷
    refuses (front ++ 0x4E ∷ 1 ∷ figure0 ++ figure1 ++ 0x5A ∷ []) 8 32 ∷
    -- 8: of (0, 1) and (1, 0) it is the second, 32, though it comes later by node
    refuses (front ++ 0x4E ∷ 1 ∷ 0x56 ∷ 1 ∷ 0 ∷ 1 ∷ 1 ∷ 0 ∷ 0 ∷ 0 ∷ rule0 ++ 0x5A ∷ []) 8 32 ∷
    accepts sheet_f ∷
    []

-- Stop 3 for a 1,025th node and not for a 1,024th, whose kind 16 is then stop 4: of the one command, for a sheet with all the others
-- takes long to read.
abbrev pub node_after : ℕ → Read
node_after count = read_node record { attributes = []; kinds = replicate count 0; figures = []; rules = []; forwards = [] } node_part (16 ∷ 0x5A ∷ [])

-- ---- The stops of the question

abbrev pub turns_down : List ℕ → ℕ → Row
turns_down question number = asks sheet_f 0 question 1000000 (stop number 0 0)

abbrev pub questions : List Row
questions =
    -- 11, before 12
    asks sheet_f 0 [] 1000001 (stop 11 0 0) ∷
    -- 12: "1 to 256 bytes without 0x30 and 0x31"
    turns_down [] 12 ∷
    asks sheet_f 0 longest 1000000 (a_bool 0 84) ∷
    turns_down (nots 85) 12 ∷
    turns_down (0x30 ∷ []) 12 ∷
    turns_down (0x31 ∷ []) 12 ∷
    turns_down (five ++ 0x10 ∷ []) 12 ∷
    turns_down (0x12 ∷ 5 ∷ 0 ∷ 0 ∷ []) 12 ∷
    turns_down (node_literal 1) 12 ∷
    turns_down (attribute_of 2 (node_literal 0) five) 12 ∷
    -- 13: a function, and what has no type
    turns_down (0x14 ∷ 3 ∷ []) 13 ∷
    turns_down (one 4 five) 13 ∷
    turns_down (one 3 five) 13 ∷
    turns_down (0x21 ∷ five ++ five) 13 ∷
    turns_down (if_then_else five five five) 13 ∷
    turns_down (if_then_else true_literal five true_literal) 13 ∷
    turns_down (attribute_of 0 (node_literal 0) (0x10 ∷ [])) 13 ∷
    turns_down (attribute_of 0 five five) 13 ∷
    []

-- The table, as one statement.
unfoldable pub TableStops : Type 0
TableStops =
    (bring sheets ≡ brought sheets)
    × (node_after 1024 ≡ stops 3 at_offset 0)
    × (node_after 1023 ≡ stops 4 at_offset 0)
    × (bring questions ≡ brought questions)
