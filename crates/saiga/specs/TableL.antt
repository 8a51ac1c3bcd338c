-- Sheet L, its questions and the table of cases L1 to L13 (document 01, "Sheet L and its questions").
use Rattle.std.specs.Prelude.{true, List, [], ◌∷◌, ◌≡◌, ℕ, length, take, ℤ, pos}
use Rattle.saiga.specs.Values.{Value, unit, bool, int, node}
use Rattle.saiga.specs.Expressions.{Expr}
use Rattle.saiga.specs.Sheet.{Sheet, accepted, check_sheet, context}
use Rattle.saiga.specs.Plain.{on_null, EndsWithValue, EndsWithout, RunsForEver}
use Rattle.saiga.specs.Caching.{Entry}
use Rattle.saiga.specs.Store.{entries_bytes}
use Rattle.saiga.specs.Ask.{Call, asking, Answer, check_question, asked}
use Rattle.saiga.specs.Calls.{empty, answers, after_calls}

-- "Sheet L, 103 bytes: attributes up (0, Node), own (1, Int), dial (2, Int), all with Unit parameter. Nodes 0 (kind 0), 1 and 2
-- (kind 1). Figures: up is null, 0, 0; own is 700, 0, 811. Rules: dial for kind 0 is own of this node; for kind 1,
-- IF equal(own)(0) THEN up.dial ELSE own, each of this node."
abbrev pub sheet_l : List ℕ
sheet_l =
    0x41 ∷ 0x03 ∷ 0x00 ∷
    0x41 ∷ 0x02 ∷ 0x00 ∷
    0x41 ∷ 0x02 ∷ 0x00 ∷
    0x4E ∷ 0x00 ∷
    0x4E ∷ 0x01 ∷
    0x4E ∷ 0x01 ∷
    0x56 ∷ 0x00 ∷ 0x00 ∷ 0x00 ∷ 0xFF ∷ 0xFF ∷ 0x00 ∷ 0x00 ∷
    0x56 ∷ 0x00 ∷ 0x00 ∷ 0x01 ∷ 0xBC ∷ 0x02 ∷ 0x00 ∷ 0x00 ∷
    0x56 ∷ 0x01 ∷ 0x00 ∷ 0x00 ∷ 0x00 ∷ 0x00 ∷ 0x00 ∷ 0x00 ∷
    0x56 ∷ 0x01 ∷ 0x00 ∷ 0x01 ∷ 0x00 ∷ 0x00 ∷ 0x00 ∷ 0x00 ∷
    0x56 ∷ 0x02 ∷ 0x00 ∷ 0x00 ∷ 0x00 ∷ 0x00 ∷ 0x00 ∷ 0x00 ∷
    0x56 ∷ 0x02 ∷ 0x00 ∷ 0x01 ∷ 0x2B ∷ 0x03 ∷ 0x00 ∷ 0x00 ∷
    0x52 ∷ 0x00 ∷ 0x02 ∷ 0x04 ∷ 0x00 ∷ 0x22 ∷ 0x01 ∷ 0x30 ∷ 0x10 ∷
    0x52 ∷ 0x01 ∷ 0x02 ∷ 0x19 ∷ 0x00 ∷ 0x20 ∷ 0x21 ∷ 0x21 ∷ 0x14 ∷ 0x01 ∷ 0x22 ∷ 0x01 ∷ 0x30 ∷ 0x10 ∷ 0x12 ∷ 0x00 ∷ 0x00 ∷ 0x00 ∷ 0x00 ∷ 0x22 ∷ 0x02 ∷ 0x22 ∷ 0x00 ∷ 0x30 ∷ 0x10 ∷ 0x10 ∷ 0x22 ∷ 0x01 ∷ 0x30 ∷ 0x10 ∷
    0x5A ∷ []

-- the sheet of L12, "an attribute defined as itself": one attribute (Int, Unit parameter), one node
abbrev pub sheet_l12 : List ℕ
sheet_l12 = 0x41 ∷ 0x02 ∷ 0x00 ∷ 0x4E ∷ 0x00 ∷ 0x52 ∷ 0x00 ∷ 0x00 ∷ 0x04 ∷ 0x00 ∷ 0x22 ∷ 0x00 ∷ 0x30 ∷ 0x10 ∷ 0x5A ∷ []

-- "D stands for node 1's dial."
abbrev pub D : List ℕ
D = 0x22 ∷ 0x02 ∷ 0x13 ∷ 0x01 ∷ 0x00 ∷ 0x10 ∷ []

abbrev pub node2_dial : List ℕ
node2_dial = 0x22 ∷ 0x02 ∷ 0x13 ∷ 0x02 ∷ 0x00 ∷ 0x10 ∷ []

abbrev pub equal_dd : List ℕ
equal_dd = 0x21 ∷ 0x21 ∷ 0x14 ∷ 0x01 ∷ 0x22 ∷ 0x02 ∷ 0x13 ∷ 0x01 ∷ 0x00 ∷ 0x10 ∷ 0x22 ∷ 0x02 ∷ 0x13 ∷ 0x01 ∷ 0x00 ∷ 0x10 ∷ []

abbrev pub own_of_up : List ℕ
own_of_up = 0x22 ∷ 0x01 ∷ 0x22 ∷ 0x00 ∷ 0x13 ∷ 0x00 ∷ 0x00 ∷ 0x10 ∷ 0x10 ∷ []

abbrev pub five : List ℕ
five = 0x12 ∷ 0x05 ∷ 0x00 ∷ 0x00 ∷ 0x00 ∷ []

abbrev pub itself : List ℕ
itself = 0x22 ∷ 0x00 ∷ 0x13 ∷ 0x00 ∷ 0x00 ∷ 0x10 ∷ []

abbrev pub over_the_end : List ℕ
over_the_end = 0x21 ∷ 0x21 ∷ 0x14 ∷ 0x04 ∷ 0x12 ∷ 0xFF ∷ 0xFF ∷ 0xFF ∷ 0x7F ∷ 0x12 ∷ 0x01 ∷ 0x00 ∷ 0x00 ∷ 0x00 ∷ []

-- ---- The table

abbrev pub answer : ℕ → ℕ → ℕ → ℤ → ℕ → ℕ → Answer
answer number place type value steps kept =
    record { number = number; place = place; type = type; value = value; steps = steps; kept = kept }

-- A row: a sheet, the capacity of an empty store, questions put one after the other, and what they bring.
pub record Row : Type 0 where
  pub sheet : List ℕ
  pub capacity : ℕ
  pub calls : List Call
  pub brings : List Answer

abbrev pub row : List ℕ → ℕ → List Call → List Answer → Row
row sheet capacity calls brings = record { sheet = sheet; capacity = capacity; calls = calls; brings = brings }

-- "Empty store of 1,024 and budget 1,000,000 unless said."
abbrev pub table_l : List Row
table_l =
    -- L1 and L4: "D: 700, steps 8, kept 5"; "D again after L1: steps 1"
    row sheet_l 1024 (asking D 1000000 ∷ asking D 1000000 ∷ []) (answer 0 0 2 (pos 700) 8 5 ∷ answer 0 0 2 (pos 700) 1 5 ∷ []) ∷
    -- L2: "budget 7: 15, steps 7, kept 2"
    row sheet_l 1024 (asking D 7 ∷ []) (answer 15 0 0 (pos 0) 7 2 ∷ []) ∷
    -- L3: "budget 8: as L1"
    row sheet_l 1024 (asking D 8 ∷ []) (answer 0 0 2 (pos 700) 8 5 ∷ []) ∷
    -- L5: "node 2's dial alone: 811, steps 6, kept 2"
    row sheet_l 1024 (asking node2_dial 1000000 ∷ []) (answer 0 0 2 (pos 811) 6 2 ∷ []) ∷
    -- L6: "equal(D)(D): true in 11"
    row sheet_l 1024 (asking equal_dd 1000000 ∷ []) (answer 0 0 1 (pos 1) 11 5 ∷ []) ∷
    -- L7: "capacity 0: 18"
    row sheet_l 0 (asking equal_dd 1000000 ∷ []) (answer 0 0 1 (pos 1) 18 0 ∷ []) ∷
    -- L8: "capacity 4: 17"
    row sheet_l 4 (asking equal_dd 1000000 ∷ []) (answer 0 0 1 (pos 1) 17 4 ∷ []) ∷
    -- L9: "capacity 5: 11"
    row sheet_l 5 (asking equal_dd 1000000 ∷ []) (answer 0 0 1 (pos 1) 11 5 ∷ []) ∷
    -- L10: "own of (node 0's up): 14, steps 1, kept 1"
    row sheet_l 1024 (asking own_of_up 1000000 ∷ []) (answer 14 0 0 (pos 0) 1 1 ∷ []) ∷
    -- L11: "question Int 5, budget 0: 5, steps 0"
    row sheet_l 1024 (asking five 0 ∷ []) (answer 0 0 2 (pos 5) 0 0 ∷ []) ∷
    -- L12: "an attribute defined as itself" is a circle, "after 1 step when the budget is 1 or more" (F-9); with budget 0 it is 15
    row sheet_l12 1024 (asking itself 1000000 ∷ []) (answer 20 0 0 (pos 0) 1 0 ∷ []) ∷
    row sheet_l12 1024 (asking itself 1 ∷ []) (answer 20 0 0 (pos 0) 1 0 ∷ []) ∷
    row sheet_l12 1024 (asking itself 0 ∷ []) (answer 15 0 0 (pos 0) 0 0 ∷ []) ∷
    -- L13: add(2,147,483,647)(1) "now stops after 1 step" (F-4 of document 02)
    row sheet_l 1024 (asking over_the_end 1000000 ∷ []) (answer 17 0 0 (pos 0) 1 0 ∷ []) ∷
    -- "Empty sheet: 2 at 0. The single byte 0x5A is accepted."
    row [] 1024 (asking five 0 ∷ []) (answer 2 0 0 (pos 0) 0 0 ∷ []) ∷
    row (0x5A ∷ []) 1024 (asking five 0 ∷ []) (answer 0 0 2 (pos 5) 0 0 ∷ []) ∷
    []

-- L1 keeps "1.own, 1.up, 0.own, 0.dial, 1.dial in that order"
abbrev pub keeps : ℕ → ℕ → Value → Entry
keeps n a v = record { occurrence = record { node = n; attribute = a; parameter = unit }; value = v }

abbrev pub kept_l1 : List Entry
kept_l1 =
    keeps 1 1 (int (pos 0)) ∷ keeps 1 0 (node 0) ∷ keeps 0 1 (int (pos 700)) ∷ keeps 0 2 (int (pos 700)) ∷
    keeps 1 2 (int (pos 700)) ∷ []

abbrev pub brought : List Row → List (List Answer)
brought [] = []
brought (r ∷ l) = r.brings ∷ brought l

unfoldable pub bring : List Row → List (List Answer)
bring [] = []
bring (r ∷ l) = answers r.sheet (empty r.capacity) r.calls ∷ bring l

-- Sheet L's length, the table and the order of L1's entries, as one statement.
unfoldable pub TableL : Type 0
TableL =
    (length sheet_l ≡ 103)
    × (bring table_l ≡ brought table_l)
    × (take 60 (after_calls sheet_l (empty 1024) (asking D 1000000 ∷ [])).store ≡ entries_bytes kept_l1)

-- ---- Plain Saiga on the same bytes

-- The sheet's bytes and the question's are accepted, and plain Saiga on what they say comes to this ending.
unfoldable pub Plainly : List ℕ → List ℕ → (Sheet → Expr → Type 0) → Type 0
Plainly sheet question Ends =
    (s : Sheet) × (e : Expr) × (check_sheet sheet ≡ accepted s) × (check_question s question ≡ accepted e) × Ends s e

-- "D takes 8, L6 takes 18, L10 ends on null after 1, L12 runs for ever."
unfoldable pub PlainL : Type 0
PlainL =
    Plainly sheet_l D (λ s e. EndsWithValue (context s) (asked e) (int (pos 700)) 8)
    × Plainly sheet_l equal_dd (λ s e. EndsWithValue (context s) (asked e) (bool true) 18)
    × Plainly sheet_l own_of_up (λ s e. EndsWithout (context s) on_null (asked e) 1)
    × Plainly sheet_l12 itself (λ s e. RunsForEver (context s) (asked e))
