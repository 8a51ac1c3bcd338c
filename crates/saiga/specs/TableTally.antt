-- The tallies of L1 to L13, and of what they do not tell apart (F-2 of document 02).
use Rattle.std.specs.Prelude.{List, [], ◌∷◌, ◌++◌, ◌≡◌, ℕ, zero, suc, replicate}
use Rattle.saiga.specs.Ask.{Lent, Call, asking, ask}
use Rattle.saiga.specs.Calls.{empty, leaves}
use Rattle.saiga.specs.TableL.{sheet_l, sheet_l12, D, node2_dial, equal_dd, own_of_up, five, itself, over_the_end}
use Rattle.saiga.specs.Rows.{times, unit_literal, whole, true_literal, false_literal, node_literal, null_literal, one, two, if_then_else, attribute_of, rule-for}

-- ---- Rows

-- the tallies of questions that are put one after the other
unfoldable pub tallies : List ℕ → Lent → List Call → List (List ℕ)
tallies sheet m [] = []
tallies sheet m (c ∷ l) = (ask sheet m c).tally ∷ tallies sheet (leaves (ask sheet m c)) l

-- A row: a sheet, the capacity of an empty store, questions put one after the other, and the tally of each.
pub record Row : Type 0 where
  pub sheet : List ℕ
  pub capacity : ℕ
  pub calls : List Call
  pub tallied : List (List ℕ)

abbrev pub row : List ℕ → ℕ → List Call → List (List ℕ) → Row
row sheet capacity calls tallied = record { sheet = sheet; capacity = capacity; calls = calls; tallied = tallied }

abbrev pub asks : List ℕ → ℕ → List ℕ → ℕ → List ℕ → Row
asks sheet capacity question budget tally = row sheet capacity (asking question budget ∷ []) (tally ∷ [])

-- The steps of the first three attributes, the applications and the conditions; no other attribute has any.
abbrev pub first_three : ℕ → ℕ → ℕ → ℕ → ℕ → List ℕ
first_three a b c applications conditions = a ∷ b ∷ c ∷ replicate 29 0 ++ applications ∷ conditions ∷ []

abbrev pub no_steps : List ℕ
no_steps = replicate 34 0

-- ---- L1 to L13: sheet L's attributes are up, own and dial

abbrev pub tallies_L : List Row
tallies_L =
    -- L1 and L4: dial of 1, own of 1, equal's two AppApp, CondTrue, up of 1, dial of 0, own of 0; then the kept dial of 1
    row sheet_l 1024 (asking D 1000000 ∷ asking D 1000000 ∷ []) (first_three 1 2 2 2 1 ∷ first_three 0 0 1 0 0 ∷ []) ∷
    -- L2: all but the last
    asks sheet_l 1024 D 7 (first_three 1 1 2 2 1) ∷
    -- L3
    asks sheet_l 1024 D 8 (first_three 1 2 2 2 1) ∷
    -- L5: own of 2 is taken twice, once as a figure and once kept
    asks sheet_l 1024 node2_dial 1000000 (first_three 0 2 1 2 1) ∷
    -- L6: L1, L4 and two AppApp
    asks sheet_l 1024 equal_dd 1000000 (first_three 1 2 3 4 1) ∷
    -- L7: L1 twice and two AppApp
    asks sheet_l 0 equal_dd 1000000 (first_three 2 4 4 6 2) ∷
    -- L8: the second time, dial of 1 is not kept, and own of 1, up of 1 and dial of 0 are
    asks sheet_l 4 equal_dd 1000000 (first_three 2 3 4 6 2) ∷
    -- L9
    asks sheet_l 5 equal_dd 1000000 (first_three 1 2 3 4 1) ∷
    -- L10: own of null is not taken
    asks sheet_l 1024 own_of_up 1000000 (first_three 1 0 0 0 0) ∷
    -- L11
    asks sheet_l 1024 five 0 no_steps ∷
    -- L12
    asks sheet_l12 1024 itself 1000000 (first_three 1 0 0 0 0) ∷
    asks sheet_l12 1024 itself 0 no_steps ∷
    -- L13: the first application
    asks sheet_l 1024 over_the_end 1000000 (first_three 0 0 0 1 0) ∷
    []

-- ---- Others

-- so many rules for kind 0, from attribute a on, each the Int 7
abbrev pub sevens : ℕ → ℕ → List ℕ
sevens a zero = []
sevens a (suc n) = rule-for 0 a (whole 7) ++ sevens (suc a) n

-- 32 attributes, all Int with Unit parameter, and one node: each is 7.
abbrev pub sheet32 : List ℕ
sheet32 = times 32 (0x41 ∷ 2 ∷ 0 ∷ []) ++ 0x4E ∷ 0 ∷ sevens 0 32 ++ 0x5A ∷ []

abbrev pub attribute32 : ℕ → List ℕ
attribute32 a = attribute_of a (node_literal 0) unit_literal

abbrev pub others : List Row
others =
    -- The last attribute has the row before the applications.
    asks sheet32 1 (two 4 (attribute32 31) (two 4 (attribute32 31) (attribute32 30))) 1000000 (replicate 30 0 ++ 1 ∷ 2 ∷ 4 ∷ 0 ∷ []) ∷
    asks sheet32 0 (attribute32 0) 1000000 (first_three 1 0 0 0 0) ∷
    -- A function of one argument makes one AppApp, of two two; CondTrue and CondFalse have one row.
    asks (0x5A ∷ []) 0 (one 3 true_literal) 1000000 (first_three 0 0 0 1 0) ∷
    asks (0x5A ∷ []) 0 (two 0 (whole 4) (whole 5)) 1000000 (first_three 0 0 0 2 0) ∷
    asks (0x5A ∷ []) 0 (if_then_else true_literal (if_then_else false_literal (whole 1) (if_then_else (one 3 true_literal) (whole 2) (whole 3))) (whole 4)) 1000000
    (first_three 0 0 0 1 3) ∷
    -- "Stops 14 to 16 bring the tally so far": the step that is due is in no row.
    asks sheet_l 1 (attribute_of 1 null_literal (if_then_else true_literal unit_literal unit_literal)) 1000000 (first_three 0 0 0 0 1) ∷
    asks (0x5A ∷ []) 0 (two 4 (whole 1) (whole 2)) 1 (first_three 0 0 0 1 0) ∷
    asks (0x5A ∷ []) 0 (if_then_else (one 3 true_literal) (whole 1) (whole 2)) 1 (first_three 0 0 0 1 0) ∷
    -- 17 "leaves .. tally as 14 does" (F-4): after add(own of 2)(1), add(that) with a sum that does not fit.
    asks sheet_l 1 (two 4 (two 4 (attribute_of 1 (node_literal 2) unit_literal) (whole 1)) over_the_end) 1000000 (first_three 0 1 0 4 0) ∷
    asks sheet_l 1 (two 4 (two 4 (attribute_of 1 (node_literal 2) unit_literal) (whole 1)) over_the_end) 5 (first_three 0 1 0 4 0) ∷
    -- "1 to 13 bring zeros": a sheet without an end, a store too long, a budget too large after a question that kept figures, a question of no
    -- form, and one of a function's type.
    asks [] 0 five 0 no_steps ∷
    asks sheet_l 1025 D 1000000 no_steps ∷
    row sheet_l 1024 (asking D 1000000 ∷ asking D 1000001 ∷ []) (first_three 1 2 2 2 1 ∷ no_steps ∷ []) ∷
    asks sheet_l 0 [] 1000000 no_steps ∷
    asks sheet_l 0 (0x14 ∷ 4 ∷ []) 1000000 no_steps ∷
    []

abbrev pub expected : List Row → List (List (List ℕ))
expected [] = []
expected (r ∷ l) = r.tallied ∷ expected l

unfoldable pub brought : List Row → List (List (List ℕ))
brought [] = []
brought (r ∷ l) = tallies r.sheet (empty r.capacity) r.calls ∷ brought l

-- The tables, as one statement.
unfoldable pub TableTally : Type 0
TableTally = (brought tallies_L ≡ expected tallies_L) × (brought others ≡ expected others)
