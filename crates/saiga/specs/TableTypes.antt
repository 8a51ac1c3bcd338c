-- The type code of an entry: what CacheWrite writes, what passes, and dumps of the time when the fourth byte was zero (document 02, F-6).
use Rattle.std.specs.Prelude.{List, [], ◌∷◌, ◌++◌, ◌≡◌, ℕ, replicate, pos}
use Rattle.saiga.specs.Ask.{asking}
use Rattle.saiga.specs.TableL.{five}
use Rattle.saiga.specs.Rows.{unit_literal, whole, true_literal, false_literal, node_literal, attribute_of, rule-for, ends_with, an_int}
use Rattle.saiga.specs.TableStores.{Case, case, entry, refuses_lent, outcomes, expected}

-- Four attributes, one for each type, none with its result's type for parameter: 0 Unit with Bool, 1 Bool with Int, 2 Int with Node, 3 Node
-- with Unit. Node 0 has figures, and node 1, of kind 1, has rules: the Unit, and 1 of the others.
abbrev pub sheet_types : List ℕ
sheet_types =
    0x41 ∷ 0 ∷ 1 ∷
    0x41 ∷ 1 ∷ 2 ∷
    0x41 ∷ 2 ∷ 3 ∷
    0x41 ∷ 3 ∷ 0 ∷
    0x4E ∷ 0 ∷
    0x4E ∷ 1 ∷
    0x56 ∷ 0 ∷ 0 ∷ 0 ∷ 0 ∷ 0 ∷ 0 ∷ 0 ∷
    0x56 ∷ 0 ∷ 0 ∷ 1 ∷ 1 ∷ 0 ∷ 0 ∷ 0 ∷
    0x56 ∷ 0 ∷ 0 ∷ 2 ∷ 1 ∷ 0 ∷ 0 ∷ 0 ∷
    0x56 ∷ 0 ∷ 0 ∷ 3 ∷ 1 ∷ 0 ∷ 0 ∷ 0 ∷
    rule-for 1 0 unit_literal ++ rule-for 1 1 true_literal ++ rule-for 1 2 (whole 1) ++ rule-for 1 3 (node_literal 1) ++ 0x5A ∷ []

-- ---- "CacheWrite writes it"

-- Attribute t, of type t, is kept with the code t; its parameter here is 0 in four bytes.
abbrev pub keeps : ℕ → ℕ → List ℕ → ℕ → Case
keeps n t parameter v =
    case sheet_types (replicate 12 7) 0 (asking (attribute_of t (node_literal n) parameter) 1) (ends_with t (pos v) 1 1) (entry n t t 0 v)

abbrev pub kept_of : ℕ → List Case
kept_of n = keeps n 0 false_literal 0 ∷ keeps n 1 (whole 0) 1 ∷ keeps n 2 (node_literal 0) 1 ∷ keeps n 3 unit_literal 1 ∷ []

-- figures, and values of rules
abbrev pub written : List Case
written = kept_of 0 ++ kept_of 1

-- ---- "10 is given where it is not the attribute's result type"

-- a store that passes, and stays as it was
abbrev pub passes : List ℕ → ℕ → Case
passes store kept = case sheet_types store kept (asking five 0) (an_int (pos 5) 0 kept) store

abbrev pub refuses_codes : ℕ → List ℕ → List Case
refuses_codes a [] = []
refuses_codes a (c ∷ l) = refuses_lent sheet_types (entry 0 a c 0 0) 1 10 0 ∷ refuses_codes a l

abbrev pub checked : List Case
checked =
    passes (entry 0 0 0 0 0 ++ entry 0 1 1 0 0 ++ entry 0 2 2 0 0 ++ entry 0 3 3 0 0) 4 ∷
    refuses_codes 0 (1 ∷ 2 ∷ 3 ∷ 4 ∷ 255 ∷ [])
    ++ refuses_codes 1 (0 ∷ 2 ∷ 3 ∷ 4 ∷ 255 ∷ [])
    ++ refuses_codes 2 (0 ∷ 1 ∷ 3 ∷ 4 ∷ 255 ∷ [])
    ++ refuses_codes 3 (0 ∷ 1 ∷ 2 ∷ 4 ∷ 255 ∷ [])
    -- an undeclared attribute, whatever the byte
    ++ refuses_codes 4 (0 ∷ 1 ∷ 2 ∷ 3 ∷ 4 ∷ 255 ∷ [])

-- ---- Old dumps

-- an entry as it was written before: its fourth byte is zero
abbrev pub old : ℕ → ℕ → ℕ → ℕ → List ℕ
old n a p v = entry n a 0 p v

abbrev pub old_dumps : List Case
old_dumps =
    -- "Old dumps whose kept values are all of Unit type still pass": what they hold is taken, what is kept behind it has its type, and they
    -- are left as they were.
    case sheet_types (old 0 0 0 0 ++ old 1 0 1 0) 2 (asking (attribute_of 0 (node_literal 1) true_literal) 1) (ends_with 0 (pos 0) 1 2) (old 0 0 0 0 ++ old 1 0 1 0) ∷
    case sheet_types (old 0 0 0 0 ++ old 1 0 1 0 ++ replicate 12 7) 2 (asking (attribute_of 2 (node_literal 0) (node_literal 0)) 1) (an_int (pos 1) 1 3)
    (old 0 0 0 0 ++ old 1 0 1 0 ++ entry 0 2 2 0 1) ∷
    -- The first kept entry of another type is refused, with its number.
    refuses_lent sheet_types (old 0 1 0 0 ++ old 0 0 0 0) 2 10 0 ∷
    refuses_lent sheet_types (old 0 0 0 0 ++ old 0 2 0 0 ++ old 0 1 0 0) 3 10 1 ∷
    refuses_lent sheet_types (old 0 0 0 0 ++ old 1 0 1 0 ++ old 0 3 0 0) 3 10 2 ∷
    -- Where it stands past the kept entries it is not looked at; with kept 0 any bytes pass.
    passes (old 0 0 0 0 ++ old 0 1 0 0) 1 ∷
    passes (old 0 2 0 0 ++ old 0 3 0 0) 0 ∷
    passes (replicate 24 255) 0 ∷
    []

-- The tables, as one statement.
unfoldable pub TableTypes : Type 0
TableTypes =
    (outcomes written ≡ expected written)
    × (outcomes checked ≡ expected checked)
    × (outcomes old_dumps ≡ expected old_dumps)
