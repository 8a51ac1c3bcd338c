-- The store, every byte: what a call keeps and in what order, and stops 9 and 10 (document 01, "The steps" and "Stops by origin").
-- TableTypes.antt has more of an entry's type code.
use Rattle.std.specs.Prelude.{List, [], ◌∷◌, ◌++◌, ◌≡◌, ℕ, replicate, ℤ, pos, negsuc}
use Rattle.saiga.specs.Ask.{Lent, lent, Call, asking, Answer, Outcome, ask}
use Rattle.saiga.specs.TableL.{sheet_l, D, five, answer}
use Rattle.saiga.specs.Rows.{times, unit_literal, whole, minus_one, null_literal, node_literal, two, attribute_of, rule-for, the_parameter, ends_with, an_int, stop}
use Rattle.saiga.specs.Misreadings.{sheet_p, next}
use Rattle.saiga.specs.TableStops.{front, sheet_f}

-- A case: a sheet, what is lent, a question with its budget, and what it brings: its answer and the bytes of the store.
pub record Case : Type 0 where
  pub sheet : List ℕ
  pub lent : Lent
  pub asked : Call
  pub brings : Answer × List ℕ

abbrev pub case : List ℕ → List ℕ → ℕ → Call → Answer → List ℕ → Case
case sheet store kept asked answer left =
    record { sheet = sheet; lent = lent store kept; asked = asked; brings = (answer, left) }

-- An entry: node (2), attribute (1), the type code of its value (1), parameter (4), value (4), each number below 256.
abbrev pub entry : ℕ → ℕ → ℕ → ℕ → ℕ → List ℕ
entry n a t p v = n ∷ 0 ∷ a ∷ t ∷ p ∷ 0 ∷ 0 ∷ 0 ∷ v ∷ 0 ∷ 0 ∷ 0 ∷ []

-- One attribute, echo, Node with Node parameter, and so many nodes, all of kind 0: echo is the parameter.
abbrev pub sheet_echo : ℕ → List ℕ
sheet_echo nodes = 0x41 ∷ 3 ∷ 3 ∷ times nodes (0x4E ∷ 0 ∷ []) ++ rule-for 0 0 the_parameter ++ 0x5A ∷ []

abbrev pub echo : List ℕ → List ℕ → List ℕ
echo n x = attribute_of 0 n x

abbrev pub a_node : ℕ → ℕ → ℕ → Answer
a_node n steps kept = ends_with 3 (pos n) steps kept

-- ---- What a call keeps

abbrev pub stores : List Case
stores =
    -- A question that stops leaves what was finished, 1.own and 1.up, nothing of what was open, and the bytes behind.
    case sheet_l (replicate 36 7) 0 (asking D 7) (stop 15 7 2) (entry 1 1 2 0 0 ++ entry 1 0 3 0 0 ++ replicate 12 7) ∷
    -- Taken up again, it keeps 0.own where there is room, and then nothing more.
    case sheet_l (entry 1 1 2 0 0 ++ entry 1 0 3 0 0 ++ replicate 12 7) 2 (asking D 1000000) (an_int (pos 700) 8 3)
    (entry 1 1 2 0 0 ++ entry 1 0 3 0 0 ++ 0 ∷ 0 ∷ 1 ∷ 2 ∷ 0 ∷ 0 ∷ 0 ∷ 0 ∷ 0xBC ∷ 2 ∷ 0 ∷ 0 ∷ []) ∷
    -- A full store is left as it was. add(next(3))(add(next(4))(next(3))) takes the last from it: 3 + 1, 3 + 1, 1, and two AppApp.
    case sheet_p (entry 0 0 2 3 4) 1 (asking (next (whole 4)) 1000000) (an_int (pos 5) 3 1) (entry 0 0 2 3 4) ∷
    case sheet_p (replicate 12 0) 0 (asking (two 4 (next (whole 3)) (two 4 (next (whole 4)) (next (whole 3)))) 1000000) (an_int (pos 13) 11 1)
    (entry 0 0 2 3 4) ∷
    -- A kept value is taken, right or wrong; bytes that are not kept are none.
    case sheet_p (entry 0 0 2 3 100) 1 (asking (next (whole 3)) 1000000) (an_int (pos 100) 1 1) (entry 0 0 2 3 100) ∷
    case sheet_p (entry 0 0 2 3 100) 0 (asking (next (whole 3)) 1000000) (an_int (pos 4) 3 1) (entry 0 0 2 3 4) ∷
    -- "Left part before right part": subtract(next(3))(next(4)).
    case sheet_p (replicate 24 0) 0 (asking (two 5 (next (whole 3)) (next (whole 4))) 1000000) (an_int (negsuc 0) 8 2)
    (entry 0 0 2 3 4 ++ entry 0 0 2 4 5) ∷
    -- And node part before parameter part: echo of 0.echo(1) with 0.echo(0).
    case (sheet_echo 2) (replicate 36 0) 0 (asking (echo (echo (node_literal 0) (node_literal 1)) (echo (node_literal 0) (node_literal 0))) 1000000)
    (a_node 0 3 3) (entry 0 0 3 1 1 ++ entry 0 0 3 0 0 ++ entry 1 0 3 0 0) ∷
    -- next(−1) is 0: two's complement.
    case sheet_p (replicate 12 0) 0 (asking (next minus_one) 1000000) (an_int (pos 0) 3 1)
    (0 ∷ 0 ∷ 0 ∷ 2 ∷ 0xFF ∷ 0xFF ∷ 0xFF ∷ 0xFF ∷ 0 ∷ 0 ∷ 0 ∷ 0 ∷ []) ∷
    []

-- 0.echo(0) kept as null, and 0.echo(null) as 1
abbrev pub null_kept : List ℕ
null_kept =
    0 ∷ 0 ∷ 0 ∷ 3 ∷ 0 ∷ 0 ∷ 0 ∷ 0 ∷ 0xFF ∷ 0xFF ∷ 0 ∷ 0 ∷
    0 ∷ 0 ∷ 0 ∷ 3 ∷ 0xFF ∷ 0xFF ∷ 0 ∷ 0 ∷ 1 ∷ 0 ∷ 0 ∷ 0 ∷ []

-- 1.echo(0) kept as 0, and 257.echo(0) as 256
abbrev pub wide_kept : List ℕ
wide_kept =
    1 ∷ 0 ∷ 0 ∷ 3 ∷ 0 ∷ 0 ∷ 0 ∷ 0 ∷ 0 ∷ 0 ∷ 0 ∷ 0 ∷
    1 ∷ 1 ∷ 0 ∷ 3 ∷ 0 ∷ 0 ∷ 0 ∷ 0 ∷ 0 ∷ 1 ∷ 0 ∷ 0 ∷ []

-- "Node its declared number, or 65,535 for null", and an entry's "node (2)".
abbrev pub node_entries : List Case
node_entries =
    -- Null as parameter and as value, FF FF 00 00: 0.echo(null).
    case (sheet_echo 2) (replicate 12 7) 0 (asking (echo (node_literal 0) null_literal) 1000000) (a_node 65535 1 1)
    (0 ∷ 0 ∷ 0 ∷ 3 ∷ 0xFF ∷ 0xFF ∷ 0 ∷ 0 ∷ 0xFF ∷ 0xFF ∷ 0 ∷ 0 ∷ []) ∷
    -- "AttrApp takes a kept value before σ", where value and parameter are null too: 0.echo(0.echo(0)).
    case (sheet_echo 2) null_kept 2 (asking (echo (node_literal 0) (echo (node_literal 0) (node_literal 0))) 1000000) (a_node 1 2 2) null_kept ∷
    -- Node 257 is 01 01, and node 256, a value, 00 01 00 00: 257.echo(256).
    case (sheet_echo 258) (replicate 12 7) 0 (asking (echo (0x13 ∷ 1 ∷ 1 ∷ []) (0x13 ∷ 0 ∷ 1 ∷ [])) 1000000) (a_node 256 1 1)
    (1 ∷ 1 ∷ 0 ∷ 3 ∷ 0 ∷ 1 ∷ 0 ∷ 0 ∷ 0 ∷ 1 ∷ 0 ∷ 0 ∷ []) ∷
    -- 257.echo(0) is another occurrence than 1.echo(0), kept before it, and its own value is taken.
    case (sheet_echo 258) wide_kept 2 (asking (echo (0x13 ∷ 1 ∷ 1 ∷ []) (node_literal 0)) 1000000) (a_node 256 1 2) wide_kept ∷
    []

-- ---- Ints

-- Attributes own (0, Int with Unit parameter) and echo (1, Int with Int parameter), and one node: own is a figure of four bytes, echo is the
-- parameter.
abbrev pub sheet_int : List ℕ → List ℕ
sheet_int own = 0x41 ∷ 2 ∷ 0 ∷ 0x41 ∷ 2 ∷ 2 ∷ 0x4E ∷ 0 ∷ (0x56 ∷ 0 ∷ 0 ∷ 0 ∷ own) ++ rule-for 0 1 the_parameter ++ 0x5A ∷ []

abbrev pub echo_int : List ℕ → List ℕ
echo_int x = attribute_of 1 (node_literal 0) x

abbrev pub int_kept : List ℕ → List ℕ → List ℕ
int_kept x v = 0 ∷ 0 ∷ 1 ∷ 2 ∷ x ++ v

abbrev pub five_kept : List ℕ → List ℕ
five_kept v = int_kept (5 ∷ 0 ∷ 0 ∷ 0 ∷ []) v

-- Four bytes that are read as an Int: the operand of an expression, a figure, a parameter (which is kept with the value that it is), and the
-- value of an entry, here of echo(5).
abbrev pub reads_as : List ℕ → ℤ → List Case
reads_as u z =
    case (sheet_int u) [] 0 (asking (0x12 ∷ u) 0) (an_int z 0 0) [] ∷
    case (sheet_int u) [] 0 (asking (attribute_of 0 (node_literal 0) unit_literal) 1) (an_int z 1 0) [] ∷
    case (sheet_int u) (replicate 12 7) 0 (asking (echo_int (0x12 ∷ u)) 1) (an_int z 1 1) (int_kept u u) ∷
    case (sheet_int u) (five_kept u) 1 (asking (echo_int five) 1) (an_int z 1 1) (five_kept u) ∷
    []

-- The four ends of a number of four bytes: 0, 2,147,483,647, 2,147,483,648 and 4,294,967,295.
abbrev pub int_ends : List Case
int_ends =
    reads_as (0 ∷ 0 ∷ 0 ∷ 0 ∷ []) (pos 0)
    ++ reads_as (0xFF ∷ 0xFF ∷ 0xFF ∷ 0x7F ∷ []) (pos 2147483647)
    ++ reads_as (0 ∷ 0 ∷ 0 ∷ 0x80 ∷ []) (negsuc 2147483647)
    ++ reads_as (0xFF ∷ 0xFF ∷ 0xFF ∷ 0xFF ∷ []) (negsuc 0)

-- ---- The stops of the store

-- "kept and store are as lent"
abbrev pub refuses_lent : List ℕ → List ℕ → ℕ → ℕ → ℕ → Case
refuses_lent sheet store kept number place = case sheet store kept (asking [] 1000001) (answer number place 0 (pos 0) 0 kept) store

abbrev pub refuses_store : List ℕ → ℕ → ℕ → ℕ → Case
refuses_store store kept number place = refuses_lent sheet_f store kept number place

abbrev pub lent_stores : List Case
lent_stores =
    -- 9, before 11
    refuses_store (replicate 16 0) 0 9 0 ∷
    refuses_store (replicate 18 0) 0 9 0 ∷
    refuses_store (replicate 12300 0) 0 9 0 ∷
    refuses_store (entry 0 0 2 3 4) 2 9 0 ∷
    -- 10, before 11: node (1, and 256), attribute, type code, "bytes that are no value of the type" as parameter and value, Unit and
    -- Bool, then Node, and an occurrence kept before
    refuses_store (entry 1 0 2 3 4) 1 10 0 ∷
    refuses_store (0 ∷ 1 ∷ 0 ∷ 2 ∷ 3 ∷ 0 ∷ 0 ∷ 0 ∷ 4 ∷ 0 ∷ 0 ∷ 0 ∷ []) 1 10 0 ∷
    refuses_store (entry 0 0 2 3 4 ++ entry 0 2 0 0 0) 2 10 1 ∷
    refuses_store (entry 0 0 1 3 4) 1 10 0 ∷
    refuses_store (entry 0 1 1 1 1) 1 10 0 ∷
    refuses_store (entry 0 1 1 0 2) 1 10 0 ∷
    refuses_lent (sheet_echo 2) (entry 0 0 3 2 0) 1 10 0 ∷
    refuses_lent (sheet_echo 2) (entry 0 0 3 0 2) 1 10 0 ∷
    refuses_lent (sheet_echo 2) (0 ∷ 0 ∷ 0 ∷ 3 ∷ 0xFF ∷ 0xFF ∷ 1 ∷ 0 ∷ 0 ∷ 0 ∷ 0 ∷ 0 ∷ []) 1 10 0 ∷
    refuses_store (entry 0 0 2 3 4 ++ entry 0 0 2 4 4 ++ entry 0 0 2 3 5) 3 10 2 ∷
    -- 8 before 9
    case (front ++ 0x5A ∷ []) (replicate 16 7) 1 (asking [] 1000001) (answer 8 0 0 (pos 0) 0 1) (replicate 16 7) ∷
    -- accepted: another parameter is another occurrence, and an entry past the kept ones is not looked at
    case sheet_f (entry 0 0 2 3 4 ++ entry 0 0 2 4 4 ++ entry 1 2 4 1 2) 2 (asking five 0) (an_int (pos 5) 0 2)
    (entry 0 0 2 3 4 ++ entry 0 0 2 4 4 ++ entry 1 2 4 1 2) ∷
    []

abbrev pub answer_and_store : Outcome → Answer × List ℕ
answer_and_store o = (o.answer, o.store)

unfoldable pub outcomes : List Case → List (Answer × List ℕ)
outcomes [] = []
outcomes (c ∷ l) = answer_and_store (ask c.sheet c.lent c.asked) ∷ outcomes l

abbrev pub expected : List Case → List (Answer × List ℕ)
expected [] = []
expected (c ∷ l) = c.brings ∷ expected l

-- The tables, as one statement.
unfoldable pub TableStores : Type 0
TableStores =
    (outcomes stores ≡ expected stores)
    × (outcomes node_entries ≡ expected node_entries)
    × (outcomes int_ends ≡ expected int_ends)
    × (outcomes lent_stores ≡ expected lent_stores)
