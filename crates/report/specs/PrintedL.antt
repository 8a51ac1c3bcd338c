-- What the report program prints for sheet L (document 01, "Sheet L and its questions").
use Rattle.std.specs.Prelude.{List, [], ◌∷◌, ◌++◌, ◌≡◌, ℕ}
use Rattle.saiga.specs.TableL.{sheet_l, D, node2_dial, own_of_up}
use Rattle.report.specs.Printed.{printed}

-- "For L and D, D, node 2's dial, L10 it prints exactly" four lines.
unfoldable pub questions_l : List ℕ
questions_l = (6 ∷ 0 ∷ D) ++ ((6 ∷ 0 ∷ D) ++ ((6 ∷ 0 ∷ node2_dial) ++ (9 ∷ 0 ∷ own_of_up)))

unfoldable pub lines_l : List ℕ
lines_l =
    -- 0 0 2 700 8 5
    48 ∷ 32 ∷ 48 ∷ 32 ∷ 50 ∷ 32 ∷ 55 ∷ 48 ∷ 48 ∷ 32 ∷ 56 ∷ 32 ∷ 53 ∷ 10 ∷
    -- 0 0 2 700 1 5
    48 ∷ 32 ∷ 48 ∷ 32 ∷ 50 ∷ 32 ∷ 55 ∷ 48 ∷ 48 ∷ 32 ∷ 49 ∷ 32 ∷ 53 ∷ 10 ∷
    -- 0 0 2 811 6 7
    48 ∷ 32 ∷ 48 ∷ 32 ∷ 50 ∷ 32 ∷ 56 ∷ 49 ∷ 49 ∷ 32 ∷ 54 ∷ 32 ∷ 55 ∷ 10 ∷
    -- 14 0 0 0 1 8
    49 ∷ 52 ∷ 32 ∷ 48 ∷ 32 ∷ 48 ∷ 32 ∷ 48 ∷ 32 ∷ 49 ∷ 32 ∷ 56 ∷ 10 ∷
    []

unfoldable pub PrintedL : Type 0
PrintedL = printed sheet_l questions_l ≡ lines_l
