-- The running piece of bytes (document 01, "The sheet": "the running expression lies in the sheet or in the question").
use Rattle.std.specs.Prelude.{List, ℕ, zero, suc, ◌-◌, take, drop}

-- "At any moment the running expression lies in the sheet or in the question": in the question while no form is open.
unfoldable pub piece_in : List ℕ → List ℕ → ℕ → List ℕ
piece_in sheet question zero = question
piece_in sheet question (suc forms) = sheet

unfoldable pub rest_of : List ℕ → List ℕ → ℕ → ℕ → ℕ → List ℕ
rest_of sheet question forms at end = take (end - at) (drop at (piece_in sheet question forms))
