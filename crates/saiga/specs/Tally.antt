-- Where the steps went (F-2 of document 02): the rules of the steps that a run counts, and the tally of them.
use Rattle.std.specs.Prelude.{Bool, ◌&&◌, List, [], ◌∷◌, ℕ, zero, suc, ◌+◌, eqb, ltb}
use Rattle.std.proofs.Math.Bool as Bool
use Rattle.saiga.specs.Limits.{attribute_limit, tally_rows, applications_row, conditions_row}
use Rattle.saiga.specs.Expressions.{Expr}
use Rattle.saiga.specs.Caching.{write, Counted, CondTrue, CondFalse, AppApp, AttrApp, finished, counts, writes, halts, State, due_at}

-- ---- The steps of a run

module _ (context : ℕ → ℕ → Expr) (capacity budget : ℕ) where
  -- The rules of the steps that `run` counts, in their order: it goes through the same states.
  unfoldable pub trace : ℕ → State → List Counted
  trace zero st = []
  trace (suc k) st =
      elim (due_at context capacity budget st) [
        | finished v ↦ []
        | counts r t ↦ r ∷ trace k record { term = t; entries = st.entries; steps = suc st.steps }
        | writes e t ↦ trace k record { term = t; entries = write capacity st.entries e; steps = st.steps }
        | halts reason ↦ []
      ]

-- ---- The rows

-- "the AttrApp steps for each of the 32 attribute numbers, the AppApp steps, and CondTrue with CondFalse together"
unfoldable pub in_row : ℕ → Counted → Bool
in_row i (AttrApp a) = ltb i attribute_limit && eqb i a
in_row i AppApp = eqb i applications_row
in_row i CondTrue = eqb i conditions_row
in_row i CondFalse = eqb i conditions_row

unfoldable pub steps_in : ℕ → List Counted → ℕ
steps_in i [] = 0
steps_in i (r ∷ l) = Bool.cond (in_row i r) (suc (steps_in i l)) (steps_in i l)

-- so many rows, from row i on
unfoldable pub rows_from : ℕ → ℕ → List Counted → List ℕ
rows_from i zero l = []
rows_from i (suc n) l = steps_in i l ∷ rows_from (suc i) n l

unfoldable pub tally : List Counted → List ℕ
tally l = rows_from 0 tally_rows l

-- what rows add up to
unfoldable pub total : List ℕ → ℕ
total [] = 0
total (n ∷ l) = n + total l
