-- The tally of a run under way (F-2 of document 02): the row of the step that is due, and what the rows stand for.
use Rattle.std.specs.Prelude.{cond, List, ◌≡◌, ℕ, ◌+◌, ◌-◌, ◌/◌, ◌≤◌, ◌<◌, eqb, length, get_or, set}
use Rattle.std.specs.Prelude.{Option, None as none, Some as some, Result, Ok, Err}
use Rattle.saiga.specs.Limits.{entry_width, tally_rows, applications_row, conditions_row}
use Rattle.saiga.specs.Sheet.{context}
use Rattle.saiga.specs.Caching.{Counted}
use Rattle.saiga.specs.Runs.{Traces}
use Rattle.saiga.specs.Tally.{steps_in}
use Rattle.engine.specs.FrameWords.{kind_of, form_kind}
use Rattle.engine.specs.Machine.{Frame, on_if, on_left, on_skip, on_right, on_node, on_parameter, on_forward, on_form, state_of}
use Rattle.engine.specs.Decode.{sheet_of, plain_frame}
use Rattle.engine.specs.Steps.{Memory}
use Rattle.engine.specs.Represents.{machine_in}
use Rattle.engine.specs.declared.Registers.{Registers}
use Rattle.engine.specs.declared.Halt.{Halt}

-- ---- The row of the step that is due

-- A frame that is given its value takes a counted step, or none.
unfoldable pub frame_row : Frame → Option ℕ
frame_row on_if = some conditions_row
frame_row on_left = none
frame_row on_skip = none
frame_row (on_right v) = some applications_row
frame_row (on_node a) = none
frame_row (on_parameter v a) = some a
frame_row (on_forward a) = none
frame_row (on_form o rest) = none

-- the frame of a word
unfoldable pub word_row : ℕ → Option ℕ
word_row w = cond (eqb (kind_of w) form_kind) none (frame_row (plain_frame w))

-- the innermost frame, where a value is given to it
unfoldable pub due_row : Memory → Registers → Option ℕ
due_row mem m = cond m.returning (cond (eqb m.frames 0) none (word_row (get_or mem.words (m.frames - 1) 0))) none

-- ---- The rows

unfoldable pub counted_in : Option ℕ → List ℕ → List ℕ
counted_in none rows = rows
counted_in (some i) rows = set rows i (get_or rows i 0 + 1)

-- The rows after a move of the code: a step that is not taken is in none.
unfoldable pub rows_after : Result Registers Halt → Option ℕ → List ℕ → List ℕ
rows_after (Ok m) row rows = counted_in row rows
rows_after (Err h) row rows = rows

-- The rows of a tally, none of which is larger than the bound.
pub record RowsWithin (bound : ℕ) (rows : List ℕ) : Type 0 where
  pub size : length rows ≡ tally_rows
  pub few : (i : ℕ) → get_or rows i 0 ≤ bound

-- What the rows count, and the steps that are still to come, are all the steps of the run.
pub record Tallied (sheet question : List ℕ) (budget : ℕ) (all : List Counted) (rows : List ℕ) (mem : Memory) (m : Registers) : Type 0 where
  pub rest : List Counted
  pub traces : Traces (context (sheet_of sheet)) (length mem.store / entry_width) budget (state_of (sheet_of sheet) (machine_in sheet question mem m)) rest
  pub together : (i : ℕ) → i < tally_rows → get_or rows i 0 + steps_in i rest ≡ steps_in i all
