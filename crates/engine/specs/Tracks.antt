-- Where a run stands in what the sheet's check has noted: what is left of each piece that runs inside a form is a row of noted expressions.
use Rattle.std.specs.Prelude.{List, ℕ, zero, suc, ◌+◌, ◌*◌, ◌-◌, ◌≤◌, ◌<◌, length, take, drop, get_or}
use Rattle.expressions.specs.Noted.{Noted}
use Rattle.sheets.specs.Notes.{PiecesNoted}
use Rattle.engine.specs.Steps.{Memory}
use Rattle.engine.specs.declared.Registers.{Registers}

-- The rest of the piece that runs inside so many forms. The question, which runs inside none, has no notes.
abbrev pub NotedIn : List ℕ → List ℕ → ℕ → ℕ → ℕ → Type 0
NotedIn sheet notes zero at end = Unit {0}
NotedIn sheet notes (suc forms) at end = Noted (take (end - at) (drop at sheet)) (drop at notes) (end - at)

-- The rules and forwards are noted; so is the rest of the running piece, and of each piece around it, from the place where its form's numbers say that it goes on.
pub record Tracks (sheet index notes : List ℕ) (mem : Memory) (m : Registers) : Type 0 where
  pub pieces : PiecesNoted sheet index notes
  pub size : length sheet ≤ length notes
  pub here : NotedIn sheet notes m.forms m.at m.end
  pub around : (k : ℕ) → k < m.forms → NotedIn sheet notes k (get_or mem.forms (4 * k + 2) 0) (get_or mem.forms (4 * k + 3) 0)
