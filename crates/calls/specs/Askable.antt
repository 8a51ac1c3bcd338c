-- What a question call's run needs, and what a question call leaves in its scratch (document 01, "Contracts": scratch is "named in it with what holds
-- of" it).
use Rattle.std.specs.Prelude.{List, ◌≡◌, ℕ, length}
use Rattle.saiga.specs.Sheet.{Checked, refused◌at_place◌, accepted}
use Rattle.saiga.specs.Ask.{lent, asking, AcceptedCall, check_call}
use Rattle.sheets.specs.Scan.{Indexed}
use Rattle.stores.specs.Keys.{Linked}
use Rattle.engine.specs.Decode.{run_size}
use Rattle.calls.specs.Prepared.{NotedSheet}

-- An accepted call, with its indexes and notes, and memory for its run.
pub record Askable (sheet index notes question store links memory : List ℕ) (kept budget : ℕ) : Type 0 where
  pub call : AcceptedCall
  pub accepts : check_call sheet (lent store kept) (asking question budget) ≡ accepted call
  pub index_of : Indexed sheet call.sheet index
  pub noted : NotedSheet sheet index notes
  pub linked : Linked store kept links
  pub memory_length : length memory ≡ run_size

-- The run's memory, as lent and as left by a call with this outcome of its checks. Its length stays; a refused call leaves what was lent; what a run
-- leaves is free.
pub record RunScratch (checked : Checked AcceptedCall) (memory memory' : List ℕ) : Type 0 where
  pub memory_length : length memory' ≡ run_size
  pub as_lent : (number place : ℕ) → checked ≡ refused number at_place place → memory' ≡ memory
