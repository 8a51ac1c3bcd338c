-- What holds of registers and lent memory from move to move of a run, and when it has ended.
use Rattle.std.specs.Prelude.{false, List, ◌≡◌, ℕ, ◌/◌, ◌≤◌, length}
use Rattle.saiga.specs.Limits.{entry_width}
use Rattle.saiga.specs.declared.Value.{Value}
use Rattle.saiga.specs.Sheet.{context}
use Rattle.saiga.specs.Caching.{Running, Counted, counts, Ending, Ended, due_at}
use Rattle.saiga.specs.Store.{left_store}
use Rattle.saiga.specs.Runs.{Runs}
use Rattle.engine.specs.Machine.{state_of}
use Rattle.engine.specs.Decode.{sheet_of}
use Rattle.engine.specs.Steps.{Memory}
use Rattle.engine.specs.declared.Registers.{Registers}
use Rattle.engine.specs.Represents.{machine_in, Represents}

-- A call was lent the store `first` with `lent` kept entries, and its run ends as `whole`. Registers and memory hold a machine on that
-- run, and the store holds the bytes that a call leaves which keeps what the machine keeps.
pub record Invariant (sheet index question : List ℕ) (budget : ℕ) (first : List ℕ) (lent : ℕ) (whole : Ended) (mem : Memory) (m : Registers)
    : Type 0 where
  pub represents : Represents sheet index question mem m
  pub runs : Runs (context (sheet_of sheet)) (length first / entry_width) budget (state_of (sheet_of sheet) (machine_in sheet question mem m)) whole
  pub left : mem.store ≡ left_store first lent (machine_in sheet question mem m).entries
  pub room : length mem.store ≡ length first
  pub lent_kept : lent ≤ m.kept
  pub within : m.steps ≤ budget

-- A counted step of Saiga is due where registers and memory stand.
pub record StepDue (sheet question : List ℕ) (capacity budget : ℕ) (mem : Memory) (m : Registers) : Type 0 where
  pub rule : Counted
  pub next : Running
  pub due : due_at (context (sheet_of sheet)) capacity budget (state_of (sheet_of sheet) (machine_in sheet question mem m)) ≡ counts rule next

-- The registers before a question's first byte. The value is not looked at.
abbrev pub started : List ℕ → ℕ → Value → Registers
started question kept any =
    record { returning = false; at = 0; end = length question; frames = 0; forms = 0; kept = kept; steps = 0; value = any }

-- The run has ended so, and registers and memory have what it leaves.
pub record Final (first : List ℕ) (lent : ℕ) (whole : Ended) (ending : Ending) (mem : Memory) (m : Registers) : Type 0 where
  pub ending_is : whole.ending ≡ ending
  pub steps_are : whole.steps ≡ m.steps
  pub kept_are : length whole.entries ≡ m.kept
  pub store_is : mem.store ≡ left_store first lent whole.entries
