-- What a move and a run of the code rely on and come to, by the move on registers and memory (Steps.antt of crate engine) and by what holds from
-- move to move (Loop.antt there).
use Rattle.std.specs.Prelude.{true, List, ◌≡◌, ℕ, suc, ◌/◌, ◌≤◌, ◌<◌, length, Result, Ok}
use Rattle.saiga.specs.Limits.{entry_width, expression_limit, budget_limit}
use Rattle.saiga.specs.Caching.{Counted, with_value, Reason, by, Ended}
use Rattle.saiga.specs.Tally.{tally}
use Rattle.saiga.specs.Ask.{reason_number}
use Rattle.saiga.specs.Stops.{stop_number}
use Rattle.expressions.specs.Noted.{WidthOf}
use Rattle.engine.specs.RunningPiece.{rest_of}
use Rattle.stores.specs.Keys.{Linked}
use Rattle.engine.specs.declared.Registers.{Registers}
use Rattle.engine.specs.Steps.{Memory, give, step_of}
use Rattle.engine.specs.Represents.{Represents, PacksIn}
use Rattle.engine.specs.Decode.{forms_in, opens_in}
use Rattle.engine.specs.Ready.{memory_of}
use Rattle.engine.specs.Loop.{Invariant, StepDue, Final}
use Rattle.engine.specs.Tracks.{Tracks}
use Rattle.engine.specs.Tallied.{RowsWithin, Tallied}
use Rattle.engine.specs.declared.Halt.{Halt}
use Rattle.engine.specs.declared.Halt.TheVariants.{Waits, Finishes, Stops}
use Rattle.engine.specs.CodeSteps.{stepped_of, kept_after, forms_after, Still}
use Rattle.opens.specs.Opened.{Opened}
use Rattle.runs.specs.declared.RunEnd.{RunEnd}

-- ---- A move

-- Registers and memory hold a machine that stands on what is noted of the sheet, the store and the open forms are indexed, and the question is of its
-- length.
pub record MoveReady (sheet index notes question : List ℕ) (store links run : List ℕ) (m : Registers) : Type 0 where
  pub represents : Represents sheet index question (memory_of store run) m
  pub tracks : Tracks sheet index notes (memory_of store run) m
  pub linked : Linked store m.kept links
  pub opened : Opened (forms_in run) (opens_in run) m.forms
  pub short : length question ≤ expression_limit

-- And a value is given to the innermost frame.
pub record GiveReady (sheet index notes question : List ℕ) (store links run : List ℕ) (m : Registers) : Type 0 where
  pub ready : MoveReady sheet index notes question store links run m
  pub gives : m.returning ≡ true
  pub some : 0 < m.frames

-- What is the same of both kinds of move: the width and the packed value that it used, what it left where it does not go on, and the indexes of the
-- store and of the open forms.
module _ (sheet question : List ℕ) (mem mem' : Memory) (links opens : List ℕ) (m : Registers) where
  pub record MovesBy (r : Result Registers Halt) (P : ℕ → ℕ → Type 0) : Type 0 where
    pub skip : ℕ
    pub packed : ℕ
    pub width : WidthOf (rest_of sheet question m.forms m.at m.end) skip
    pub packs : PacksIn mem m packed
    pub moved : P skip packed
    pub still : Still r mem mem'
    pub linked : Linked mem'.store (kept_after r m) links
    pub opened : Opened mem'.forms opens (forms_after r m)

module _ (sheet index question : List ℕ) (budget limit : ℕ) (mem mem' : Memory) (links opens : List ℕ) (m : Registers) where
  -- a value is given to the frame whose word is w
  abbrev pub GivesTo : ℕ → Result Registers Halt → Type 0
  GivesTo w r =
      MovesBy sheet question mem mem' links opens m r (λ skip packed. stepped_of r mem' ≡ give sheet index budget limit skip packed mem m w)

  abbrev pub StepsTo : Result Registers Halt → Type 0
  StepsTo r =
      MovesBy sheet question mem mem' links opens m r (λ skip packed. stepped_of r mem' ≡ step_of sheet index question budget limit skip packed mem m)

-- ---- A run

-- A run is under way: what holds from move to move holds, of some call.
pub record Running (sheet index notes question : List ℕ) (budget : ℕ) (store links run : List ℕ) (m : Registers) : Type 0 where
  pub lent : List ℕ
  pub kept : ℕ
  pub whole : Ended
  pub invariant : Invariant sheet index question budget lent kept whole (memory_of store run) m
  pub tracks : Tracks sheet index notes (memory_of store run) m
  pub permitted : budget ≤ budget_limit
  pub linked : Linked store m.kept links
  pub opened : Opened (forms_in run) (opens_in run) m.forms
  pub short : length question ≤ expression_limit

-- So many rounds of the run's loop lead from one memory and registers to others: in each, a move by which the run goes on.
pub data Rounds (sheet index question : List ℕ) (budget limit : ℕ) (mem₀ : Memory) (first : Registers) : ℕ → Memory → Registers → Type 0 where
  at_first : Rounds sheet index question budget limit mem₀ first 0 mem₀ first
  and_then : {n : ℕ} {mem mem' : Memory} {links opens : List ℕ} {m m' : Registers} → Rounds sheet index question budget limit mem₀ first n mem m
      → StepsTo sheet index question budget limit mem mem' links opens m (Ok m') → Rounds sheet index question budget limit mem₀ first (suc n) mem' m'

-- A run that ends so, of a call that was lent these bytes with so many kept entries, leaves off: paused, with its value, or with the number of its
-- reason.
module _ (sheet index notes question : List ℕ) (budget limit : ℕ) (lent : List ℕ) (kept : ℕ) (whole : Ended) (first : ℕ) (mem : Memory) where
  -- It pauses before a counted step that is due, at the limit unless it was past it at first, and can go on. A stop that is due there is given there.
  pub record Paused (m : Registers) : Type 0 where
    pub invariant : Invariant sheet index question budget lent kept whole mem m
    pub tracks : Tracks sheet index notes mem m
    pub due : StepDue sheet question (length lent / entry_width) budget mem m
    pub left : m.steps < budget
    pub reached : limit ≤ m.steps
    pub counted : first ≤ limit → m.steps ≡ limit

  abbrev pub HaltsBy : Registers → Halt → Type 0
  HaltsBy m Waits = Paused m
  HaltsBy m Finishes = Final lent kept whole (with_value m.value) mem m
  HaltsBy m (Stops s) = (reason : Reason) × (reason_number reason ≡ stop_number s) × Final lent kept whole (by reason) mem m

  abbrev pub RunsTo : RunEnd → Type 0
  RunsTo r = HaltsBy r.registers r.halt

-- The rows of such a run, whose steps are `all`: where it pauses those to come are still missing; where it has ended they are its tally.
module _ (sheet question : List ℕ) (budget : ℕ) (all : List Counted) (mem : Memory) (rows : List ℕ) where
  pub record TalliedAt (m : Registers) : Type 0 where
    pub within : RowsWithin m.steps rows
    pub tallied : Tallied sheet question budget all rows mem m

  abbrev pub TalliesBy : Registers → Halt → Type 0
  TalliesBy m Waits = TalliedAt m
  TalliesBy m Finishes = rows ≡ tally all
  TalliesBy m (Stops s) = rows ≡ tally all

  abbrev pub TalliesTo : RunEnd → Type 0
  TalliesTo r = TalliesBy r.registers r.halt
