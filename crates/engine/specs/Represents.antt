-- What registers and lent memory must hold for a move of the code to be a move of the machine, and what is then the same.
use Rattle.std.specs.Prelude.{true, List, ◌≡◌, ℕ, ◌-◌, ◌/◌, ◌≤◌, ◌<◌, length, get_or}
use Rattle.saiga.specs.Limits.{entry_width}
use Rattle.saiga.specs.Values.{base}
use Rattle.saiga.specs.declared.Base.{Base}
use Rattle.saiga.specs.declared.Value.{Value}
use Rattle.saiga.specs.Sheet.{node_count, accepted, check_sheet}
use Rattle.saiga.specs.Caching.{Counted, Reason}
use Rattle.saiga.specs.Ask.{reason_number}
use Rattle.saiga.specs.Sound.{RunningIn}
use Rattle.sheets.specs.Scan.{Indexed}
use Rattle.values.specs.Packed.{value_in, packed_limit}
use Rattle.engine.specs.FrameWords.{kind_of, left_kind, node_kind, forward_kind}
use Rattle.engine.specs.Machine.{Machine, open_forms, finishes, takes, stops, move, Next, state_of}
use Rattle.engine.specs.Decode.{sheet_of, machine_of, Holds}
use Rattle.engine.specs.Steps.{Memory, Stepped, goes, waits}
use Rattle.engine.specs.declared.Registers.{Registers}
use Rattle.engine.specs.Good.{Good, Apart, Small}

-- the machine that registers and memory hold
abbrev pub machine_in : List ℕ → List ℕ → Memory → Registers → Machine
machine_in sheet question mem m = machine_of sheet question mem.store mem.words mem.forms m

abbrev pub HoldsIn : List ℕ → List ℕ → Memory → Registers → Type 0
HoldsIn sheet question mem m = Holds sheet question mem.store mem.words mem.forms m

-- The sheet is accepted and indexed; registers and memory hold a machine that reads expressions, has its open forms apart, is small and is of a type.
pub record Represents (sheet index question : List ℕ) (mem : Memory) (m : Registers) : Type 0 where
  pub accepts : check_sheet sheet ≡ accepted (sheet_of sheet)
  pub index_of : Indexed sheet (sheet_of sheet) index
  pub holds : HoldsIn sheet question mem m
  pub good : Good (sheet_of sheet) (machine_in sheet question mem m)
  pub apart : Apart (sheet_of sheet) (machine_in sheet question mem m).entries (open_forms (machine_in sheet question mem m).frames)
  pub small : Small (machine_in sheet question mem m)
  pub type : Base
  pub typed : RunningIn (node_count (sheet_of sheet)) (sheet_of sheet).attributes (state_of (sheet_of sheet) (machine_in sheet question mem m)).term (base type)

-- What a move of the code comes to, for a machine M at a budget and a limit.
module _ (sheet question : List ℕ) (capacity budget limit : ℕ) (m : Registers) (M : Machine) where
  abbrev pub Matches : Stepped → Type 0
  Matches (goes m' mem') =
      Next (sheet_of sheet) capacity budget M (machine_in sheet question mem' m') × HoldsIn sheet question mem' m' × (length mem'.store / entry_width ≡ capacity)
  Matches waits = (r : Counted) × (M' : Machine) × (move (sheet_of sheet) capacity budget M ≡ takes r M') × (limit ≤ m.steps) × (m.steps < budget)
  Matches Stepped.finishes = move (sheet_of sheet) capacity budget M ≡ finishes m.value
  Matches (Stepped.stops n) = (r : Reason) × (move (sheet_of sheet) capacity budget M ≡ stops r) × (reason_number r ≡ n)

-- a value in a word
abbrev pub Packs : Value → ℕ → Type 0
Packs v p = (value_in p ≡ v) × (p < packed_limit)

-- where a value is given to an application's, an attribute's or a forward's frame, which is made one that holds it
abbrev pub PacksIn : Memory → Registers → ℕ → Type 0
PacksIn mem m p =
    let kind = kind_of (get_or mem.words (m.frames - 1) 0) in
    m.returning ≡ true → 0 < m.frames
    → (kind ≡ left_kind → Packs m.value p) × (kind ≡ node_kind → Packs m.value p) × (kind ≡ forward_kind → Packs m.value p)
