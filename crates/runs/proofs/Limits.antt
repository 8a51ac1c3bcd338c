-- The limits of a counted step, in the order of their numbers.
use mathlib.Core.List.{List}
use Rattle.std.specs.Prelude.{Option, Result, Ok, Err}
use mathlib.Core.Path.{◌≡◌, refl}
use Prim.Native.Nat.{ℕ}
use Rattle.saiga.specs.declared.Value.{Value}
use Rattle.engine.specs.declared.Registers.{Registers}
use Rattle.engine.specs.Steps.{Memory, Stepped, goes, waits, finishes, stops, within, take_right}
use Rattle.engine.specs.declared.Halt.{Halt}
use Rattle.engine.specs.declared.Halt.TheVariants.{Waits, Finishes, Stops}
use Rattle.engine.specs.CodeSteps.{stepped_of, kept_after, forms_after, kept_in, Still}
use Rattle.opens.specs.Opened.{Opened}
use Rattle.engine.proofs.Limited.{within-holds, right-holds}

-- The limits of a counted step keep what the step keeps.
pub within-keeps : (budget limit : ℕ) (m : Registers) (next : Stepped) {kept : ℕ} → kept_in kept next ≡ kept → kept_in kept (within budget limit m next) ≡ kept
within-keeps budget limit m next {kept} keeps = within-holds (λ st. kept_in kept st ≡ kept) limit m next budget (λ _. refl) (λ _ _. refl) (λ _ _. keeps)

-- And AppApp keeps what is kept.
pub right-keeps : (budget limit : ℕ) (mem : Memory) (m : Registers) (a : Option Value) → kept_in m.kept (take_right budget limit mem m a) ≡ m.kept
right-keeps budget limit mem m a = right-holds (λ st. kept_in m.kept st ≡ m.kept) budget limit mem m a refl refl refl (λ v _. refl)

-- A move leaves the open forms as they are, if it goes on.
abbrev pub FormsStay : Memory → Registers → Stepped → Type 0
FormsStay mem m (goes m' mem') = (mem'.forms ≡ mem.forms) × (m'.forms ≡ m.forms)
FormsStay mem m waits = Unit {0}
FormsStay mem m finishes = Unit {0}
FormsStay mem m (stops number) = Unit {0}

pub within-stays : (budget limit : ℕ) (mem : Memory) (m : Registers) (next : Stepped) → FormsStay mem m next → FormsStay mem m (within budget limit m next)
within-stays budget limit mem m next stays = within-holds (FormsStay mem m) limit m next budget (λ _. tt) (λ _ _. tt) (λ _ _. stays)

pub right-stays : (budget limit : ℕ) (mem : Memory) (m : Registers) (a : Option Value) → FormsStay mem m (take_right budget limit mem m a)
right-stays budget limit mem m a = right-holds (FormsStay mem m) budget limit mem m a tt tt tt (λ v _. (refl, refl))

-- Then their index goes on holding.
pub opened-by : (r : Result Registers Halt) (mem mem' : Memory) (opens : List ℕ) (m : Registers) → Opened mem.forms opens m.forms
    → FormsStay mem m (stepped_of r mem') → Still r mem mem' → Opened mem'.forms opens (forms_after r m)
unfolding stepped_of forms_after
opened-by (Ok after) mem mem' opens m opened stays still = rw (stays.0, stays.1) opened
opened-by (Err h) mem mem' opens m opened stays still = rw still opened

-- The kept number after a move is that of what it comes to.
pub kept-by : (r : Result Registers Halt) (mem : Memory) (m : Registers) → kept_after r m ≡ kept_in m.kept (stepped_of r mem)
unfolding kept_after stepped_of
kept-by (Ok after) mem m = refl
kept-by (Err Waits) mem m = refl
kept-by (Err Finishes) mem m = refl
kept-by (Err (Stops s)) mem m = refl
