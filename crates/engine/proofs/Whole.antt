-- One move of the code is a move of the machine that registers and memory hold.
use mathlib.Core.List.{List}
use mathlib.Core.Path.{refl}
use Prim.Native.Nat.{ℕ, ◌/◌}
use lib.ListN.{length}
use Rattle.expressions.specs.Noted.{WidthOf}
use Rattle.engine.specs.RunningPiece.{rest_of}
use Rattle.engine.specs.Decode.{sheet_of}
use Rattle.engine.specs.Steps.{Memory, step_of}
use Rattle.engine.specs.declared.Registers.{Registers}
use Rattle.engine.specs.Represents.{machine_in, Represents, Matches, PacksIn}
use Rattle.engine.proofs.Attributes.{attribute-matches, close-matches}
use Rattle.engine.proofs.Kept.{by_key}
use Rattle.engine.proofs.Steps.{step-matches}

pub step-whole : (sheet index question : List ℕ) (budget limit skip packed : ℕ) (mem : Memory) (m : Registers)
    → Represents sheet index question mem m → WidthOf (rest_of sheet question m.forms m.at m.end) skip → PacksIn mem m packed
    → Matches sheet question (length mem.store / 12) budget limit m (machine_in sheet question mem m)
    (step_of sheet index question budget limit skip packed mem m)
step-whole sheet index question budget limit skip packed mem m r width packs =
    step-matches sheet index question budget limit skip packed mem m r width packs
    (λ gives some is-parameter. attribute-matches r gives some (by_key (sheet_of sheet)) is-parameter _ budget limit refl)
    (λ gives some is-form. close-matches r gives some (by_key (sheet_of sheet)) is-form _ budget limit refl)
