-- The rounds of the run's loop are bounded by the steps that are counted in them: as many moves of the code are as many of the machine.
use mathlib.Core.List.{List}
use mathlib.Core.Path.{◌≡◌, sym}
use Prim.Native.Nat.{ℕ, ◌+◌, ◌*◌, ◌-◌, ◌/◌, ◌≤◌}
use native.Mathlib.Omega.{arith}
use lib.ListN.{length}
use Rattle.saiga.specs.Limits.{entry_width}
use Rattle.saiga.specs.Caching.{Ended}
use Rattle.engine.specs.Machine.{Machine}
use Rattle.engine.specs.Decode.{sheet_of, frames_in, machine_of}
use Rattle.engine.specs.Steps.{Memory}
use Rattle.engine.specs.CodeSteps.{stepped_of}
use Rattle.engine.specs.declared.Registers.{Registers}
use Rattle.engine.specs.Represents.{machine_in}
use Rattle.engine.specs.Loop.{Invariant}
use Rattle.engine.specs.Cost.{Moves}
use Rattle.engine.specs.Cost as Cost
use Rattle.engine.proofs.Bounds.{represents-sized, frames-fit}
use Rattle.engine.proofs.Start.{pieces}
use Rattle.engine.proofs.Loop.{invariant-on, invariant-next}
use Rattle.engine.proofs.Cost.{part-moves, unframed-moves}
use Rattle.runs.specs.Moves.{Rounds, at_first, and_then}

module _ {sheet index question : List ℕ} {budget : ℕ} {lent : List ℕ} {kept : ℕ} {whole : Ended} {mem₀ : Memory} {first : Registers}
    (inv : Invariant sheet index question budget lent kept whole mem₀ first) where
  abbrev machine_at : Memory → Registers → Machine
  machine_at mem m = machine_in sheet question mem m

  -- the machine's moves
  rounds-move : {limit n : ℕ} {mem : Memory} {m : Registers} → Rounds sheet index question budget limit mem₀ first n mem m
      → Invariant sheet index question budget lent kept whole mem m
      × Moves (sheet_of sheet) (length lent / entry_width) budget (machine_at mem₀ first) n (machine_at mem m)
  unfolding stepped_of
  rounds-move at_first = (inv, Cost.at_first)
  rounds-move {limit} (and_then k s) =
      let (now, moved) = rounds-move k in
      let came = sym s.moved in (
        invariant-on now limit s.skip s.packed s.width s.packs came,
        Cost.and_then moved (rw now.room at (invariant-next now limit s.skip s.packed s.width s.packs came)),
      )

  module _ {limit n : ℕ} {mem : Memory} {m : Registers} (k : Rounds sheet index question budget limit mem₀ first n mem m) where
    -- from one pause to the next, say
    pub rounds-by-steps : n ≤ 6 * (m.steps - first.steps) + 33281
    unfolding machine_of
    rounds-by-steps = part-moves (pieces sheet _ inv.represents.accepts) (represents-sized inv.represents) inv.within (rounds-move k).1

    -- from the start of a run
    pub run-rounds-by-steps : first.frames ≡ 0 → n ≤ 6 * (m.steps - first.steps) + 24961
    unfolding machine_of frames_in
    run-rounds-by-steps none =
        let (now, moved) = rounds-move k in
        omega (arith, unframed-moves (rw none) inv.within moved, frames-fit (represents-sized now.represents))

    pub run-rounds-by-budget : first.frames ≡ 0 → n ≤ 6 * budget + 24961
    run-rounds-by-budget none = omega (arith, run-rounds-by-steps none, (rounds-move k).0.within)
