-- What a move of the code comes to, as a Result, against the move on registers and memory (Steps.antt).
use Rattle.std.specs.Prelude.{◌≡◌, ℕ, Result, Ok, Err}
use Rattle.saiga.specs.Stops.{stop_number}
use Rattle.engine.specs.Steps.{Memory, Stepped, goes, waits, finishes, stops}
use Rattle.engine.specs.declared.Registers.{Registers}
use Rattle.engine.specs.declared.Halt.{Halt}
use Rattle.engine.specs.declared.Halt.TheVariants.{Waits, Finishes, Stops}

-- what is not gone on from
abbrev pub halt_of : Halt → Stepped
halt_of Waits = waits
halt_of Finishes = finishes
halt_of (Stops s) = stops (stop_number s)

-- a move with the memory that it leaves
unfoldable pub stepped_of : Result Registers Halt → Memory → Stepped
stepped_of (Ok m) mem = goes m mem
stepped_of (Err h) mem = halt_of h

-- the kept number after it
unfoldable pub kept_after : Result Registers Halt → Registers → ℕ
kept_after (Ok after) m = after.kept
kept_after (Err h) m = m.kept

-- the number of open forms after it
unfoldable pub forms_after : Result Registers Halt → Registers → ℕ
forms_after (Ok after) m = after.forms
forms_after (Err h) m = m.forms

-- the kept number after the move itself, where it was so many
abbrev pub kept_in : ℕ → Stepped → ℕ
kept_in kept (goes m mem) = m.kept
kept_in kept waits = kept
kept_in kept finishes = kept
kept_in kept (stops number) = kept

-- what is not gone on with has left the memory as it was
abbrev pub Still : Result Registers Halt → Memory → Memory → Type 0
Still (Ok m) mem mem' = Unit {0}
Still (Err h) mem mem' = mem' ≡ mem

-- what comes after a test of the limits
abbrev pub gated : Result (Unit {0}) Halt → Stepped → Stepped
gated (Ok u) next = next
gated (Err h) next = halt_of h
