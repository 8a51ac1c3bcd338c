-- What the tries of a call keep.
use Rattle.std.specs.Prelude.{◌≡◌, ℕ, ◌≤◌, Result, IfOk}

-- Each try brings no more than there is room for, and leaves as much room.
abbrev pub KeepsRoom : {F E : Type 0} → (F → Result ℕ E → F → Type 0) → (F → ℕ) → Type 0
KeepsRoom {F} {E} step room = (f g : F) (r : Result ℕ E) → step f r g → (room g ≡ room f) × IfOk r (λ n. n ≤ room f)
