-- How many moves a run makes for its counted steps.
use Rattle.std.specs.Prelude.{List, [], ◌∷◌, ℕ, suc, ◌+◌, ◌*◌, ◌-◌, length}
use Rattle.saiga.specs.Sheet.{Sheet}
use Rattle.engine.specs.Machine.{Frame, on_if, on_left, on_skip, on_right, on_node, on_parameter, on_forward, on_form, Mode, evaluating, returning, Machine, Next}
use Rattle.engine.specs.Decode.{frame_limit}

-- So many moves lead from one machine to another.
pub data Moves (s : Sheet) (capacity budget : ℕ) (first : Machine) : ℕ → Machine → Type 0 where
  at_first : Moves s capacity budget first 0 first
  and_then : {n : ℕ} {m m' : Machine} → Moves s capacity budget first n m → Next s capacity budget m m' → Moves s capacity budget first (suc n) m'

-- A counted step pays for six moves, and room for a frame for three. A push uses that room: one of the three is the push itself, two stay with the
-- frame, for the move that gives it its first value and for the head that is read next. Room that comes back must be paid for again. Where a counted step
-- takes its frame away, the step pays. A form, and a branch that is passed over, are taken away by moves that are not counted: they have four from the step
-- that made them. A forward's frame has one from that step, for the move that gives it its node.
unfoldable pub credit : Frame → ℕ
credit on_if = 2
credit on_left = 2
credit on_skip = 4
credit (on_right v) = 0
credit (on_node a) = 2
credit (on_parameter v a) = 0
credit (on_forward a) = 1
credit (on_form o outer) = 4

unfoldable pub credits : List Frame → ℕ
credits [] = 0
credits (f ∷ fs) = credit f + credits fs

-- An expression that is due has one, for its own head.
unfoldable pub mode_credit : Mode → ℕ
mode_credit evaluating = 1
mode_credit (returning v) = 0

-- The moves that can still come, at most: the loop of `runs::run` has this as its measure.
unfoldable pub measure : ℕ → Machine → ℕ
measure budget m = 6 * (budget - m.steps) + 3 * (frame_limit - length m.frames) + credits m.frames + mode_credit m.mode
