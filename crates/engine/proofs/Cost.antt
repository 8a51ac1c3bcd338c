-- The moves of a run are bounded by its counted steps, and so by its budget: six for each step, and a number besides that no sheet, question or store
-- changes.
use mathlib.Core.List.{List, [], ◌∷◌}
use mathlib.Core.Path.{◌≡◌, refl}
use Prim.Native.Nat.{ℕ, ◌+◌, ◌*◌, ◌-◌, ◌≤◌}
use native.Mathlib.Omega.{arith}
use lib.ListN.{length}
use Rattle.saiga.specs.Expressions.{Expr}
use Rattle.saiga.specs.Sheet.{Sheet, accepted, check_sheet}
use Rattle.saiga.specs.Caching.{Entry}
use Rattle.saiga.specs.Ask.{check_question}
use Rattle.engine.specs.Machine.{Frame, on_if, on_left, on_skip, on_right, on_node, on_parameter, on_forward, on_form, Mode, evaluating, returning, Machine, open_forms}
use Rattle.engine.specs.Good.{Pieces}
use Rattle.engine.specs.Cost.{Moves, at_first, and_then, credit, credits, mode_credit, measure}
use Rattle.engine.proofs.Bounds.{Sized, small-on, forms-on, steps_on, frames-fit, moves-cost}
use Rattle.engine.proofs.Simulation.{good-on}
use Rattle.engine.proofs.Start.{start, start_small, question-start, pieces}
use Rattle.engine.proofs.Loop.{question-short}

-- ---- Any part of a run

sized-after : {s : Sheet} {capacity budget : ℕ} {first : Machine} {n : ℕ} {m : Machine} → Pieces s → Sized s first → Moves s capacity budget first n m → Sized s m
sized-after rules sized at_first = sized
sized-after rules sized (and_then k next) =
    let now = sized-after rules sized k in
    record { good = good-on _ _ _ rules now.good next; small = small-on rules now.good now.small next; few = forms-on now.few next }

steps-after : {s : Sheet} {capacity budget : ℕ} {first : Machine} {n : ℕ} {m : Machine} → Moves s capacity budget first n m → first.steps ≤ budget
    → (first.steps ≤ m.steps) × (m.steps ≤ budget)
steps-after at_first h = (omega arith, h)
steps-after (and_then k next) h = let (low, high) = steps-after k h in let (more, within) = steps_on next high in (omega arith, within)

credit-few : (f : Frame) → credit f ≤ 4
unfolding credit
credit-few on_if = omega arith
credit-few on_left = omega arith
credit-few on_skip = omega arith
credit-few (on_right v) = omega arith
credit-few (on_node a) = omega arith
credit-few (on_parameter v a) = omega arith
credit-few (on_forward a) = omega arith
credit-few (on_form o outer) = omega arith

credits-few : (fs : List Frame) → credits fs ≤ 4 * length fs
unfolding credits
credits-few [] = omega arith
credits-few (f ∷ fs) = omega (arith, credit-few f, credits-few fs)

mode-few : (mode : Mode) → mode_credit mode ≤ 1
unfolding mode_credit
mode-few evaluating = omega arith
mode-few (returning v) = omega arith

-- From any machine that a run comes to: the moves from a pause to the next, say.
pub part-moves : {s : Sheet} {capacity budget n : ℕ} {first m : Machine} → Pieces s → Sized s first → first.steps ≤ budget
    → Moves s capacity budget first n m → n ≤ 6 * (m.steps - first.steps) + 33281
part-moves {first = first} {m} rules sized h k =
    let now = sized-after rules sized k in
    omega (arith, moves-cost k, steps-after k h, frames-fit now, frames-fit sized, credits-few first.frames, mode-few first.mode)

-- From a machine without frames, as at the start.
pub unframed-moves : {s : Sheet} {capacity budget n : ℕ} {first m : Machine} → first.frames ≡ [] → first.steps ≤ budget → Moves s capacity budget first n m
    → n ≤ 6 * (m.steps - first.steps) + 3 * length m.frames + 1
unfolding credits
unframed-moves {n = n} {first} {m} is h k =
    let cost : n + credits m.frames + mode_credit m.mode + 3 * length {A = Frame} [] + 6 * first.steps
    ≤ credits [] + mode_credit first.mode + 3 * length m.frames + 6 * m.steps = rw is at (moves-cost k) in
    omega (arith, steps-after k h, mode-few first.mode)

-- ---- A run from its start

pub start-measure : (q : List ℕ) (entries : List Entry) (budget : ℕ) → measure budget (start q entries) ≡ 6 * budget + 24961
unfolding measure credits mode_credit
start-measure q entries budget = omega arith

module _ (bytes : List ℕ) (s : Sheet) (ok : check_sheet bytes ≡ accepted s) (q : List ℕ) (e : Expr) (form : check_question s q ≡ accepted e)
    (entries : List Entry) {capacity budget n : ℕ} {m : Machine} (k : Moves s capacity budget (start q entries) n m) where
  sized : Sized s m
  unfolding open_forms
  sized =
      sized-after (pieces bytes s ok)
      record { good = (question-start s q e form entries).0; small = start_small q entries (question-short s q e form); few = omega arith } k

  -- as far as it has come
  pub run-moves : n ≤ 6 * m.steps + 3 * length m.frames + 1
  run-moves = omega (arith, unframed-moves refl (omega arith) k)

  pub run-moves-by-steps : n ≤ 6 * m.steps + 24961
  run-moves-by-steps = omega (arith, run-moves, frames-fit sized)

  -- A run that comes to its value has taken its frames away.
  pub value-moves : m.frames ≡ [] → n ≤ 6 * m.steps + 1
  value-moves is = let all : n ≤ 6 * m.steps + 3 * length {A = Frame} [] + 1 = rw is at run-moves in omega arith

  -- whatever the sheet, the question and the store are
  pub run-moves-by-budget : n ≤ 6 * budget + 24961
  run-moves-by-budget = omega (arith, run-moves-by-steps, steps-after k (omega arith))
