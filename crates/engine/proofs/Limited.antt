-- The limits of a counted step: what holds of the stop, of the pause and of the step, each where it is due, holds of what comes.
use mathlib.Core.Bool.{true, false}
use mathlib.Core.List.{List}
use Rattle.std.specs.Prelude.{None as none, Option, Some as some}
use mathlib.Core.Path.{◌≡◌}
use Prim.Native.Nat.{ℕ, ◌≤◌, ◌<◌}
use lib.Dec.{leb}
use lib.ListN.{get_or}
use borrow.Author.Tests.{leb-true, leb-false}
use Rattle.saiga.specs.Limits.{depth_limit}
use Rattle.saiga.specs.Values.{to_word}
use Rattle.saiga.specs.declared.Value.{Value}
use Rattle.saiga.proofs.Preservation.{either}
use Rattle.sheets.specs.Scan.{figure_place, figure_at, indexed}
use Rattle.stores.specs.declared.Key.{Key}
use Rattle.engine.specs.OpenKeys.{key_open}
use Rattle.engine.specs.declared.Registers.{Registers}
use Rattle.engine.specs.Steps.{Memory, Stepped, goes, waits, stops, answered, until_limit, within, take_right, open_figure, take_kept}

module _ (P : Stepped → Type 0) (limit : ℕ) (m : Registers) (next : Stepped) where
  pub until-holds : (limit ≤ m.steps → P waits) → (m.steps < limit → P next) → P (until_limit limit m next)
  until-holds pause step =
      either P (leb limit m.steps) (λ reached. pause (leb-true _ _ reached)) (λ before. step (leb-false _ _ before))

  pub within-holds : (budget : ℕ) → (budget ≤ m.steps → P (stops 15)) → (m.steps < budget → limit ≤ m.steps → P waits)
      → (m.steps < budget → m.steps < limit → P next) → P (within budget limit m next)
  unfolding within
  within-holds budget spent pause step =
      either P (leb budget m.steps) (λ used. spent (leb-true _ _ used))
      (λ unused. let left = leb-false _ _ unused in until-holds (pause left) (step left))

-- AppApp, with what the function gives.
pub right-holds : (P : Stepped → Type 0) (budget limit : ℕ) (mem : Memory) (m : Registers) (a : Option Value) → P (stops 17) → P (stops 15) → P waits
    → ((v : Value) → m.steps < limit → P (goes (answered m m.kept v) mem)) → P (take_right budget limit mem m a)
unfolding take_right
right-holds P budget limit mem m (some v) overflow spent pause step =
    within-holds P limit m _ budget (λ _. spent) (λ _ _. pause) (λ _ before. step v before)
right-holds P budget limit mem m none overflow spent pause step = overflow

-- AttrApp of what is not kept: a circle, the budget, depth and the limit before its definition.
pub missing-holds : (P : Stepped → Type 0) (sheet index : List ℕ) (budget limit : ℕ) (mem : Memory) (m : Registers) (n a : ℕ)
    → let q : Key = record { node = n; attribute = a; word = to_word m.value } in
    (key_open mem.forms m.forms q ≡ true → P (stops 20))
    → (key_open mem.forms m.forms q ≡ false → budget ≤ m.steps → P (stops 15))
    → (key_open mem.forms m.forms q ≡ false → m.steps < budget → depth_limit ≤ m.forms → P (stops 16))
    → (key_open mem.forms m.forms q ≡ false → m.steps < budget → m.forms < depth_limit → limit ≤ m.steps → P waits)
    → (key_open mem.forms m.forms q ≡ false → m.steps < budget → m.forms < depth_limit → m.steps < limit
    → P (open_figure sheet index mem m n a (to_word m.value) (indexed (get_or index (figure_place n a) 0) (figure_at sheet a))))
    → P (take_kept sheet index budget limit mem m n a none)
unfolding take_kept
missing-holds P sheet index budget limit mem m n a circle spent deep pause step =
    either P (key_open mem.forms m.forms _) circle λ closed.
    either P (leb budget m.steps) (λ used. spent closed (leb-true _ _ used)) λ unused.
    let left = leb-false _ _ unused in
    either P (leb depth_limit m.forms) (λ many. deep closed left (leb-true _ _ many)) λ shallow.
    let few = leb-false _ _ shallow in
    until-holds P limit m _ (pause closed left few) (step closed left few)
