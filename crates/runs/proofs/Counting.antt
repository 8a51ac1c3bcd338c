-- A counted step is taken below the limit alone: so a run that pauses has counted to its limit.
use mathlib.Core.Bool.{Bool, true, false}
use Rattle.std.specs.Prelude.{Option, None as none, Some as some}
use mathlib.Core.List.{List, [], ◌∷◌}
use mathlib.Core.Path.{◌≡◌}
use Prim.Native.Nat.{ℕ, ◌%◌, ◌≤◌, ◌<◌}
use native.Mathlib.Omega.{arith}
use lib.Dec.{eqb}
use Rattle.saiga.specs.Values.{null, truth}
use Rattle.saiga.specs.declared.Value.{Value}
use Rattle.saiga.specs.Expressions.{Head, base_literal, function_literal, if_head, application_head, attribute_head, this_head, parameter_head, no_head, head_of}
use Rattle.sheets.specs.Scan.{rule_number}
use Rattle.engine.specs.declared.Registers.{Registers}
use Rattle.engine.specs.Steps.{Memory, Stepped, goes, waits, finishes, stops, read_head, take_if, close_form, open_piece, open_rule, open_figure, take_kept, attribute_due, give, read_next, step_of}
use Rattle.saiga.proofs.Preservation.{either}
use Rattle.engine.proofs.Limited.{within-holds, right-holds, missing-holds}

module _ (sheet index : List ℕ) (limit : ℕ) (mem : Memory) (m : Registers) where
  -- the count stays within the limit
  abbrev Counts : Stepped → Type 0
  Counts (goes m' mem') = m.steps ≤ limit → m'.steps ≤ limit
  Counts waits = Unit {0}
  Counts finishes = Unit {0}
  Counts (stops number) = Unit {0}

  head-counts : (h : Head) (l : List ℕ) → Counts (read_head sheet mem m h l)
  unfolding read_head
  head-counts (base_literal t) l = λ h. h
  head-counts function_literal l = λ h. h
  head-counts if_head l = λ h. h
  head-counts application_head l = λ h. h
  head-counts attribute_head l = λ h. h
  head-counts this_head l = λ h. h
  head-counts parameter_head l = λ h. h
  head-counts no_head l = tt

  reading-counts : (l : List ℕ) → Counts (read_next sheet index mem m l)
  unfolding read_next
  reading-counts [] = tt
  reading-counts (c ∷ l) = head-counts (head_of c) l

  if-counts : m.steps < limit → (skip : ℕ) (b : Bool) → Counts (take_if skip mem m b)
  unfolding take_if
  if-counts before skip true = λ h. omega arith
  if-counts before skip false = λ h. omega arith

  rule-counts : m.steps < limit → (n a word : ℕ) → Counts (open_rule sheet index mem m n a word)
  unfolding open_rule open_piece
  rule-counts before n a word = either Counts (eqb (rule_number sheet index n a) 0) (λ _ h. omega arith) (λ _ h. omega arith)

  figure-counts : m.steps < limit → (n a word : ℕ) (f : Option Value) → Counts (open_figure sheet index mem m n a word f)
  unfolding open_figure
  figure-counts before n a word none = rule-counts before n a word
  figure-counts before n a word (some v) = λ h. omega arith

  kept-counts : (budget n a : ℕ) (f : Option ℕ) → Counts (take_kept sheet index budget limit mem m n a f)
  unfolding take_kept
  kept-counts budget n a none =
      missing-holds Counts sheet index budget limit mem m n a (λ _. tt) (λ _ _. tt) (λ _ _ _. tt) (λ _ _ _ _. tt) (λ _ _ _ before. figure-counts before n a _ _)
  kept-counts budget n a (some j) = within-holds Counts limit m _ budget (λ _. tt) (λ _ _. tt) (λ _ before h. omega arith)

  attribute-counts : (budget n a : ℕ) → Counts (attribute_due sheet index budget limit mem m n a)
  unfolding attribute_due
  attribute-counts budget n a = either Counts (eqb n null) {x = stops 14} (λ _. tt) (λ _. kept-counts budget n a _)

  give-counts : (budget skip packed w : ℕ) → Counts (give sheet index budget limit skip packed mem m w)
  unfolding give close_form
  give-counts budget skip packed w =
      either Counts (eqb (w % 8) 0) (λ _. within-holds Counts limit m _ budget (λ _. tt) (λ _ _. tt) (λ _ before. if-counts before skip (truth m.value))) λ _.
      either Counts (eqb (w % 8) 1) (λ _ h. h) λ _.
      either Counts (eqb (w % 8) 2) (λ _ h. h) λ _.
      either Counts (eqb (w % 8) 3) (λ _. right-holds Counts budget limit mem m _ tt tt tt (λ _ before h. omega arith)) λ _.
      either Counts (eqb (w % 8) 4) (λ _ h. h) λ _.
      either Counts (eqb (w % 8) 6) (λ _ h. h) λ _.
      either Counts (eqb (w % 8) 5) (λ _. attribute-counts budget _ _) (λ _ h. h)

  move-counts : (question : List ℕ) (budget skip packed : ℕ) → Counts (step_of sheet index question budget limit skip packed mem m)
  unfolding step_of
  move-counts question budget skip packed =
      either Counts m.returning
      (λ _. either Counts (eqb m.frames 0) {x = finishes} (λ _. tt) (λ _. give-counts budget skip packed _))
      (λ _. reading-counts _)

  pub stays-within-limit : (question : List ℕ) (budget skip packed : ℕ) {m' : Registers} {mem' : Memory}
      → step_of sheet index question budget limit skip packed mem m ≡ goes m' mem' → m.steps ≤ limit → m'.steps ≤ limit
  stays-within-limit question budget skip packed e = rw e at (move-counts question budget skip packed)
