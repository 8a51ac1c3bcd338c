-- The row of the step that is due, as the word of the innermost frame has it, is the row of the step that the machine takes.
use mathlib.Core.Bool.{Bool, true, false}
use mathlib.Core.Bool as Bool
use Rattle.std.specs.Prelude.{Option, None as none, Some as some}
use mathlib.Core.List.{List, ◌∷◌}
use mathlib.Core.Path.{◌≡◌, refl}
use Prim.Native.Nat.{ℕ, zero, suc, ◌-◌}
use native.Mathlib.Nat.{suc-sub-suc, sub-zero}
use native.Mathlib.Omega.{arith}
use lib.Dec.{ltb, eqb}
use lib.ListN.{get_or}
use borrow.Author.Tests.{ne_eqb}
use Rattle.saiga.specs.Values.{null, truth, apply}
use Rattle.saiga.specs.declared.Value.{Value}
use Rattle.saiga.specs.Sheet.{Sheet}
use Rattle.saiga.specs.Terms.{Occurrence}
use Rattle.saiga.specs.Caching.{circular, too_deep}
use Rattle.saiga.proofs.Preservation.{either}
use Rattle.saiga.proofs.Tally.{row_of}
use Rattle.engine.specs.FrameWords.{kind_of, form_kind}
use Rattle.engine.specs.Machine.{Frame, on_if, on_left, on_skip, on_right, on_node, on_parameter, on_forward, on_form, Machine, open_forms, Move, finishes, moves, takes, stops, within, branch, application_due, attribute_due, give, move_of, move}
use Rattle.engine.specs.Decode.{sheet_of, frames_in, mode_of, machine_of}
use Rattle.engine.specs.Steps.{Memory}
use Rattle.engine.specs.Represents.{machine_in}
use Rattle.engine.specs.declared.Registers.{Registers}
use Rattle.engine.specs.Tallied.{frame_row, word_row, due_row}

-- a row that fits a move
abbrev pub RowFits : Option ℕ → Move → Type 0
RowFits row (finishes v) = Unit {0}
RowFits row (moves m) = row ≡ none
RowFits row (takes r m) = row ≡ some (row_of r)
RowFits row (stops r) = Unit {0}

module _ (s : Sheet) (capacity budget : ℕ) (m : Machine) where
  branch_row : (b : Bool) (fs : List Frame) → RowFits (frame_row on_if) (branch s capacity budget m b fs)
  unfolding branch within frame_row row_of
  branch_row true fs = either (RowFits _) (ltb m.steps budget) {y = stops _} (λ _. refl) (λ _. tt)
  branch_row false fs = either (RowFits _) (ltb m.steps budget) {y = stops _} (λ _. refl) (λ _. tt)

  application-row : (f : Value) (fs : List Frame) (a : Option Value) → RowFits (frame_row (on_right f)) (application_due s capacity budget m fs a)
  unfolding application_due within frame_row row_of
  application-row f fs (some v) = either (RowFits _) (ltb m.steps budget) {y = stops _} (λ _. refl) (λ _. tt)
  application-row f fs none = tt

  attribute-row : (o : Occurrence) (v : Value) (fs : List Frame) → RowFits (frame_row (on_parameter v o.attribute)) (attribute_due s capacity budget m o fs)
  unfolding attribute_due frame_row row_of
  attribute-row o v fs =
      either (RowFits _) (eqb o.node null) {x = stops _} (λ _. tt) λ _.
      either (RowFits _) (circular m.entries (open_forms fs) o) {x = stops _} (λ _. tt) λ _.
      either (RowFits _) (ltb m.steps budget) {y = stops _}
      (λ _. either (RowFits _) (too_deep m.entries (open_forms fs) o) {x = stops _} (λ _. tt) (λ _. refl))
      (λ _. tt)

  frame-row : (v : Value) (f : Frame) (fs : List Frame) → RowFits (frame_row f) (give s capacity budget m v (f ∷ fs))
  unfolding give frame_row row_of
  frame-row v on_if fs = branch_row (truth v) fs
  frame-row v on_left fs = refl
  frame-row v on_skip fs = refl
  frame-row v (on_right f) fs = application-row f fs (apply f v)
  frame-row v (on_node a) fs = refl
  frame-row v (on_parameter n a) fs = attribute-row _ n fs
  frame-row v (on_forward a) fs = refl
  frame-row v (on_form o outer) fs = refl

  -- the innermost of some words
  word-row : (sheet question words forms : List ℕ) (v : Value) (n k : ℕ)
      → RowFits (word_row (get_or words n 0)) (give s capacity budget m v (frames_in sheet question words forms (suc n) k))
  unfolding frames_in word_row frame_row
  word-row sheet question words forms v n k = go (eqb (kind_of (get_or words n 0)) form_kind) _ _ _ _ _
    where
      go : (b : Bool) (f : Frame) (fs fs' : List Frame) (o : Occurrence) (outer : List ℕ)
          → RowFits (Bool.cond b none (frame_row f)) (give s capacity budget m v (Bool.cond b (on_form o outer ∷ fs) (f ∷ fs')))
      go true f fs fs' o outer = frame-row v (on_form o outer) fs
      go false f fs fs' o outer = frame-row v f fs'

pub due-row : (sheet question : List ℕ) (capacity budget : ℕ) (mem : Memory) (m : Registers)
    → RowFits (due_row mem m) (move (sheet_of sheet) capacity budget (machine_in sheet question mem m))
unfolding due_row move move_of machine_of mode_of give frames_in
due-row sheet question capacity budget mem m = go m.returning
  where
    M : Machine
    M = machine_in sheet question mem m

    framed : (n : ℕ)
        → RowFits (Bool.cond (eqb n 0) none (word_row (get_or mem.words (n - 1) 0)))
        (give (sheet_of sheet) capacity budget M m.value (frames_in sheet question mem.words mem.forms n m.forms))
    framed zero = tt
    framed (suc n) = rw (ne_eqb (suc n) 0 (λ e. omega arith), suc-sub-suc, sub-zero) (word-row (sheet_of sheet) capacity budget M sheet question mem.words mem.forms m.value n m.forms)

    go : (b : Bool)
        → RowFits (Bool.cond b (Bool.cond (eqb m.frames 0) none (word_row (get_or mem.words (m.frames - 1) 0))) none)
        (move_of (sheet_of sheet) capacity budget M (mode_of b m.value))
    go true = framed m.frames
    go false = refl
