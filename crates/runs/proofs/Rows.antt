-- The rows of the tally after a move, by the kind of the frame that is given its value.
use Rattle.std.specs.Prelude.{Option, None as none, Some as some, Result, Ok}
use mathlib.Core.List.{List}
use mathlib.Core.Path.{◌≡◌, sym, ap, ◌∙◌}
use Prim.Native.Nat.{ℕ}
use Rattle.saiga.specs.Limits.{applications_row, conditions_row}
use Rattle.engine.specs.declared.Registers.{Registers}
use Rattle.engine.specs.declared.Halt.{Halt}
use Rattle.engine.specs.declared.frames.Kind.{Kind}
use Rattle.engine.specs.declared.frames.Kind.TheVariants.{If, Left, Skip, Right, Node, Parameter, Form, Forward}
use Rattle.engine.specs.FrameWords.{kind_number, kind_of, held_attribute}
use Rattle.engine.specs.Machine.{Frame}
use Rattle.engine.specs.Tallied.{frame_row, word_row, counted_in, rows_after}
use Rattle.engine.proofs.Decoding.{WordOf, if-kind, left-kind, skip-kind, right-kind, node-kind, parameter-kind, forward-kind}

-- the row of the step that a frame takes with its value, by its kind
abbrev pub kind_row : Kind → ℕ → Option ℕ
kind_row If w = some conditions_row
kind_row Left w = none
kind_row Skip w = none
kind_row Right w = some applications_row
kind_row Node w = none
kind_row Parameter w = some (held_attribute w)
kind_row Form w = none
kind_row Forward w = none

frame-of : {w : ℕ} {f : Frame} → WordOf w f → word_row w ≡ frame_row f
unfolding word_row
frame-of p = rw (p.plain, p.is)

by_kind : (k : Kind) (w : ℕ) → kind_number k ≡ kind_of w → word_row w ≡ kind_row k w
unfolding frame_row word_row
by_kind If w kind = frame-of (if-kind w (sym kind))
by_kind Left w kind = frame-of (left-kind w (sym kind))
by_kind Skip w kind = frame-of (skip-kind w (sym kind))
by_kind Right w kind = frame-of (right-kind w (sym kind))
by_kind Node w kind = frame-of (node-kind w (sym kind))
by_kind Parameter w kind = frame-of (parameter-kind w (sym kind))
by_kind Form w kind = rw (sym kind)
by_kind Forward w kind = frame-of (forward-kind w (sym kind))

-- The frame's kind is j.
module _ (w : ℕ) {k j : Kind} (kind : kind_number k ≡ kind_of w) (key : k ≡ j) where
  row_is : word_row w ≡ kind_row j w
  row_is = by_kind j w (sym (ap kind_number key) ∙ kind)

  -- a counted step, and AttrApp by its attribute's number
  pub rows-counted : (r : Result Registers Halt) (rows after : List ℕ) → after ≡ rows_after r (kind_row j w) rows → after ≡ rows_after r (word_row w) rows
  rows-counted r rows after is = rw row_is is

  pub rows-attribute : (r : Result Registers Halt) (rows after : List ℕ) (a : ℕ) → kind_row j w ≡ some (held_attribute w) → a ≡ held_attribute w
      → after ≡ rows_after r (some a) rows → after ≡ rows_after r (word_row w) rows
  rows-attribute r rows after a row held is = rw (row_is, row) (rw held at is)

  -- a move that is not counted
  pub rows-uncounted : (m : Registers) (rows : List ℕ) → kind_row j w ≡ none → rows ≡ rows_after (Ok m) (word_row w) rows
  unfolding rows_after counted_in
  rows-uncounted m rows row = rw (row_is, row)
