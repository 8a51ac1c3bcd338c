-- The widths that a reader notes, so that an expression is passed over by one read: at the first byte of each expression stands its width less one, which is below 256.
use Rattle.std.specs.Prelude.{Option, None as none, Some as some}
use Rattle.std.specs.Prelude.{List, ◌≡◌, ℕ, ◌+◌, ◌-◌, ◌<◌, length, drop, get_or}
use Rattle.saiga.specs.Expressions.{Expr, Scope, head_of, reads, read_expr}
use Rattle.expressions.specs.declared.types.«Type».{«Type»}
use Rattle.expressions.specs.declared.Form.{Form}
use Rattle.expressions.specs.Widths.{head_width}

-- the width of the expression at the front of some bytes, in every scope in which there is one
abbrev pub WidthOf : List ℕ → ℕ → Type 0
WidthOf l width = (sc : Scope) (e : Expr) (w : ℕ) → read_expr sc (length l) l ≡ reads e w → width ≡ w

-- how many bytes the head at the front of some bytes takes with its operand
abbrev pub front_width : List ℕ → ℕ
front_width l = head_width (head_of (get_or l 0 0))

-- The first bytes of `l`, so many, head by head: each expression that starts there is noted. "An expression's form is settled by reading its
-- head and then the shorter expressions inside it", so the heads are the first bytes of the expressions.
pub data Noted : List ℕ → List ℕ → ℕ → Type 0 where
  all_noted : {l notes : List ℕ} → Noted l notes 0
  front_noted : {l notes : List ℕ} {w : ℕ} → WidthOf l (1 + get_or notes 0 0) → Noted (drop (front_width l) l) (drop (front_width l) notes) w
      → Noted l notes (front_width l + w)

-- ---- What a reader leaves

-- what stands before a place stays
abbrev pub Before : ℕ → List ℕ → List ℕ → Type 0
Before at notes notes' = (i : ℕ) → i < at → get_or notes' i 0 ≡ get_or notes i 0

-- What the reader was handed to read is `l`, whose first byte has its place in the notes at `at`. An expression that it read is noted.
abbrev pub NotedAs : List ℕ → List ℕ → Option Form → Type 0
NotedAs l notes none = Unit {0}
NotedAs l notes (some f) = Noted l notes f.width

pub record Notes (l : List ℕ) (at : ℕ) (notes notes' : List ℕ) (r : Option Form) : Type 0 where
  pub before : Before at notes notes'
  pub noted : NotedAs l (drop at notes') r

-- The expressions inside one are noted: `l` starts with the first of them, `n` bytes behind the whole one's first.
abbrev pub NotedInside : ℕ → List ℕ → List ℕ → Option Form → Type 0
NotedInside n l notes none = Unit {0}
NotedInside n l notes (some f) = Noted l notes (f.width - n)

pub record NotesInside (n : ℕ) (l : List ℕ) (at : ℕ) (notes notes' : List ℕ) (r : Option Form) : Type 0 where
  pub before : Before at notes notes'
  pub noted : NotedInside n l (drop at notes') r

abbrev pub NotesBehind : List ℕ → ℕ → List ℕ → List ℕ → Option Form → Type 0
NotesBehind l at notes notes' r = NotesInside (front_width l) (drop (front_width l) l) (at + front_width l) notes notes' r

-- and the bytes as a whole, where they are one
abbrev pub NotedWhole : List ℕ → List ℕ → Option (Option «Type») → Type 0
NotedWhole l notes none = Unit {0}
NotedWhole l notes (some t) = Noted l notes (length l)

pub record NotesWhole (l : List ℕ) (at : ℕ) (notes notes' : List ℕ) (r : Option (Option «Type»)) : Type 0 where
  pub before : Before at notes notes'
  pub noted : NotedWhole l (drop at notes') r
