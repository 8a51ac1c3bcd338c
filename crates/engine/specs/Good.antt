-- Machines whose bytes are expressions as far as their frames go, whose open forms are apart, and which are small.
use Rattle.std.specs.Prelude.{false, List, [], ◌∷◌, ◌≡◌, ℕ, ◌+◌, ◌≤◌, length}
use Rattle.std.specs.Prelude.{None as none}
use Rattle.saiga.specs.Limits.{expression_limit}
use Rattle.saiga.specs.declared.Value.{Value}
use Rattle.saiga.specs.Expressions.{Expr, Scope, reads, read_expr, expression, read_whole}
use Rattle.saiga.specs.Sheet.{Sheet, rule_scope, forward_scope, figure, piece_of, forward_of, definition}
use Rattle.saiga.specs.Terms.{Occurrence}
use Rattle.saiga.specs.Caching.{Entry, kept, is_open}
use Rattle.engine.specs.Machine.{Frame, on_if, on_left, on_skip, on_right, on_node, on_parameter, on_forward, on_form, Mode, evaluating, returning, Machine, open_forms, scope_in, rest_at}

-- an expression stands at the front of some bytes
pub record Parses (sc : Scope) (l : List ℕ) : Type 0 where
  pub expr : Expr
  pub width : ℕ
  pub read : read_expr sc (length l) l ≡ reads expr width

-- Every rule and every forward that a definition hands on is one expression. A forward is so in its own scope and in a rule's.
pub record Pieces (s : Sheet) : Type 0 where
  pub whole : (n a : ℕ) (p : List ℕ) → definition s n a ≡ piece_of p → (e : Expr) × (read_whole (rule_scope s) p ≡ expression e)
  pub forward : (n a : ℕ) (p : List ℕ) → definition s n a ≡ forward_of p
      → (e : Expr) × (read_whole (forward_scope s) p ≡ expression e) × (read_whole (rule_scope s) p ≡ expression e)

-- the frame of a form is the innermost
abbrev pub OnForm : List Frame → Type 0
OnForm fs = (o : Occurrence) × (outer : List ℕ) × (under : List Frame) × (fs ≡ on_form o outer ∷ under)

module _ (s : Sheet) where
  abbrev pub ParsesIn : List Frame → List ℕ → Type 0
  ParsesIn fs l = Parses (scope_in s (open_forms fs)) l

  -- What the frames have still to come to follows. A forward's frame stands on a form's, and behind the forward's expression its piece is at its end.
  abbrev pub Ready : List Frame → List ℕ → Type 0
  Ready [] l = Unit {0}
  Ready (on_if ∷ fs) l = ParsesIn fs l × ParsesIn fs (rest_at s fs l) × Ready fs (rest_at s fs (rest_at s fs l))
  Ready (on_left ∷ fs) l = ParsesIn fs l × Ready fs (rest_at s fs l)
  Ready (on_skip ∷ fs) l = ParsesIn fs l × Ready fs (rest_at s fs l)
  Ready (on_right v ∷ fs) l = Ready fs l
  Ready (on_node a ∷ fs) l = ParsesIn fs l × Ready fs (rest_at s fs l)
  Ready (on_parameter v a ∷ fs) l = Ready fs l
  Ready (on_forward a ∷ fs) l = (l ≡ []) × OnForm fs × Ready fs l
  Ready (on_form o outer ∷ fs) l = Ready fs outer

  abbrev pub GoodAt : Mode → List ℕ → List Frame → Type 0
  GoodAt evaluating l fs = ParsesIn fs l × Ready fs (rest_at s fs l)
  GoodAt (returning v) l fs = Ready fs l

  abbrev pub Good : Machine → Type 0
  Good m = GoodAt m.mode m.rest m.frames

-- ---- What is open

-- An occurrence whose definition is no figure: a figure is there at once, so its form is never open while a step is due.
abbrev pub Unfigured : Sheet → Occurrence → Type 0
Unfigured s o = (v : Value) → definition s o.node o.attribute ≡ figure v → ⊥

-- The open forms are of rules and forwards. No two are of one occurrence, since 20 is given before a form opens that is open already (F-9 of document 02); and none of
-- their occurrences is kept. So the value of a form that closes is appended wherever there is room.
abbrev pub Apart : Sheet → List Entry → List Occurrence → Type 0
Apart s entries [] = Unit {0}
Apart s entries (o ∷ os) = (kept entries o ≡ none) × (is_open os o ≡ false) × Unfigured s o × Apart s entries os

-- ---- How large a machine grows

-- The bytes of the innermost piece that its frames have used, at least: one for the head, two for an attribute's, which has its number too; one more where a
-- frame has no expression still to come to, for the part whose value it holds. A forward's frame has none in the forward's piece.
abbrev pub used : List Frame → ℕ
used [] = 0
used (on_if ∷ fs) = 1 + used fs
used (on_left ∷ fs) = 1 + used fs
used (on_skip ∷ fs) = 1 + used fs
used (on_right v ∷ fs) = 2 + used fs
used (on_node a ∷ fs) = 2 + used fs
used (on_parameter v a ∷ fs) = 3 + used fs
used (on_forward a ∷ fs) = used fs
used (on_form o outer ∷ fs) = 0

-- A returning machine has used one for the value.
abbrev pub used_by : Mode → ℕ
used_by evaluating = 0
used_by (returning v) = 1

-- What is used is no longer in the rest of its piece, and a piece has at most 256 bytes: so much for the pieces that wait behind forms. A form's frame, and a
-- forward's that stands on it, count to the piece that the form returns to. There the attribute expression whose form it is has used four bytes, which is
-- enough for both.
abbrev pub Waiting : List Frame → Type 0
Waiting [] = Unit {0}
Waiting (on_if ∷ fs) = Waiting fs
Waiting (on_left ∷ fs) = Waiting fs
Waiting (on_skip ∷ fs) = Waiting fs
Waiting (on_right v ∷ fs) = Waiting fs
Waiting (on_node a ∷ fs) = Waiting fs
Waiting (on_parameter v a ∷ fs) = Waiting fs
Waiting (on_forward a ∷ fs) = Waiting fs
Waiting (on_form o outer ∷ fs) = (4 + used fs + length outer ≤ expression_limit) × Waiting fs

-- and for the running piece
abbrev pub Small : Machine → Type 0
Small m = (used_by m.mode + used m.frames + length m.rest ≤ expression_limit) × Waiting m.frames
