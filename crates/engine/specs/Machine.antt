-- A frame machine over the bytes of expressions. Its moves are Saiga's caching steps and the reading of heads in between
-- (Simulation.antt of proofs/).
use Rattle.std.specs.Prelude.{Bool, true, false, ◌≡◌, List, [], ◌∷◌, ℕ, suc, ltb, eqb, length, take, drop, get_or}
use Rattle.std.proofs.Math.Bool as Bool
use Rattle.std.specs.Prelude.{Option, None as none, Some as some}
use Rattle.saiga.specs.Values.{null, function_of, of_bytes, of_word, truth, node_of, apply}
use Rattle.saiga.specs.declared.Value.{Value}
use Rattle.saiga.specs.declared.Value.TheVariants.{Unit as unit, Node as node, Function as function}
use Rattle.saiga.specs.Expressions.{Expr, literal, Scope, Head, base_literal, function_literal, if_head, application_head, attribute_head, this_head, parameter_head, no_head, head_of, operand_width, Reading, malformed, reads, read_expr}
use Rattle.saiga.specs.Sheet.{Sheet, rule_scope, question_scope, Definition, undefined, figure, piece_of, forward_of, definition}
use Rattle.saiga.specs.Terms.{Occurrence, val, cond, app, attr, form, put}
use Rattle.saiga.specs.Plain.{on_null, by_overflow}
use Rattle.saiga.specs.Caching.{Entry, kept, write, Running, Counted, CondTrue, CondFalse, AppApp, AttrApp, Reason, as_plain, circle, spent, depth, circular, too_deep, State}

-- ---- States

-- What waits for the value of a part. The expressions that a frame has still to come to follow in the rest of the bytes. A forward's frame stands on the form
-- of an occurrence (n, a, v): it waits for the node of which attribute a is due with v (F-7 of document 02), and that v is not in the bytes.
pub data Frame : Type 0 where
  on_if on_left on_skip : Frame
  on_right : Value → Frame
  on_node : ℕ → Frame
  on_parameter : Value → ℕ → Frame
  on_forward : ℕ → Frame
  on_form : Occurrence → List ℕ → Frame

pub data Mode : Type 0 where
  evaluating : Mode
  returning : Value → Mode

-- The rest of the running piece of bytes, with the frames around it, the innermost first.
pub record Machine : Type 0 where
  pub mode : Mode
  pub rest : List ℕ
  pub frames : List Frame
  pub entries : List Entry
  pub steps : ℕ

-- the open forms, and the occurrence whose definition is running
unfoldable pub open_forms : List Frame → List Occurrence
open_forms [] = []
open_forms (on_if ∷ l) = open_forms l
open_forms (on_left ∷ l) = open_forms l
open_forms (on_skip ∷ l) = open_forms l
open_forms (on_right v ∷ l) = open_forms l
open_forms (on_node a ∷ l) = open_forms l
open_forms (on_parameter v a ∷ l) = open_forms l
open_forms (on_forward a ∷ l) = open_forms l
open_forms (on_form o rest ∷ l) = o ∷ open_forms l

unfoldable pub innermost : List Occurrence → Occurrence
innermost [] = record { node = 0; attribute = 0; parameter = unit }
innermost (o ∷ l) = o

-- The question has neither 0x30 nor 0x31; what runs inside a form is a rule, or a forward, which reads the same in a rule's scope.
unfoldable pub scope_in : Sheet → List Occurrence → Scope
scope_in s [] = question_scope s
scope_in s (o ∷ l) = rule_scope s

-- ---- The expressions that follow

unfoldable pub expr_of : Reading → Expr
expr_of malformed = literal unit
expr_of (reads e w) = e

unfoldable pub width_of : Reading → ℕ
width_of malformed = 0
width_of (reads e w) = w

-- the expression at the front of some bytes, and the bytes after it
unfoldable pub next_expr : Scope → List ℕ → Expr
next_expr sc l = expr_of (read_expr sc (length l) l)

unfoldable pub pass_over : Scope → List ℕ → List ℕ
pass_over sc l = drop (width_of (read_expr sc (length l) l)) l

module _ (s : Sheet) where
  -- the running expression that a machine stands for
  abbrev pub term_at : List Frame → List ℕ → Running
  term_at fs l = put (innermost (open_forms fs)).node (innermost (open_forms fs)).parameter (next_expr (scope_in s (open_forms fs)) l)

  abbrev pub rest_at : List Frame → List ℕ → List ℕ
  rest_at fs l = pass_over (scope_in s (open_forms fs)) l

  unfoldable pub plug : List Frame → Running → List ℕ → Running
  plug [] t l = t
  plug (on_if ∷ fs) t l = plug fs (cond t (term_at fs l) (term_at fs (rest_at fs l))) (rest_at fs (rest_at fs l))
  plug (on_left ∷ fs) t l = plug fs (app t (term_at fs l)) (rest_at fs l)
  plug (on_skip ∷ fs) t l = plug fs t (rest_at fs l)
  plug (on_right v ∷ fs) t l = plug fs (app (val v) t) l
  plug (on_node a ∷ fs) t l = plug fs (attr t a (term_at fs l)) (rest_at fs l)
  plug (on_parameter v a ∷ fs) t l = plug fs (attr (val v) a t) l
  plug (on_forward a ∷ fs) t l = plug fs (attr t a (val (innermost (open_forms fs)).parameter)) l
  plug (on_form o outer ∷ fs) t l = plug fs (form o t) outer

  unfoldable pub term_of : Mode → List ℕ → List Frame → Running
  term_of evaluating l fs = plug fs (term_at fs l) (rest_at fs l)
  term_of (returning v) l fs = plug fs (val v) l

  unfoldable pub state_of : Machine → State
  state_of m = record { term = term_of m.mode m.rest m.frames; entries = m.entries; steps = m.steps }

-- ---- Moves

-- What a machine does next: it is at a value and has no frames; it moves, uncounted; it takes a counted step; or it stops.
pub data Move : Type 0 where
  finishes : Value → Move
  moves : Machine → Move
  takes : Counted → Machine → Move
  stops : Reason → Move

module _ (s : Sheet) (capacity budget : ℕ) (m : Machine) where
  -- the machine with another mode, rest and frames
  abbrev pub goes : Mode → List ℕ → List Frame → Machine
  goes mode rest frames = record m { mode = mode; rest = rest; frames = frames }

  abbrev pub counted : Mode → List ℕ → List Frame → List Entry → Machine
  counted mode rest frames entries = record { mode = mode; rest = rest; frames = frames; entries = entries; steps = suc m.steps }

  -- a head is read; `l` are the bytes after it
  unfoldable pub read_head : Head → List ℕ → Machine
  read_head (base_literal t) l = goes (returning (of_word t (of_bytes (take (operand_width t) l)))) (drop (operand_width t) l) m.frames
  read_head function_literal l = goes (returning (function (function_of (get_or l 0 0)))) (drop 1 l) m.frames
  read_head if_head l = goes evaluating l (on_if ∷ m.frames)
  read_head application_head l = goes evaluating l (on_left ∷ m.frames)
  read_head attribute_head l = goes evaluating (drop 1 l) (on_node (get_or l 0 0) ∷ m.frames)
  read_head this_head l = goes (returning (node (innermost (open_forms m.frames)).node)) l m.frames
  read_head parameter_head l = goes (returning (innermost (open_forms m.frames)).parameter) l m.frames
  read_head no_head l = goes (returning unit) l m.frames

  -- a counted step, if there is budget
  unfoldable pub within : Counted → Machine → Move
  within r next = Bool.cond (ltb m.steps budget) (takes r next) (stops spent)

  -- IF: the branch that is not taken is passed over, before the other or after it
  unfoldable pub branch : Bool → List Frame → Move
  branch true fs = within CondTrue (counted evaluating m.rest (on_skip ∷ fs) m.entries)
  branch false fs = within CondFalse (counted evaluating (pass_over (scope_in s (open_forms fs)) m.rest) fs m.entries)

  -- AppApp: with what the function gives, or none
  unfoldable pub application_due : List Frame → Option Value → Move
  application_due fs (some v) = within AppApp (counted (returning v) m.rest fs m.entries)
  application_due fs none = stops (as_plain by_overflow)

  -- AttrApp. A kept value, and a figure, are there at once: the form around them is written and gone, and there is no frame for it. So no more than
  -- 64 forms have a frame.
  unfoldable pub defined : Occurrence → List Frame → Definition → Machine
  defined o fs undefined = counted (returning unit) m.rest fs (write capacity m.entries record { occurrence = o; value = unit })
  defined o fs (figure v) = counted (returning v) m.rest fs (write capacity m.entries record { occurrence = o; value = v })
  defined o fs (piece_of p) = counted evaluating p (on_form o m.rest ∷ fs) m.entries
  defined o fs (forward_of p) = counted evaluating p (on_forward o.attribute ∷ on_form o m.rest ∷ fs) m.entries

  unfoldable pub applied : Occurrence → List Frame → Option Value → Machine
  applied o fs none = defined o fs (definition s o.node o.attribute)
  applied o fs (some v) = counted (returning v) m.rest fs m.entries

  unfoldable pub attribute_due : Occurrence → List Frame → Move
  attribute_due o fs =
      Bool.cond (eqb o.node null) (stops (as_plain on_null))
      (Bool.cond (circular m.entries (open_forms fs) o) (stops circle)
      (Bool.cond (ltb m.steps budget)
      (Bool.cond (too_deep m.entries (open_forms fs) o) (stops depth)
      (takes (AttrApp o.attribute) (applied o fs (kept m.entries o))))
      (stops spent)))

  -- a value is given to the innermost frame
  unfoldable pub give : Value → List Frame → Move
  give v [] = finishes v
  give v (on_if ∷ fs) = branch (truth v) fs
  give v (on_left ∷ fs) = moves (goes evaluating m.rest (on_right v ∷ fs))
  give v (on_skip ∷ fs) = moves (goes (returning v) (pass_over (scope_in s (open_forms fs)) m.rest) fs)
  give v (on_right f ∷ fs) = application_due fs (apply f v)
  give v (on_node a ∷ fs) = moves (goes evaluating m.rest (on_parameter v a ∷ fs))
  give v (on_parameter n a ∷ fs) = attribute_due record { node = node_of n; attribute = a; parameter = v } fs
  give v (on_forward a ∷ fs) = moves (goes (returning (innermost (open_forms fs)).parameter) m.rest (on_parameter v a ∷ fs))
  give v (on_form o outer ∷ fs) =
      moves record m { mode = returning v; rest = outer; frames = fs; entries = write capacity m.entries record { occurrence = o; value = v } }

  unfoldable pub read_next : List ℕ → Machine
  read_next [] = goes (returning unit) [] m.frames
  read_next (c ∷ l) = read_head (head_of c) l

  unfoldable pub move_of : Mode → Move
  move_of evaluating = moves (read_next m.rest)
  move_of (returning v) = give v m.frames

unfoldable pub move : Sheet → ℕ → ℕ → Machine → Move
move s capacity budget m = move_of s capacity budget m m.mode

-- `m'` is next after `m`, by a move that is not counted or by a step that is
pub data Next (s : Sheet) (capacity budget : ℕ) (m m' : Machine) : Type 0 where
  by_move : move s capacity budget m ≡ moves m' → Next s capacity budget m m'
  by_step : (r : Counted) → move s capacity budget m ≡ takes r m' → Next s capacity budget m m'
