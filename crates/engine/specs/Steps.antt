-- One move of the machine on registers and lent memory, as the code makes it. Steps.antt of proofs/ shows that it is a move of Machine.antt.
use Rattle.std.specs.Prelude.{Bool, true, false, cond, List, [], ◌∷◌, ℕ, ◌+◌, ◌*◌, ◌-◌, ◌/◌, leb, eqb, length, take, drop, get_or, set}
use Rattle.std.specs.Prelude.{Option, None as none, Some as some}
use Rattle.saiga.specs.Limits.{entry_width, depth_limit}
use Rattle.saiga.specs.Values.{null, function_of, base_of, of_bytes, of_word, to_word, truth, node_of, apply}
use Rattle.saiga.specs.declared.Value.{Value}
use Rattle.saiga.specs.declared.Value.TheVariants.{Node as node, Function as function}
use Rattle.saiga.specs.Expressions.{Head, base_literal, function_literal, if_head, application_head, attribute_head, this_head, parameter_head, no_head, head_of, operand_width}
use Rattle.engine.specs.RunningPiece.{rest_of}
use Rattle.values.specs.Layout.{result_at}
use Rattle.values.specs.Packed.{value_in}
use Rattle.engine.specs.FrameWords.{pair_of, pair_node, pair_attribute, kind_of, if_kind, left_kind, skip_kind, right_kind, node_kind, parameter_kind, form_kind, right_word, held_function, node_word, held_attribute, parameter_word, held_node, forward_word}
use Rattle.sheets.specs.Scan.{figure_place, figure_at, indexed, rule_number, forward_number}
use Rattle.saiga.specs.declared.Fields.{Fields}
use Rattle.saiga.specs.Store.{field_bytes}
use Rattle.stores.specs.declared.Key.{Key}
use Rattle.stores.specs.Keys.{find_key, key_in, value_word, fields_for, put_at}
use Rattle.engine.specs.Decode.{form_occurrence}
use Rattle.engine.specs.OpenKeys.{key_open}
use Rattle.engine.specs.declared.Registers.{Registers}

-- The memory that a move may write, besides the store's index.
pub record Memory : Type 0 where
  pub store : List ℕ
  pub words : List ℕ
  pub forms : List ℕ

-- What a move comes to: registers and memory to go on with; a counted step is due at the limit; the value is the run's; or a stop's number.
pub data Stepped : Type 0 where
  goes : Registers → Memory → Stepped
  waits finishes : Stepped
  stops : ℕ → Stepped

-- ---- Registers

abbrev pub returned : Registers → ℕ → Value → Registers
returned m w v = record m { returning = true; at = m.at + w; value = v }

abbrev pub pushed : Registers → ℕ → Registers
pushed m w = record m { returning = false; at = m.at + w; frames = m.frames + 1 }

-- a counted step that pops a frame and has a value
abbrev pub answered : Registers → ℕ → Value → Registers
answered m kept v = record m { returning = true; frames = m.frames - 1; kept = kept; steps = m.steps + 1; value = v }

abbrev pub write_word : Memory → ℕ → ℕ → Memory
write_word mem i w = record mem { words = set mem.words i w }

-- the value of 0x31 inside the innermost form, and the node of 0x30
abbrev pub this_node : List ℕ → Registers → Value
this_node forms m = node (pair_node (get_or forms (4 * (m.forms - 1)) 0))

abbrev pub this_parameter : List ℕ → List ℕ → Registers → Value
this_parameter sheet forms m = (form_occurrence sheet forms (m.forms - 1)).parameter

-- ---- Reading a head

-- `l` are the bytes of the rest after its head. Heads 0x30 and 0x31 stand inside a form.
unfoldable pub read_head : List ℕ → Memory → Registers → Head → List ℕ → Stepped
read_head sheet mem m (base_literal t) l = goes (returned m (1 + operand_width t) (of_word t (of_bytes (take (operand_width t) l)))) mem
read_head sheet mem m function_literal l = goes (returned m 2 (function (function_of (get_or l 0 0)))) mem
read_head sheet mem m if_head l = goes (pushed m 1) (write_word mem m.frames if_kind)
read_head sheet mem m application_head l = goes (pushed m 1) (write_word mem m.frames left_kind)
read_head sheet mem m attribute_head l = goes (pushed m 2) (write_word mem m.frames (node_word (get_or l 0 0)))
read_head sheet mem m this_head l = goes (returned m 1 (this_node mem.forms m)) mem
read_head sheet mem m parameter_head l = goes (returned m 1 (this_parameter sheet mem.forms m)) mem
read_head sheet mem m no_head l = waits

-- ---- Giving a value to a frame

-- the registers evaluating on, with the innermost frame made another
abbrev pub turned : Registers → Registers
turned m = record m { returning = false }

-- CacheWrite on bytes, of an entry of these numbers: the store and the kept number after it
unfoldable pub appended : List ℕ → ℕ → Fields → List ℕ
appended store kept f = put_at store kept (field_bytes f)

unfoldable pub unless_found : List ℕ → ℕ → Fields → Option ℕ → List ℕ × ℕ
unless_found store kept f none = (appended store kept f, kept + 1)
unless_found store kept f (some j) = (store, kept)

unfoldable pub cache_write : List ℕ → ℕ → Fields → List ℕ × ℕ
cache_write store kept f =
    cond (leb (length store / entry_width) kept) (store, kept) (unless_found store kept f (find_key store kept (key_in f)))

unfoldable pub close_form : Memory → Registers → Stepped
close_form mem m =
    let f = 4 * (m.forms - 1) in
    let pair = get_or mem.forms f 0 in
    let q : Key = record { node = pair_node pair; attribute = pair_attribute pair; word = get_or mem.forms (f + 1) 0 } in
    let w = cache_write mem.store m.kept (fields_for q m.value) in
    goes record m {
      returning = true;
      at = get_or mem.forms (f + 2) 0;
      end = get_or mem.forms (f + 3) 0;
      frames = m.frames - 1;
      forms = m.forms - 1;
      kept = w.1;
    } record mem { store = w.0 }

-- IF, with the rest of the running piece
unfoldable pub take_if : ℕ → Memory → Registers → Bool → Stepped
take_if skip mem m true = goes record m { returning = false; steps = m.steps + 1 } (write_word mem (m.frames - 1) skip_kind)
take_if skip mem m false = goes record m { returning = false; at = m.at + skip; frames = m.frames - 1; steps = m.steps + 1 } mem

-- a counted step that is due at the limit waits
abbrev pub until_limit : ℕ → Registers → Stepped → Stepped
until_limit limit m next = cond (leb limit m.steps) waits next

-- the limits of a counted step other than AttrApp of what is not kept
unfoldable pub within : ℕ → ℕ → Registers → Stepped → Stepped
within budget limit m next = cond (leb budget m.steps) (stops 15) (until_limit limit m next)

-- the limits of AttrApp of what is not kept, which needs room for a form
abbrev pub limited : ℕ → ℕ → Registers → Stepped → Stepped
limited budget limit m next = cond (leb budget m.steps) (stops 15) (cond (leb depth_limit m.forms) (stops 16) (until_limit limit m next))

-- AppApp, with what the function gives: 17, then the limits. Overflow that is due at the limit stops the run there.
unfoldable pub take_right : ℕ → ℕ → Memory → Registers → Option Value → Stepped
take_right budget limit mem m (some v) = within budget limit m (goes (answered m m.kept v) mem)
take_right budget limit mem m none = stops 17

-- a figure is answered with what CacheWrite leaves
abbrev pub keeps_figure : Memory → Registers → ℕ → ℕ → ℕ → Value → Stepped
keeps_figure mem m n a word v =
    let w = cache_write mem.store m.kept (fields_for record { node = n; attribute = a; word = word } v) in
    goes (answered m w.1 v) record mem { store = w.0 }

-- One frame more is pushed, the forward's of attribute a: the form that was opened waits for attribute a of the node that its piece gives.
abbrev pub forwarding : ℕ → Stepped → Stepped
forwarding a (goes m mem) = goes (pushed m 0) (write_word mem m.frames (forward_word a))
forwarding a waits = waits
forwarding a finishes = finishes
forwarding a (stops number) = stops number

-- A form is opened around the piece whose length stands at `number`.
unfoldable pub open_piece : List ℕ → Memory → Registers → ℕ → ℕ → ℕ → ℕ → Stepped
open_piece sheet mem m n a word number =
    let f = 4 * m.forms in
    let start = number + 2 in
    goes record m {
      returning = false;
      at = start;
      end = start + of_bytes (take 2 (drop number sheet));
      forms = m.forms + 1;
      steps = m.steps + 1;
    } record mem {
      words = set mem.words (m.frames - 1) form_kind;
      forms = set (set (set (set mem.forms f (pair_of n a)) (f + 1) word) (f + 2) m.at) (f + 3) m.end;
    }

module _ (sheet index : List ℕ) where
  -- AttrApp of an occurrence that is not kept: its figure, or inside a form its rule, or else its kind's forward
  unfoldable pub open_rule : Memory → Registers → ℕ → ℕ → ℕ → Stepped
  open_rule mem m n a word =
      let number = rule_number sheet index n a in
      cond (eqb number 0) (forwarding a (open_piece sheet mem m n a word (forward_number sheet index n))) (open_piece sheet mem m n a word number)

  unfoldable pub open_figure : Memory → Registers → ℕ → ℕ → ℕ → Option Value → Stepped
  open_figure mem m n a word none = open_rule mem m n a word
  open_figure mem m n a word (some v) = keeps_figure mem m n a word v

  -- of one that has no figure, with a circle and the limits before it
  abbrev pub rule_due : ℕ → ℕ → Memory → Registers → ℕ → ℕ → ℕ → Stepped
  rule_due budget limit mem m n a word =
      cond (key_open mem.forms m.forms record { node = n; attribute = a; word = word }) (stops 20) (limited budget limit m (open_rule mem m n a word))

  -- AttrApp: a kept value before the definition. Where none is kept, a circle is tested for, then the budget, then depth. A circle and depth that are due
  -- at the limit stop the run there.
  unfoldable pub take_kept : ℕ → ℕ → Memory → Registers → ℕ → ℕ → Option ℕ → Stepped
  take_kept budget limit mem m n a none =
      cond (key_open mem.forms m.forms record { node = n; attribute = a; word = to_word m.value }) (stops 20)
      (limited budget limit m (open_figure mem m n a (to_word m.value) (indexed (get_or index (figure_place n a) 0) (figure_at sheet a))))
  take_kept budget limit mem m n a (some j) =
      within budget limit m (goes (answered m m.kept (of_word (base_of (result_at sheet a)) (value_word mem.store j))) mem)

  unfoldable pub attribute_due : ℕ → ℕ → Memory → Registers → ℕ → ℕ → Stepped
  attribute_due budget limit mem m n a =
      cond (eqb n null) (stops 14)
      (take_kept budget limit mem m n a (find_key mem.store m.kept record { node = n; attribute = a; word = to_word m.value }))

  -- The value goes to the innermost frame, whose word is `w`. `skip` is the width of the expression at the front of the rest, and `packed`
  -- the value in a word.
  unfoldable pub give : ℕ → ℕ → ℕ → ℕ → Memory → Registers → ℕ → Stepped
  give budget limit skip packed mem m w =
      cond (eqb (kind_of w) if_kind) (within budget limit m (take_if skip mem m (truth m.value)))
      (cond (eqb (kind_of w) left_kind) (goes (turned m) (write_word mem (m.frames - 1) (right_word packed)))
      (cond (eqb (kind_of w) skip_kind)
      (goes record m { returning = true; at = m.at + skip; frames = m.frames - 1 } mem)
      (cond (eqb (kind_of w) right_kind)
      (take_right budget limit mem m (apply (value_in (held_function w)) m.value))
      (cond (eqb (kind_of w) node_kind) (goes (turned m) (write_word mem (m.frames - 1) (parameter_word (held_attribute w) packed)))
      (cond (eqb (kind_of w) form_kind) (close_form mem m)
      (cond (eqb (kind_of w) parameter_kind) (attribute_due budget limit mem m (node_of (value_in (held_node w))) (held_attribute w))
      (goes (returned m 0 (this_parameter sheet mem.forms m)) (write_word mem (m.frames - 1) (parameter_word (held_attribute w) packed)))))))))

  unfoldable pub read_next : Memory → Registers → List ℕ → Stepped
  read_next mem m [] = waits
  read_next mem m (c ∷ l) = read_head sheet mem m (head_of c) l

  -- the move; `sc` is any scope in which what follows is expressions
  unfoldable pub step_of : List ℕ → ℕ → ℕ → ℕ → ℕ → Memory → Registers → Stepped
  step_of question budget limit skip packed mem m =
      cond m.returning
      (cond (eqb m.frames 0) finishes (give budget limit skip packed mem m (get_or mem.words (m.frames - 1) 0)))
      (read_next mem m (rest_of sheet question m.forms m.at m.end))
