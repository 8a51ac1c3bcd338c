-- What the code relies on where it makes a move, and what it brings where a contract cannot name the width or the packed value.
use Rattle.std.specs.Prelude.{true, List, ◌≡◌, ℕ, ◌+◌, ◌*◌, ◌-◌, ◌≤◌, ◌<◌, length, get_or}
use Rattle.saiga.specs.Limits.{node_limit, depth_limit}
use Rattle.saiga.specs.Values.{word_limit, base_of, is_word}
use Rattle.saiga.specs.Expressions.{Head, base_literal, function_literal, if_head, application_head, attribute_head, this_head, parameter_head, no_head, head_of}
use Rattle.values.specs.Layout.{parameter_at}
use Rattle.expressions.specs.Noted.{WidthOf}
use Rattle.expressions.specs.Widths.{Starts, head_width}
use Rattle.engine.specs.FrameWords.{pair_node, pair_attribute}
use Rattle.engine.specs.Represents.{Packs}
use Rattle.engine.specs.Decode.{frame_limit, run_size, form_place, words_in, forms_in, opens_in}
use Rattle.engine.specs.Steps.{Memory, write_word}
use Rattle.engine.specs.declared.Registers.{Registers}

-- the memory that a store and the array of a run are
abbrev pub memory_of : List ℕ → List ℕ → Memory
memory_of store run = record { store = store; words = words_in run; forms = forms_in run }

-- ---- The innermost form

-- where its four numbers stand in the array of the run, and the first of them: its node and its attribute
abbrev pub innermost_place : Registers → ℕ
innermost_place m = form_place (m.forms - 1)

abbrev pub innermost_pair : List ℕ → Registers → ℕ
innermost_pair run m = get_or run (innermost_place m) 0

-- A form is open, and its node is a Node's number.
pub record NodeReady (run : List ℕ) (m : Registers) : Type 0 where
  pub size : length run ≡ run_size
  pub opened : 1 ≤ m.forms
  pub few : m.forms ≤ depth_limit
  pub small : pair_node (innermost_pair run m) < 65536

-- And its parameter's word is one of the type that the sheet has for its attribute.
pub record ParameterReady (sheet run : List ℕ) (m : Registers) : Type 0 where
  pub node : NodeReady run m
  pub declared : 3 * (pair_attribute (innermost_pair run m)) + 2 < length sheet
  pub word : is_word node_limit (base_of (parameter_at sheet (pair_attribute (innermost_pair run m)))) (get_or run (innermost_place m + 1) 0) ≡ true
  pub word_small : get_or run (innermost_place m + 1) 0 < word_limit

-- ---- Reading a head

-- what a head needs besides its operand
abbrev pub HeadReady : List ℕ → List ℕ → Registers → Head → Type 0
HeadReady sheet run m (base_literal t) = Unit {0}
HeadReady sheet run m function_literal = Unit {0}
HeadReady sheet run m if_head = Unit {0}
HeadReady sheet run m application_head = Unit {0}
HeadReady sheet run m attribute_head = Unit {0}
HeadReady sheet run m this_head = NodeReady run m
HeadReady sheet run m parameter_head = ParameterReady sheet run m
HeadReady sheet run m no_head = ⊥

-- `e` is the rest of the running piece: a head with its operand stands there, and there is room for a frame.
pub record ReadReady (sheet e run : List ℕ) (m : Registers) : Type 0 where
  pub some : 0 < length e
  pub operand : head_width (head_of (get_or e 0 0)) ≤ length e
  pub inside : m.at + length e ≤ m.end
  pub size : length run ≡ run_size
  pub room : m.frames < frame_limit
  pub head : HeadReady sheet run m (head_of (get_or e 0 0))

-- ---- Giving a value

-- There is a frame, and room for one more, and the array of the run has its length.
pub record FrameReady (run : List ℕ) (m : Registers) : Type 0 where
  pub size : length run ≡ run_size
  pub framed : 1 ≤ m.frames
  pub inside : m.frames < frame_limit

-- The innermost frame's word is made another, which holds the value in a word. The index of the open forms is as it was.
pub record Rewrites (m : Registers) (run run' : List ℕ) (word : ℕ → ℕ) : Type 0 where
  pub packed : ℕ
  pub packs : Packs m.value packed
  pub written : (store : List ℕ) → memory_of store run' ≡ write_word (memory_of store run) (m.frames - 1) (word packed)
  pub beyond : opens_in run' ≡ opens_in run

-- An expression stands at the front of the rest, to be passed over. Inside a form its width is noted.
pub record PassReady (notes e : List ℕ) (m : Registers) : Type 0 where
  pub starts : Starts e
  pub inside : 0 < m.forms → m.at < length notes
  pub noted : 0 < m.forms → WidthOf e (1 + get_or notes m.at 0)

-- what holds of the width of the expression at the front of the rest
pub record Passes (e : List ℕ) (P : ℕ → Type 0) : Type 0 where
  pub skip : ℕ
  pub width : WidthOf e skip
  pub after : P skip

-- the registers back at the frame below, behind the branch that is not taken
abbrev pub skipped : Registers → ℕ → Registers
skipped m skip = record m { returning = true; at = m.at + skip; frames = m.frames - 1 }
