-- What AttrApp and CacheWrite rely on.
use Rattle.std.specs.Prelude.{true, false, List, ◌≡◌, ℕ, suc, ◌+◌, ◌*◌, ◌-◌, ◌^◌, ◌≤◌, ◌<◌, length, get_or}
use Rattle.std.specs.Prelude.{None as none, Some as some}
use Rattle.saiga.specs.Limits.{node_limit, entry_width, store_limit, depth_limit}
use Rattle.saiga.specs.Values.{word_limit, base_of, is_word, to_word}
use Rattle.values.specs.Layout.{result_at}
use Rattle.sheets.specs.Scan.{figure_place, IndexedPair, rule_number, forward_number}
use Rattle.stores.specs.declared.Key.{Key}
use Rattle.stores.specs.Walks.{Keyed}
use Rattle.stores.specs.Keys.{Linked, find_key, value_word}
use Rattle.engine.specs.declared.Registers.{Registers}
use Rattle.engine.specs.Decode.{forms_in, opens_in}
use Rattle.engine.specs.OpenKeys.{form_key, key_open}
use Rattle.engine.specs.Ready.{innermost_place, NodeReady, FrameReady}
use Rattle.opens.specs.Opened.{Opened, FreeFor}

-- A store with its index, of a length that passes.
pub record WriteReady (store links : List ℕ) (kept : ℕ) : Type 0 where
  pub linked : Linked store kept links
  pub short : length store ≤ store_limit

-- A form is open, whose numbers stand in the memory of the run, and whose occurrence is not kept.
pub record CloseReady (store links run : List ℕ) (m : Registers) : Type 0 where
  pub writes : WriteReady store links m.kept
  pub framed : 1 ≤ m.frames
  pub node : NodeReady run m
  pub word_small : get_or run (innermost_place m + 1) 0 < word_limit
  pub not_kept : find_key store m.kept (form_key (forms_in run) (m.forms - 1)) ≡ none

-- There is a frame to give the value to, and the step can be counted.
pub record StepReady (run : List ℕ) (m : Registers) : Type 0 where
  pub frame : FrameReady run m
  pub counts : m.steps + 1 < 2 ^ 64

-- The open forms are indexed; none of them has the key, which has a free place in their index.
pub record OpenReady (run : List ℕ) (m : Registers) (q : Key) (place : ℕ) : Type 0 where
  pub keyed : Keyed q
  pub opened : Opened (forms_in run) (opens_in run) m.forms
  pub closed : key_open (forms_in run) m.forms q ≡ false
  pub free : FreeFor (opens_in run) m.forms q place

-- A declared pair of an indexed sheet whose kind has a rule for the attribute, or a forward.
pub record IndexedPiece (sheet index : List ℕ) (n a : ℕ) : Type 0 where
  pub pair : IndexedPair sheet index n a
  pub defined : rule_number sheet index n a ≡ 0 → forward_number sheet index n ≡ 0 → ⊥

-- a rule or a forward to run, and room for its form
pub record RuleReady (sheet index : List ℕ) (run : List ℕ) (m : Registers) (n a : ℕ) : Type 0 where
  pub rule : IndexedPiece sheet index n a
  pub step : StepReady run m
  pub few : m.forms < depth_limit

-- Entry j keeps a value of the type that the sheet has for the attribute's results, and there is a frame to give it to.
pub record FoundReady (sheet store : List ℕ) (m : Registers) (a j : ℕ) : Type 0 where
  pub framed : 1 ≤ m.frames
  pub declared : 3 * a + 3 ≤ length sheet
  pub stands : entry_width * j + entry_width ≤ length store
  pub word : is_word node_limit (base_of (result_at sheet a)) (value_word store j) ≡ true

-- A declared pair of an indexed sheet, of which one definition is there, and whose kept value is one of its type; a frame to give the value to; and the
-- open forms are indexed, of which none has a figure.
pub record AttributeReady (sheet index : List ℕ) (store links run : List ℕ) (m : Registers) (n a : ℕ) : Type 0 where
  pub pair : IndexedPair sheet index n a
  pub defined : get_or index (figure_place n a) 0 ≡ 0 → rule_number sheet index n a ≡ 0 → forward_number sheet index n ≡ 0 → ⊥
  pub kept_word : (j : ℕ) → find_key store m.kept record { node = n; attribute = a; word = to_word m.value } ≡ some j
      → is_word node_limit (base_of (result_at sheet a)) (value_word store j) ≡ true
  pub writes : WriteReady store links m.kept
  pub frame : FrameReady run m
  pub opened : Opened (forms_in run) (opens_in run) m.forms
  pub figure_closed : (at : ℕ) → get_or index (figure_place n a) 0 ≡ suc at
      → key_open (forms_in run) m.forms record { node = n; attribute = a; word = to_word m.value } ≡ false
