-- Heads that are read, as the code reads them: by the bytes at the front of the rest.
use mathlib.Core.Bool.{Bool, true, false, cond}
use mathlib.Core.List.{List, [], ◌∷◌}
use mathlib.Core.Path.{◌≡◌, refl, sym, ap, ◌∙◌}
use Prim.Native.Nat.{ℕ, ◌+◌, ◌*◌, ◌≤◌, ◌<◌}
use native.Mathlib.Omega.{arith}
use lib.Dec.{eqb}
use lib.ListN.{length, take, drop, get_or}
use lib.Seq.{get_or-drop}
use borrow.Author.Tests.{ne_eqb}
use Rattle.saiga.specs.Values.{function_of, of_bytes, signed, of_word}
use Rattle.saiga.specs.declared.Base.TheVariants.{Unit as unit_t, Bool as bool_t, Int as int_t, Node as node_t}
use Rattle.saiga.specs.declared.Value.TheVariants.{Unit as unit, Bool as bool, Int as int, Node as node, Function as function}
use Rattle.saiga.specs.Expressions.{Head, base_literal, function_literal, if_head, application_head, attribute_head, this_head, parameter_head, no_head, head_of}
use Rattle.saiga.proofs.Reading.{read-width}
use Rattle.values.proofs.Bytes.{bytes-at}
use Rattle.expressions.specs.Widths.{Starts, head_width}
use Rattle.engine.specs.FrameWords.{if_kind, left_kind, node_word}
use Rattle.engine.specs.Decode.{forms_in}
use Rattle.engine.specs.Steps.{Memory, Stepped, goes, returned, pushed, write_word, this_node, this_parameter, read_head, read_next}
use Rattle.expressions.specs.Noted.{WidthOf}
use Rattle.engine.specs.Ready.{memory_of, ParameterReady, HeadReady, ReadReady}
use Rattle.engine.specs.declared.Registers.{Registers}

-- ---- Operands

-- one byte, and two
byte-operand : (e : List ℕ) → 2 ≤ length e → of_bytes (take 1 (drop 1 e)) ≡ get_or e 1 0
unfolding of_bytes
byte-operand e h = bytes-at 0 e 1 (omega arith) ∙ omega arith

pub two-operand : (e : List ℕ) → 3 ≤ length e → of_bytes (take 2 (drop 1 e)) ≡ get_or e 1 0 + 256 * get_or e 2 0
unfolding of_bytes
two-operand e h = bytes-at 1 e 1 (omega arith) ∙ rw (bytes-at 0 e 2 (omega arith)) (omega arith)

-- What a head has behind it, by its byte.
module _ (e : List ℕ) (operand : head_width (head_of (get_or e 0 0)) ≤ length e) where
  pub one-byte : get_or e 0 0 ≡ 0x11 → 2 ≤ length e
  unfolding head_of
  one-byte is = rw is at operand

  pub four-bytes : get_or e 0 0 ≡ 0x12 → 5 ≤ length e
  unfolding head_of
  four-bytes is = rw is at operand

  pub two-bytes : get_or e 0 0 ≡ 0x13 → 3 ≤ length e
  unfolding head_of
  two-bytes is = rw is at operand

  pub code-byte : get_or e 0 0 ≡ 0x14 → 2 ≤ length e
  unfolding head_of
  code-byte is = rw is at operand

  pub number-byte : get_or e 0 0 ≡ 0x22 → 2 ≤ length e
  unfolding head_of
  number-byte is = rw is at operand

-- ---- Heads

-- a head is taken off the front
take_head : (sheet index : List ℕ) (mem : Memory) (m : Registers) (e : List ℕ) (h : Head) → 0 < length e → head_of (get_or e 0 0) ≡ h
    → read_head sheet mem m h (drop 1 e) ≡ read_next sheet index mem m e
unfolding read_next
take_head sheet index mem m [] h some is = absurd (omega arith)
take_head sheet index mem m (c ∷ l) h some is = ap (λ h. read_head sheet mem m h l) (sym is)

-- That a byte is none of the heads 0x10 to 0x30, as a `match` on it hands that to its last arm.
abbrev Other : ℕ → Type 0
Other c =
    ((((((((Unit {0} × (c ≡ 0x10 → ⊥)) × (c ≡ 0x11 → ⊥)) × (c ≡ 0x12 → ⊥)) × (c ≡ 0x13 → ⊥)) × (c ≡ 0x14 → ⊥)) × (c ≡ 0x20 → ⊥)) × (c ≡ 0x21 → ⊥))
    × (c ≡ 0x22 → ⊥))
    × (c ≡ 0x30 → ⊥)

other-head : (c : ℕ) → Other c → head_of c ≡ cond (eqb c 0x31) parameter_head no_head
unfolding head_of
other-head c rest =
    rw (
      ne_eqb c 0x10 rest.0.0.0.0.0.0.0.0.1,
      ne_eqb c 0x11 rest.0.0.0.0.0.0.0.1,
      ne_eqb c 0x12 rest.0.0.0.0.0.0.1,
      ne_eqb c 0x13 rest.0.0.0.0.0.1,
      ne_eqb c 0x14 rest.0.0.0.0.1,
      ne_eqb c 0x20 rest.0.0.0.1,
      ne_eqb c 0x21 rest.0.0.1,
      ne_eqb c 0x22 rest.0.1,
      ne_eqb c 0x30 rest.1,
    )

module _ {sheet e run : List ℕ} {m : Registers} (ready : ReadReady sheet e run m) where
  -- the head of the last arm
  last-head : Other (get_or e 0 0) → head_of (get_or e 0 0) ≡ parameter_head
  last-head rest = other-head (get_or e 0 0) rest ∙ go (eqb (get_or e 0 0) 0x31) (rw (other-head (get_or e 0 0) rest) at ready.head)
    where
      go : (b : Bool) → HeadReady sheet run m (cond b parameter_head no_head) → cond b parameter_head no_head ≡ parameter_head
      go true r = refl
      go false r = absurd r

  pub parameter-ready : Other (get_or e 0 0) → ParameterReady sheet run m
  parameter-ready rest = rw (last-head rest) at ready.head

  -- What each head comes to.
  module _ (index : List ℕ) (store : List ℕ) where
    abbrev mem : Memory
    mem = memory_of store run

    abbrev Reads : Stepped → Type 0
    Reads to = to ≡ read_next sheet index mem m e

    reads_as : (h : Head) → head_of (get_or e 0 0) ≡ h → Reads (read_head sheet mem m h (drop 1 e))
    reads_as h is = take_head sheet index mem m e h ready.some is

    pub reads-unit : get_or e 0 0 ≡ 0x10 → Reads (goes (returned m 1 unit) mem)
    unfolding head_of read_head of_word
    reads-unit is = reads_as (base_literal unit_t) (rw is)

    pub reads-bool : get_or e 0 0 ≡ 0x11 → Reads (goes (returned m 2 (bool (eqb (get_or e 1 0) 1))) mem)
    unfolding head_of read_head of_word
    reads-bool is = rw (← byte-operand e (rw is at ready.operand)) (reads_as (base_literal bool_t) (rw is))

    pub reads_int : get_or e 0 0 ≡ 0x12 → Reads (goes (returned m 5 (int (signed (of_bytes (take 4 (drop 1 e)))))) mem)
    unfolding head_of read_head of_word
    reads_int is = reads_as (base_literal int_t) (rw is)

    pub reads-node : get_or e 0 0 ≡ 0x13 → Reads (goes (returned m 3 (node (of_bytes (take 2 (drop 1 e))))) mem)
    unfolding head_of read_head of_word
    reads-node is = reads_as (base_literal node_t) (rw is)

    pub reads-function : get_or e 0 0 ≡ 0x14 → Reads (goes (returned m 2 (function (function_of (get_or e 1 0)))) mem)
    unfolding head_of read_head
    reads-function is = rw (get_or-drop 1 e 0 0) at (reads_as function_literal (rw is))

    pub reads-if : get_or e 0 0 ≡ 0x20 → Reads (goes (pushed m 1) (write_word mem m.frames if_kind))
    unfolding head_of read_head
    reads-if is = reads_as if_head (rw is)

    pub reads-application : get_or e 0 0 ≡ 0x21 → Reads (goes (pushed m 1) (write_word mem m.frames left_kind))
    unfolding head_of read_head
    reads-application is = reads_as application_head (rw is)

    pub reads-attribute : get_or e 0 0 ≡ 0x22 → Reads (goes (pushed m 2) (write_word mem m.frames (node_word (get_or e 1 0))))
    unfolding head_of read_head
    reads-attribute is = rw (get_or-drop 1 e 0 0) at (reads_as attribute_head (rw is))

    pub reads-this : get_or e 0 0 ≡ 0x30 → Reads (goes (returned m 1 (this_node (forms_in run) m)) mem)
    unfolding head_of read_head
    reads-this is = reads_as this_head (rw is)

    pub reads-parameter : Other (get_or e 0 0) → Reads (goes (returned m 1 (this_parameter sheet (forms_in run) m)) mem)
    unfolding read_head
    reads-parameter rest = reads_as parameter_head (last-head rest)

pub ruleset operand_laws = (one-byte, four-bytes, two-bytes, code-byte, number-byte, reads-unit, reads-bool, reads_int, reads-node, reads-function, reads-if, reads-application, reads-attribute, reads-this, reads-parameter, two-operand, parameter-ready)

-- ---- What is passed over

pub skip_inside : {e : List ℕ} {skip : ℕ} → Starts e → WidthOf e skip → skip ≤ length e
skip_inside {e} starts width =
    omega (arith, width starts.scope starts.expr starts.width starts.read, read-width _ _ e _ _ starts.read)
