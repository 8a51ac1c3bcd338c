-- The literals: what is read after the head of one, and its type.
use Rattle.std.specs.Prelude.{None as none, Some as some}
use mathlib.Core.Bool.{true, false}
use mathlib.Core.List.{List}
use mathlib.Core.Path.{◌≡◌, refl}
use Prim.Native.Nat.{ℕ, ◌+◌, ◌≤◌, ◌<◌}
use lib.ListN.{length, take, get_or}
use borrow.Author.Tests.{le-leb, lt-leb, lt-ltb, le-ltb, ne_eqb}
use Rattle.saiga.specs.declared.Base.{Base}
use Rattle.saiga.specs.declared.Base.TheVariants.{Node as node_t}
use Rattle.saiga.specs.Values.{Ty, base, function_of, function_type, of_bytes, is_word, type_of}
use Rattle.saiga.specs.Expressions.{Scope, base_literal, function_literal, this_head, parameter_head, no_head, head_of, operand_width, read_operand, read_after, whenever}
use Rattle.saiga.specs.Types.{Attribute, infer}
use Rattle.saiga.proofs.FourBytes.{word_in, in-type}
use Rattle.expressions.specs.Forms.{form_of, form_after}

-- ---- Operands

module _ (s : Scope) (sig : List Attribute) (p : Base) (k : ℕ) (l : List ℕ) where
  module _ (B : Base) where
    pub operand_short : length l < operand_width B → none ≡ form_after s sig p k (base_literal B) l
    unfolding form_of read_after read_operand whenever
    operand_short h = rw (lt-leb (operand_width B) (length l) h)

    pub operand-reads : operand_width B ≤ length l → is_word s.nodes B (of_bytes (take (operand_width B) l)) ≡ true
        → some (1 + operand_width B, some (base B)) ≡ form_after s sig p k (base_literal B) l
    unfolding form_of read_after read_operand whenever infer
    operand-reads h w = rw (le-leb (operand_width B) (length l) h, w, in-type (word_in s.nodes B _ w))

    pub operand-refused : operand_width B ≤ length l → is_word s.nodes B (of_bytes (take (operand_width B) l)) ≡ false
        → none ≡ form_after s sig p k (base_literal B) l
    unfolding form_of read_after read_operand whenever
    operand-refused h w = rw (le-leb (operand_width B) (length l) h, w)

  pub function-short : length l < 1 → none ≡ form_after s sig p k function_literal l
  unfolding form_of read_after whenever
  function-short h = rw (lt-leb 1 (length l) h)

  pub function-reads : 1 ≤ length l → get_or l 0 0 < 6
      → some (2, some (function_type (function_of (get_or l 0 0)))) ≡ form_after s sig p k function_literal l
  unfolding form_of read_after whenever infer type_of
  function-reads h f = rw (le-leb 1 (length l) h, lt-ltb (get_or l 0 0) 6 f)

  pub function-refused : 1 ≤ length l → 6 ≤ get_or l 0 0 → none ≡ form_after s sig p k function_literal l
  unfolding form_of read_after whenever
  function-refused h f = rw (le-leb 1 (length l) h, le-ltb (get_or l 0 0) 6 f)

-- ---- Without operands

-- a byte that is no head: what the code's `match` has left over when none of its arms was taken
pub record NoHead (c : ℕ) : Type 0 where
  pub unit : c ≡ 0x10 → ⊥
  pub bool : c ≡ 0x11 → ⊥
  pub int : c ≡ 0x12 → ⊥
  pub node : c ≡ 0x13 → ⊥
  pub function : c ≡ 0x14 → ⊥
  pub if : c ≡ 0x20 → ⊥
  pub application : c ≡ 0x21 → ⊥
  pub attribute : c ≡ 0x22 → ⊥
  pub this : c ≡ 0x30 → ⊥
  pub parameter : c ≡ 0x31 → ⊥

pub no-head-is : (c : ℕ) → NoHead c → head_of c ≡ no_head
unfolding head_of
no-head-is c h =
    rw (
      ne_eqb c 0x10 h.unit,
      ne_eqb c 0x11 h.bool,
      ne_eqb c 0x12 h.int,
      ne_eqb c 0x13 h.node,
      ne_eqb c 0x14 h.function,
      ne_eqb c 0x20 h.if,
      ne_eqb c 0x21 h.application,
      ne_eqb c 0x22 h.attribute,
      ne_eqb c 0x30 h.this,
      ne_eqb c 0x31 h.parameter,
    )

module _ (s : Scope) (sig : List Attribute) (p : Base) (k : ℕ) (l : List ℕ) where
  pub this-reads : s.has-this ≡ true → some (1, some (base node_t)) ≡ form_after s sig p k this_head l
  unfolding form_of read_after whenever infer
  this-reads h = rw h

  pub this-refused : s.has-this ≡ false → none ≡ form_after s sig p k this_head l
  unfolding form_of read_after whenever
  this-refused h = rw h

  pub parameter-reads : {t : Ty} → s.has-parameter ≡ true → t ≡ base p → some (1, some t) ≡ form_after s sig p k parameter_head l
  unfolding form_of read_after whenever infer
  parameter-reads h e = rw (h, e)

  pub parameter-refused : s.has-parameter ≡ false → none ≡ form_after s sig p k parameter_head l
  unfolding form_of read_after whenever
  parameter-refused h = rw h

  pub no-head-refused : none ≡ form_after s sig p k no_head l
  unfolding form_of read_after
  no-head-refused = refl

-- The operands, for the functions that read them.
pub ruleset operand_laws = (operand_short, operand-reads, operand-refused, function-short, function-reads, function-refused)
