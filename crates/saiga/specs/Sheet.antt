-- A sheet read from bytes, stops 1 to 8, and the context σ (document 01, "The sheet" and "Stops by origin").
use Rattle.std.specs.Prelude.{Bool, true, false, ◌&&◌, cond, List, [], ◌∷◌, ◌++◌, ℕ, zero, suc, ◌+◌, leb, ltb, eqb, length, take, drop, get_or}
use Rattle.std.specs.Prelude.{Option, None as none, Some as some}
use Rattle.saiga.specs.Limits.{sheet_limit, attribute_limit, node_limit, last_kind}
use Rattle.saiga.specs.Values.{Base, unit_t, node_t, base_of, base, Value, unit, of_bytes, is_word, of_word}
use Rattle.saiga.specs.Expressions.{Expr, literal, attribute, parameter, Scope, Whole, no_expression, expression, read_whole}
use Rattle.saiga.specs.Types.{Attribute, attribute_at, has_type}
use Rattle.saiga.specs.Gaps.{first_gap}

-- ---- What a sheet says

pub record Figure : Type 0 where
  pub node : ℕ
  pub attribute : ℕ
  pub value : Value

-- The rule's expression is kept as "a piece of the sheet's own bytes".
pub record Rule : Type 0 where
  pub kind : ℕ
  pub attribute : ℕ
  pub piece : List ℕ

-- A kind's forward (document 02, F-7), whose expression is a piece as a rule's is.
pub record Forward : Type 0 where
  pub kind : ℕ
  pub piece : List ℕ

-- The attributes and the nodes' kinds in the order of their numbers, the figures, the rules and the forwards.
pub record Sheet : Type 0 where
  pub attributes : List Attribute
  pub kinds : List ℕ
  pub figures : List Figure
  pub rules : List Rule
  pub forwards : List Forward

abbrev pub empty_sheet : Sheet
empty_sheet = record { attributes = []; kinds = []; figures = []; rules = []; forwards = [] }

abbrev pub node_count : Sheet → ℕ
node_count s = length s.kinds

abbrev pub attribute_count : Sheet → ℕ
attribute_count s = length s.attributes

unfoldable pub figure_for : List Figure → ℕ → ℕ → Option Value
figure_for [] n a = none
figure_for (f ∷ l) n a = cond (eqb f.node n && eqb f.attribute a) (some f.value) (figure_for l n a)

unfoldable pub rule_for : List Rule → ℕ → ℕ → Option (List ℕ)
rule_for [] k a = none
rule_for (r ∷ l) k a = cond (eqb r.kind k && eqb r.attribute a) (some r.piece) (rule_for l k a)

unfoldable pub forward_for : List Forward → ℕ → Option (List ℕ)
forward_for [] k = none
forward_for (f ∷ l) k = cond (eqb f.kind k) (some f.piece) (forward_for l k)

-- ---- The context

-- Where a rule's expression, a forward's ("may use 0x30 but not 0x31") and a question stand.
unfoldable pub rule_scope : Sheet → Scope
rule_scope s = record { nodes = node_count s; attributes = attribute_count s; has-this = true; has-parameter = true }

unfoldable pub forward_scope : Sheet → Scope
forward_scope s = record { nodes = node_count s; attributes = attribute_count s; has-this = true; has-parameter = false }

unfoldable pub question_scope : Sheet → Scope
question_scope s = record { nodes = node_count s; attributes = attribute_count s; has-this = false; has-parameter = false }

-- The definition in force: "the figure for (n, a) if there is one, else the rule for n's kind and a"; and "where a pair has neither figure nor rule and its
-- kind has a forward", that.
pub data Definition : Type 0 where
  undefined : Definition
  figure : Value → Definition
  piece_of : List ℕ → Definition
  forward_of : List ℕ → Definition

unfoldable pub forwarded : Option (List ℕ) → Definition
forwarded none = undefined
forwarded (some p) = forward_of p

unfoldable pub ruled : Option (List ℕ) → Definition → Definition
ruled none d = d
ruled (some p) d = piece_of p

unfoldable pub figured : Option Value → Definition → Definition
figured none d = d
figured (some v) d = figure v

unfoldable pub definition : Sheet → ℕ → ℕ → Definition
definition s n a =
    let k = get_or s.kinds n 0 in
    figured (figure_for s.figures n a) (ruled (rule_for s.rules k a) (forwarded (forward_for s.forwards k)))

-- The expression of a definition of attribute a. By a forward f it is "attribute a of f with parameter v": f's piece is in the sheet, the rest of the expression
-- is not. σ(n, a, v) is this one "with n and v put for 0x30 and 0x31" (Terms.antt). An accepted sheet defines every declared pair, so the cases that stand for
-- nothing are never met there (Accepted.antt).
unfoldable pub whole_expr : Whole → Expr
whole_expr no_expression = literal unit
whole_expr (expression e) = e

unfoldable pub definition_expr : Sheet → ℕ → Definition → Expr
definition_expr s a undefined = literal unit
definition_expr s a (figure v) = literal v
definition_expr s a (piece_of p) = whole_expr (read_whole (rule_scope s) p)
definition_expr s a (forward_of p) = attribute (whole_expr (read_whole (forward_scope s) p)) a parameter

unfoldable pub context : Sheet → ℕ → ℕ → Expr
context s n a = definition_expr s a (definition s n a)

-- ---- Commands

-- "0x41 attribute, 0x4E node, 0x56 figure, 0x52 rule, 0x5A end"; and 0x46, forward
pub data Command : Type 0 where
  attribute_command node_command figure_command rule_command forward_command end_command no_command : Command

unfoldable pub command_of : ℕ → Command
command_of c =
    cond (eqb c 0x41) attribute_command
    (cond (eqb c 0x4E) node_command
    (cond (eqb c 0x56) figure_command
    (cond (eqb c 0x52) rule_command
    (cond (eqb c 0x46) forward_command
    (cond (eqb c 0x5A) end_command no_command)))))

-- "in this order of kind": the part of the sheet that a command stands in. A forward "stands among the rules in any order".
abbrev pub attribute_part : ℕ
attribute_part = 0

abbrev pub node_part : ℕ
node_part = 1

abbrev pub figure_part : ℕ
figure_part = 2

abbrev pub rule_part : ℕ
rule_part = 3

-- A command that was read: how many bytes it takes, its part, and the sheet so far.
pub record Advance : Type 0 where
  pub width : ℕ
  pub part : ℕ
  pub sheet : Sheet

-- What reading one command comes to: a stop, by its number, at so many bytes past the command's offset; the end; or a command that was read.
infix 20 stops◌at_offset◌
pub data Read : Type 0 where
  stops◌at_offset◌ : ℕ → ℕ → Read
  ends : Read
  goes_on : Advance → Read

-- the stop with this number, unless the test holds
unfoldable pub require : Bool → ℕ → Read → Read
require true number r = r
require false number r = stops number at_offset 0

-- Each of the six below has what follows the command's byte, `l`, and makes its tests in the order of the stops. All but `read_end` have
-- the part reached: the end may follow any part.

unfoldable pub read_attribute : Sheet → ℕ → List ℕ → Read
read_attribute s part l =
    require (leb part attribute_part && leb 2 (length l)) 2
    (require (ltb (attribute_count s) attribute_limit) 3
    (require (ltb (get_or l 0 0) 4 && ltb (get_or l 1 0) 4) 4
    (goes_on record {
      width = 3;
      part = attribute_part;
      sheet =
          record {
            attributes = s.attributes ++ record { result = base_of (get_or l 0 0); parameter-type = base_of (get_or l 1 0) } ∷ [];
            kinds = s.kinds;
            figures = s.figures;
            rules = s.rules;
            forwards = s.forwards;
          };
    })))

unfoldable pub read_node : Sheet → ℕ → List ℕ → Read
read_node s part l =
    require (leb part node_part && leb 1 (length l)) 2
    (require (ltb (node_count s) node_limit) 3
    (require (leb (get_or l 0 0) last_kind) 4
    (goes_on record {
      width = 2;
      part = node_part;
      sheet =
          record {
            attributes = s.attributes;
            kinds = s.kinds ++ get_or l 0 0 ∷ [];
            figures = s.figures;
            rules = s.rules;
            forwards = s.forwards;
          };
    })))

abbrev pub is_none : {A : Type 0} → Option A → Bool
is_none none = true
is_none (some x) = false

unfoldable pub read_figure : Sheet → ℕ → List ℕ → Read
read_figure s part l =
    let n = of_bytes (take 2 l) in
    let a = get_or l 2 0 in
    let w = of_bytes (take 4 (drop 3 l)) in
    let t = (attribute_at s.attributes a).result in
    require (leb part figure_part && leb 7 (length l)) 2
    (require (ltb n (node_count s) && ltb a (attribute_count s) && is_word (node_count s) t w) 4
    (require (is_none (figure_for s.figures n a)) 5
    (goes_on record {
      width = 8;
      part = figure_part;
      sheet =
          record {
            attributes = s.attributes;
            kinds = s.kinds;
            figures = record { node = n; attribute = a; value = of_word t w } ∷ s.figures;
            rules = s.rules;
            forwards = s.forwards;
          };
    })))

-- stop 6 for a piece that is no expression, 7 for one that has not the type; `p` is the type of 0x31
unfoldable pub require_piece : Sheet → Base → Base → Whole → Read → Read
require_piece s p t no_expression r = stops 6 at_offset 0
require_piece s p t (expression e) r = require (has_type s.attributes p (base t) e) 7 r

unfoldable pub read_rule : Sheet → ℕ → List ℕ → Read
read_rule s part l =
    let k = get_or l 0 0 in
    let a = get_or l 1 0 in
    let n = of_bytes (take 2 (drop 2 l)) in
    let p = take n (drop 4 l) in
    let t = attribute_at s.attributes a in
    require (leb part rule_part && leb (4 + n) (length l) && leb 4 (length l)) 2
    (require (leb k last_kind && ltb a (attribute_count s)) 4
    (require (is_none (rule_for s.rules k a)) 5
    (require_piece s t.parameter-type t.result (read_whole (rule_scope s) p)
    (goes_on record {
      width = 5 + n;
      part = rule_part;
      sheet =
          record {
            attributes = s.attributes;
            kinds = s.kinds;
            figures = s.figures;
            rules = record { kind = k; attribute = a; piece = p } ∷ s.rules;
            forwards = s.forwards;
          };
    }))))

-- "kind (1), length 1 to 256 (2), expression", of type Node. There is no 0x31 in it, so any type may stand for 0x31's (Forwards.antt).
unfoldable pub read_forward : Sheet → ℕ → List ℕ → Read
read_forward s part l =
    let k = get_or l 0 0 in
    let n = of_bytes (take 2 (drop 1 l)) in
    let p = take n (drop 3 l) in
    require (leb part rule_part && leb (3 + n) (length l) && leb 3 (length l)) 2
    (require (leb k last_kind) 4
    (require (is_none (forward_for s.forwards k)) 5
    (require_piece s unit_t node_t (read_whole (forward_scope s) p)
    (goes_on record {
      width = 4 + n;
      part = rule_part;
      sheet =
          record {
            attributes = s.attributes;
            kinds = s.kinds;
            figures = s.figures;
            rules = s.rules;
            forwards = record { kind = k; piece = p } ∷ s.forwards;
          };
    }))))

-- "bytes after it" are stopped at the first of them
unfoldable pub read_end : List ℕ → Read
read_end [] = ends
read_end (b ∷ l) = stops 2 at_offset 1

unfoldable pub read_command : Sheet → ℕ → Command → List ℕ → Read
read_command s part attribute_command l = read_attribute s part l
read_command s part node_command l = read_node s part l
read_command s part figure_command l = read_figure s part l
read_command s part rule_command l = read_rule s part l
read_command s part forward_command l = read_forward s part l
read_command s part end_command l = read_end l
read_command s part no_command l = stops 2 at_offset 0

unfoldable pub read_next : Sheet → ℕ → List ℕ → Read
read_next s part [] = stops 2 at_offset 0
read_next s part (c ∷ l) = read_command s part (command_of c) l

-- ---- The check

-- A refusal is a stop's number and its place.
infix 20 refused◌at_place◌
pub data Checked (A : Type 0) : Type 0 where
  refused◌at_place◌ : ℕ → ℕ → Checked A
  accepted : A → Checked A

-- Stop 8: a declared pair without definition, of several the first gap (Gaps.antt).
unfoldable pub is_defined : Definition → Bool
is_defined undefined = false
is_defined (figure v) = true
is_defined (piece_of p) = true
is_defined (forward_of p) = true

abbrev pub defines : Sheet → ℕ → ℕ → Bool
defines s n a = is_defined (definition s n a)

unfoldable pub complete : Sheet → Option ℕ → Checked Sheet
complete s none = accepted s
complete s (some place) = refused 8 at_place place

-- "Order: 1, then commands from the front and in each command 2 to 7, then 8". The commands from offset `at`, where the rest of the
-- bytes is `l`. The first number bounds how many there are; the sheet's length and one more always suffices (Accepted.antt).
unfoldable pub read_commands : ℕ → Sheet → ℕ → ℕ → List ℕ → Checked Sheet
read_commands zero s part at l = refused 2 at_place at
read_commands (suc k) s part at l =
    elim (read_next s part l) [
      | stops number at_offset offset ↦ refused number at_place at + offset
      | ends ↦ complete s (first_gap (defines s) (node_count s) (attribute_count s))
      | goes_on next ↦ read_commands k next.sheet next.part (at + next.width) (drop next.width l)
    ]

unfoldable pub check_sheet : List ℕ → Checked Sheet
check_sheet bytes =
    cond (leb (length bytes) sheet_limit) (read_commands (suc (length bytes)) empty_sheet attribute_part 0 bytes) (refused 1 at_place 0)
