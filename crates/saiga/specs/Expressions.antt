-- Expressions as a sheet or a question writes them, and how they are read from bytes (document 01, "The sheet").
use Rattle.std.specs.Prelude.{Bool, true, false, cond, List, [], ◌∷◌, ℕ, zero, suc, ◌+◌, leb, ltb, eqb, length, take, drop, get_or}
use Rattle.saiga.specs.Limits.{expression_limit}
use Rattle.saiga.specs.Values.{Base, unit_t, bool_t, int_t, node_t, Value, function, function_of, of_bytes, is_word, of_word}

-- 001, figure 7, with document 01's "this node" and "the parameter".
pub data Expr : Type 0 where
  literal : Value → Expr
  if : Expr → Expr → Expr → Expr
  application : Expr → Expr → Expr
  attribute : Expr → ℕ → Expr → Expr
  this : Expr
  parameter : Expr

-- The heads: "0x10 unit; 0x11 Bool; 0x12 Int; 0x13 Node; 0x14 function; 0x20 IF; 0x21 application; 0x22 attribute number; 0x30 this node; 0x31 the parameter."
pub data Head : Type 0 where
  base_literal : Base → Head
  function_literal if_head application_head attribute_head this_head parameter_head no_head : Head

unfoldable pub head_of : ℕ → Head
head_of c =
    cond (eqb c 0x10) (base_literal unit_t)
    (cond (eqb c 0x11) (base_literal bool_t)
    (cond (eqb c 0x12) (base_literal int_t)
    (cond (eqb c 0x13) (base_literal node_t)
    (cond (eqb c 0x14) function_literal
    (cond (eqb c 0x20) if_head
    (cond (eqb c 0x21) application_head
    (cond (eqb c 0x22) attribute_head
    (cond (eqb c 0x30) this_head
    (cond (eqb c 0x31) parameter_head no_head)))))))))

-- how many bytes the operand of a literal takes
abbrev pub operand_width : Base → ℕ
operand_width unit_t = 0
operand_width bool_t = 1
operand_width int_t = 4
operand_width node_t = 2

-- Where an expression stands: what is declared, and whether 0x30 and 0x31 may be used there.
pub record Scope : Type 0 where
  pub nodes : ℕ
  pub attributes : ℕ
  pub has-this : Bool
  pub has-parameter : Bool

-- No expression, or an expression and how many bytes it takes.
pub data Reading : Type 0 where
  malformed : Reading
  reads : Expr → ℕ → Reading

infixr 20 ◌followed_by◌
unfoldable pub ◌followed_by◌ : Reading → (Expr → ℕ → Reading) → Reading
malformed followed_by f = malformed
(reads e w) followed_by f = f e w

unfoldable pub whenever : Bool → Reading → Reading
whenever true r = r
whenever false r = malformed

unfoldable pub read_operand : Scope → Base → List ℕ → Reading
read_operand s t l =
    let w = of_bytes (take (operand_width t) l) in
    whenever (leb (operand_width t) (length l))
    (whenever (is_word s.nodes t w) (reads (literal (of_word t w)) (1 + operand_width t)))

-- What follows a head, with `sub` to read the shorter expressions inside.
unfoldable pub read_after : Scope → (List ℕ → Reading) → Head → List ℕ → Reading
read_after s sub (base_literal t) l = read_operand s t l
read_after s sub function_literal l =
    whenever (leb 1 (length l)) (whenever (ltb (get_or l 0 0) 6) (reads (literal (function (function_of (get_or l 0 0)))) 2))
read_after s sub if_head l =
    sub l followed_by λ c m.
    sub (drop m l) followed_by λ t n.
    sub (drop (m + n) l) followed_by λ e o.
    reads (if c t e) (1 + m + n + o)
read_after s sub application_head l =
    sub l followed_by λ f m.
    sub (drop m l) followed_by λ x n.
    reads (application f x) (1 + m + n)
read_after s sub attribute_head l =
    whenever (leb 1 (length l)) (whenever (ltb (get_or l 0 0) s.attributes)
    (sub (drop 1 l) followed_by λ n m.
    sub (drop (1 + m) l) followed_by λ p o.
    reads (attribute n (get_or l 0 0) p) (2 + m + o)))
read_after s sub this_head l = whenever s.has-this (reads this 1)
read_after s sub parameter_head l = whenever s.has-parameter (reads parameter 1)
read_after s sub no_head l = malformed

-- "An expression's form is settled by reading its head and then the shorter expressions inside it." The first number bounds the
-- nesting; the length of the bytes always suffices (Reading.antt).
unfoldable pub read_expr : Scope → ℕ → List ℕ → Reading
read_expr s zero l = malformed
read_expr s (suc k) [] = malformed
read_expr s (suc k) (c ∷ l) = read_after s (λ m. read_expr s k m) (head_of c) l

-- The expression that takes exactly these bytes, "1 to 256" of them.
pub data Whole : Type 0 where
  no_expression : Whole
  expression : Expr → Whole

unfoldable pub exactly : ℕ → Reading → Whole
exactly n malformed = no_expression
exactly n (reads e w) = cond (eqb w n) (expression e) no_expression

unfoldable pub read_whole : Scope → List ℕ → Whole
read_whole s l =
    cond (leb (length l) expression_limit) (exactly (length l) (read_expr s (length l) l)) no_expression
