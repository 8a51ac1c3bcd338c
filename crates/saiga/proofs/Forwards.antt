-- A forward's expression means in a rule what it means in the forward, and a forward is as its rules written out.
use mathlib.Core.Bool.{true}
use Rattle.std.specs.Prelude.{Option, None as none, Some as some}
use mathlib.Core.List.{List, [], ◌∷◌, ◌++◌}
use mathlib.Core.Path.{◌≡◌, refl}
use Prim.Native.Nat.{ℕ, suc, ◌+◌, ◌≤◌, ◌<◌}
use native.Mathlib.Omega.{arith}
use lib.ListN.{length, drop, get_or, length-append}
use lib.Seq.{drop_at}
use borrow.Author.Tests.{le-leb, lt-ltb, eq-eqb}
use Rattle.saiga.specs.Limits.{expression_limit}
use Rattle.saiga.specs.Values.{Value}
use Rattle.saiga.specs.Expressions.{Expr, attribute, parameter, attribute_head, head_of, Scope, Reading, reads, ◌followed_by◌, whenever, read_after, read_expr, expression, exactly, read_whole}
use Rattle.saiga.specs.Sheet.{Sheet, attribute_count, figure_for, rule_for, forward_for, rule_scope, forward_scope, forwarded, ruled, figured, definition, whole_expr, definition_expr, context}
use Rattle.saiga.specs.Forwards.{ReadsInRule, as_rule, rule_or, ForwardsRead, WrittenOut, AsRules, AcceptedReads}
use Rattle.saiga.proofs.Reading.{read-fuel, read_behind, whole-reads, wider-reads, any-parameter}
use Rattle.saiga.proofs.Accepted.{forward-in-rule, forward-reads}

pub reads-in-rule : ReadsInRule
unfolding ReadsInRule forward_scope
reads-in-rule s piece e h =
    (wider-reads (forward_scope s) (rule_scope s) (forward-in-rule s) piece e h, λ p q. any-parameter (forward_scope s) s.attributes p q piece e refl h)

-- What follows 0x22 where a forward is written out.
after-attribute : (sc : Scope) (sub : List ℕ → Reading) (a : ℕ) (f : List ℕ) (e : Expr) → a < sc.attributes → sub (f ++ 0x31 ∷ []) ≡ reads e (length f)
    → sub (0x31 ∷ []) ≡ reads parameter 1 → read_after sc sub attribute_head (a ∷ f ++ 0x31 ∷ []) ≡ reads (attribute e a parameter) (2 + length f + 1)
unfolding read_after ◌followed_by◌ whenever
after-attribute sc sub a f e declared inner last =
    let behind : drop (1 + length f) (a ∷ f ++ 0x31 ∷ []) ≡ 0x31 ∷ [] = drop_at (a ∷ f) (0x31 ∷ []) (1 + length f) (omega arith) in
    rw (le-leb 1 (length (a ∷ f ++ 0x31 ∷ [])) (omega arith), lt-ltb a sc.attributes declared, inner, behind, last)

-- It reads as attribute a of the forward's expression with the parameter.
written-reads : (sc : Scope) (a : ℕ) (f : List ℕ) (e : Expr) → sc.has-parameter ≡ true → a < sc.attributes → length f + 3 ≤ expression_limit
    → read_whole sc f ≡ expression e → read_whole sc (as_rule a f) ≡ expression (attribute e a parameter)
unfolding read_whole as_rule exactly read_expr read_after head_of whenever
written-reads sc a f e has declared short h =
    let k = length (a ∷ f ++ 0x31 ∷ []) in
    let size : length (f ++ 0x31 ∷ []) ≡ suc (length f) = rw length-append (omega arith) in
    let inner : read_expr sc k (f ++ 0x31 ∷ []) ≡ reads e (length f) =
    read_behind sc k f (0x31 ∷ []) e (length f) (rw (read-fuel sc k (length f) f (omega arith) (omega arith)) (whole-reads sc f e h)) in
    let last : read_expr sc k (0x31 ∷ []) ≡ reads parameter 1 = rw has in
    let all = after-attribute sc (λ m. read_expr sc k m) a f e declared inner last in
    rw (le-leb (length (as_rule a f)) expression_limit (omega arith), all, eq-eqb (2 + length f + 1) (length (as_rule a f)) (omega arith))

module _ (s t : Sheet) (read : ForwardsRead s) (out : WrittenOut s t) (a : ℕ) (declared : a < attribute_count s) where
  same-scope : rule_scope t ≡ rule_scope s
  unfolding rule_scope
  same-scope = rw (out.kinds, out.attributes)

  written_out : (v : Option Value) (r f : Option (List ℕ)) (k : ℕ) → forward_for s.forwards k ≡ f
      → definition_expr t a (figured v (ruled (rule_or a r f) (forwarded none))) ≡ definition_expr s a (figured v (ruled r (forwarded f)))
  unfolding definition_expr figured ruled forwarded rule_or whole_expr rule_scope ForwardsRead ReadsInRule
  written_out (some v) r f k found = refl
  written_out none (some p) f k found = rw same-scope
  written_out none none none k found = refl
  written_out none none (some f) k found =
      let (e, own) = read k f found in
      rw (same-scope, own, written-reads (rule_scope s) a f e refl declared (out.short k f found) (reads-in-rule s f e own).0)

pub as-rules : AsRules
unfolding AsRules context definition forward_for
as-rules s t read out n a declared =
    let k = get_or s.kinds n 0 in
    let in-force : definition t n a ≡ figured (figure_for s.figures n a) (ruled (rule_or a (rule_for s.rules k a) (forward_for s.forwards k)) (forwarded none)) =
    rw (out.kinds, out.figures, out.forwards, out.rules k a declared) in
    rw in-force (written_out s t read out a declared (figure_for s.figures n a) (rule_for s.rules k a) (forward_for s.forwards k) k refl)

pub accepted-reads : AcceptedReads
unfolding AcceptedReads ForwardsRead
accepted-reads bytes s ok k f found = forward-reads bytes s ok k f found
