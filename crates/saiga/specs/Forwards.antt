-- What a forward is (F-7 of document 02): its expression in a rule's place, and the rules that it stands for (003, section 3.2).
use Rattle.std.specs.Prelude.{Option, None as none, Some as some}
use Rattle.std.specs.Prelude.{List, [], ◌∷◌, ◌++◌, ◌≡◌, ℕ, ◌+◌, ◌≤◌, ◌<◌, length}
use Rattle.saiga.specs.Limits.{expression_limit}
use Rattle.saiga.specs.Values.{Base}
use Rattle.saiga.specs.Expressions.{Expr, expression, read_whole}
use Rattle.saiga.specs.Types.{infer}
use Rattle.saiga.specs.Sheet.{Sheet, attribute_count, rule_for, forward_for, rule_scope, forward_scope, context, accepted, check_sheet}

-- ---- Its expression

-- What reads as an expression in a forward reads as the same in a rule, and has one type there, whatever type 0x31 has.
unfoldable pub ReadsInRule : Type 0
ReadsInRule =
    (s : Sheet) (piece : List ℕ) (e : Expr) → read_whole (forward_scope s) piece ≡ expression e
    → (read_whole (rule_scope s) piece ≡ expression e) × ((p q : Base) → infer s.attributes p e ≡ infer s.attributes q e)

-- ---- The rules that it stands for

-- A forward f written out for an attribute: attribute a of f with the parameter.
unfoldable pub as_rule : ℕ → List ℕ → List ℕ
as_rule a f = 0x22 ∷ a ∷ f ++ 0x31 ∷ []

-- the rule of a kind for an attribute once its forward is written out, by its rule and its forward
unfoldable pub rule_or : ℕ → Option (List ℕ) → Option (List ℕ) → Option (List ℕ)
rule_or a (some p) forward = some p
rule_or a none none = none
rule_or a none (some f) = some (as_rule a f)

-- Each forward of the sheet is one expression.
unfoldable pub ForwardsRead : Sheet → Type 0
ForwardsRead s = (k : ℕ) (f : List ℕ) → forward_for s.forwards k ≡ some f → (e : Expr) × (read_whole (forward_scope s) f ≡ expression e)

-- The sheet t is the sheet s with its forwards written out as rules, each of which fits into 256 bytes.
pub record WrittenOut (s t : Sheet) : Type 0 where
  pub attributes : t.attributes ≡ s.attributes
  pub kinds : t.kinds ≡ s.kinds
  pub figures : t.figures ≡ s.figures
  pub forwards : t.forwards ≡ []
  pub rules : (k a : ℕ) → a < attribute_count s → rule_for t.rules k a ≡ rule_or a (rule_for s.rules k a) (forward_for s.forwards k)
  pub short : (k : ℕ) (f : List ℕ) → forward_for s.forwards k ≡ some f → length f + 3 ≤ expression_limit

-- Then both have one σ on all that is declared. Plain Saiga and the caching steps know a sheet by its σ alone.
unfoldable pub AsRules : Type 0
AsRules = (s t : Sheet) → ForwardsRead s → WrittenOut s t → (n a : ℕ) → a < attribute_count s → context t n a ≡ context s n a

-- The forwards of every accepted sheet read.
unfoldable pub AcceptedReads : Type 0
AcceptedReads = (bytes : List ℕ) (s : Sheet) → check_sheet bytes ≡ accepted s → ForwardsRead s
