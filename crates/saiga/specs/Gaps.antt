-- Stop 8: which of several pairs without definition it names (document 02, F-1). `defined n a` tells whether node n has a definition for attribute a;
-- `nodes` and `attributes` are how many there are.
use Rattle.std.specs.Prelude.{Bool, true, false, ◌↔◌, ◌≡◌, ℕ, zero, suc, ◌+◌, ◌*◌, ◌<◌}
use Rattle.std.specs.Prelude.{Option, None as none, Some as some}
use Rattle.saiga.specs.Limits.{attribute_limit}

-- ---- The order

-- "the one with the lowest attribute, and among those the lowest node. The place is still node × 32 + attribute."

-- The first gap of attribute a, at `left` nodes from n on.
unfoldable pub gap_at : (ℕ → ℕ → Bool) → ℕ → ℕ → ℕ → Option ℕ
gap_at defined a zero n = none
gap_at defined a (suc left) n = elim (defined n a) [ true ↦ gap_at defined a left (suc n) | false ↦ some (n * attribute_limit + a) ]

-- The first gap of `left` attributes from a on, each at all nodes.
unfoldable pub gap_from : (ℕ → ℕ → Bool) → ℕ → ℕ → ℕ → Option ℕ
gap_from defined nodes zero a = none
gap_from defined nodes (suc left) a = elim (gap_at defined a nodes 0) [ none ↦ gap_from defined nodes left (suc a) | some place ↦ some place ]

unfoldable pub first_gap : (ℕ → ℕ → Bool) → ℕ → ℕ → Option ℕ
first_gap defined nodes attributes = gap_from defined nodes attributes 0

-- ---- Its law

-- The pair (n, a) has no definition, and every pair with a lower attribute, or with the same and a lower node, has one.
pub record Lowest (defined : ℕ → ℕ → Bool) (nodes attributes n a : ℕ) : Type 0 where
  pub node : n < nodes
  pub attribute : a < attributes
  pub undefined : defined n a ≡ false
  pub lower_attribute : (m b : ℕ) → m < nodes → b < a → defined m b ≡ true
  pub lower_node : (m : ℕ) → m < n → defined m a ≡ true

-- A place is named for the lowest pair; none is named where every pair has a definition.
abbrev pub Names : (ℕ → ℕ → Bool) → ℕ → ℕ → Option ℕ → Type 0
Names defined nodes attributes none = (n a : ℕ) → n < nodes → a < attributes → defined n a ≡ true
Names defined nodes attributes (some place) =
    (n : ℕ) × (a : ℕ) × (place ≡ n * attribute_limit + a) × Lowest defined nodes attributes n a

-- The first gap is what is named so, and nothing else is.
abbrev pub GapLaw : Type 0
GapLaw =
    (defined : ℕ → ℕ → Bool) (nodes attributes : ℕ) (gap : Option ℕ) → (first_gap defined nodes attributes ≡ gap) ↔ Names defined nodes attributes gap
