-- The pass for missing pairs: of all nodes the first gap (Gaps.antt of crate saiga).
use mathlib.Core.Bool.{true}
use mathlib.Core.List.{List}
use Rattle.std.specs.Prelude.{Option, None as none, Some as some}
use mathlib.Core.Path.{◌≡◌, sym}
use Prim.Native.Nat.{ℕ, ◌≤◌, ◌<◌}
use native.Mathlib.Omega.{arith}
use Rattle.saiga.specs.Gaps.{Names}
use Rattle.saiga.proofs.Gaps.{LowestNode, lowest-at, gap-law}
use Rattle.sheets.specs.Scan.{figure_place, is_indexed, missing_in}

module _ (bytes index : List ℕ) (attributes : ℕ) where
  -- What is kept of the nodes below n is their first gap, and the limit is its attribute; without a gap it is the number of attributes.
  abbrev Kept : ℕ → ℕ → Option ℕ → Type 0
  Kept n limit none = limit ≡ attributes
  Kept n limit (some place) = (node : ℕ) × (place ≡ figure_place node limit) × (limit < attributes) × LowestNode (is_indexed bytes index attributes) n limit node

  pub record FirstOf (n limit : ℕ) (gap : Option ℕ) : Type 0 where
    pub within : limit ≤ attributes
    pub lower : (m b : ℕ) → m < n → b < limit → is_indexed bytes index attributes m b ≡ true
    pub kept : Kept n limit gap

  module _ (nodes n limit : ℕ) (gap : Option ℕ) (h : FirstOf n limit gap) where
    pub first-kept : n ≡ nodes → gap ≡ missing_in bytes index attributes nodes
    first-kept done = rw (← done) (sym ((gap-law (is_indexed bytes index attributes) n attributes gap).1 (named gap h.kept)))
      where
        named : (gap : Option ℕ) → Kept n limit gap → Names (is_indexed bytes index attributes) n attributes gap
        named none all = λ m b p q. h.lower m b p (omega arith)
        named (some place) (node, here, less, first) = (node, limit, here, lowest-at _ _ first less h.lower)

    module _ (done : n ≡ nodes) where
      -- Where the limit is an attribute, the first gap is its place at the lowest node that lacks it.
      pub gap-named : limit < attributes
          → (node : ℕ) × LowestNode (is_indexed bytes index attributes) n limit node × (some (figure_place node limit) ≡ missing_in bytes index attributes nodes)
      gap-named less = go gap h.kept (first-kept done)
        where
          go : (gap : Option ℕ) → Kept n limit gap → gap ≡ missing_in bytes index attributes nodes
              → (node : ℕ) × LowestNode (is_indexed bytes index attributes) n limit node × (some (figure_place node limit) ≡ missing_in bytes index attributes nodes)
          go none all e = absurd (omega arith)
          go (some place) (node, here, _, first) e = (node, first, rw here at e)

      -- Where the limit is no attribute, there is no gap.
      pub gap-none : attributes ≤ limit → none ≡ missing_in bytes index attributes nodes
      gap-none all = go gap h.kept (first-kept done)
        where
          go : (gap : Option ℕ) → Kept n limit gap → gap ≡ missing_in bytes index attributes nodes → none ≡ missing_in bytes index attributes nodes
          go none _ e = e
          go (some place) (node, here, less, first) e = absurd (omega arith)

pub ruleset gap_laws = (first-kept)
