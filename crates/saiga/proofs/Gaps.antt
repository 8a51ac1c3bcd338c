-- The first gap is the lowest pair without definition, and nothing else is (Gaps.antt of specs/).
use mathlib.Core.Bool.{Bool, true, false, true≢false}
use mathlib.Core.Logic.{◌⊎◌, inl, inr}
use Rattle.std.specs.Prelude.{Option, None as none, Some as some}
use mathlib.Core.Path.{◌≡◌, refl, sym, subst, ◌∙◌}
use Prim.Native.Nat.{ℕ, zero, suc, ◌+◌, ◌*◌, ◌<◌}
use native.Mathlib.Nat.{eq-or-lt_of_le}
use native.Mathlib.Omega.{arith}
use Rattle.saiga.specs.Limits.{attribute_limit}
use Rattle.saiga.specs.Gaps.{gap_at, gap_from, first_gap, Lowest, Names, GapLaw}

-- What holds below n and at n holds below the next number.
pub one_more : (P : ℕ → Type 0) (n : ℕ) → ((i : ℕ) → i < n → P i) → P n → (i : ℕ) → i < suc n → P i
one_more P n before here i h = go (eq-or-lt_of_le h)
  where
    go : (suc i ≡ suc n) ⊎ (suc i < suc n) → P i
    go (inl same) = let e : i ≡ n = omega arith in rw e here
    go (inr less) = before i (omega arith)

module _ (defined : ℕ → ℕ → Bool) (nodes : ℕ) where
  -- ---- One attribute

  -- The lowest node that lacks attribute a.
  pub record LowestNode (a n : ℕ) : Type 0 where
    pub node : n < nodes
    pub undefined : defined n a ≡ false
    pub lower_node : (m : ℕ) → m < n → defined m a ≡ true

  abbrev NamesAt : ℕ → Option ℕ → Type 0
  NamesAt a none = (n : ℕ) → n < nodes → defined n a ≡ true
  NamesAt a (some place) = (n : ℕ) × (place ≡ n * attribute_limit + a) × LowestNode a n

  -- The nodes before n have attribute a.
  names_at : (a left n : ℕ) → n + left ≡ nodes → ((m : ℕ) → m < n → defined m a ≡ true) → NamesAt a (gap_at defined a left n)
  unfolding gap_at
  names_at a zero n e before = λ m p. before m (omega arith)
  names_at a (suc left) n e before = go (defined n a) refl (names_at a left (suc n) (omega arith))
    where
      go : (b : Bool) → defined n a ≡ b → (((m : ℕ) → m < suc n → defined m a ≡ true) → NamesAt a (gap_at defined a left (suc n)))
          → NamesAt a (elim b [ true ↦ gap_at defined a left (suc n) | false ↦ some (n * attribute_limit + a) ])
      go true d rest = rest (one_more (λ m. defined m a ≡ true) n before d)
      go false d rest = (n, refl, record { node = omega arith; undefined = d; lower_node = before })

  -- ---- All attributes

  -- With attribute a it is the lowest pair, if every node has the attributes before a.
  pub lowest-at : {attributes n a : ℕ} → LowestNode a n → a < attributes → ((m b : ℕ) → m < nodes → b < a → defined m b ≡ true)
      → Lowest defined nodes attributes n a
  lowest-at h p before =
      record { node = h.node; attribute = p; undefined = h.undefined; lower_attribute = before; lower_node = h.lower_node }

  names-from : (attributes left a : ℕ) → a + left ≡ attributes → ((m b : ℕ) → m < nodes → b < a → defined m b ≡ true)
      → Names defined nodes attributes (gap_from defined nodes left a)
  unfolding gap_from
  names-from attributes zero a e before = λ n b p q. before n b p (omega arith)
  names-from attributes (suc left) a e before =
      go (gap_at defined a nodes 0) (names_at a nodes 0 (omega arith) λ m p. absurd (omega arith)) (names-from attributes left (suc a) (omega arith))
    where
      go : (o : Option ℕ) → NamesAt a o
          → (((m b : ℕ) → m < nodes → b < suc a → defined m b ≡ true) → Names defined nodes attributes (gap_from defined nodes left (suc a)))
          → Names defined nodes attributes (elim o [ none ↦ gap_from defined nodes left (suc a) | some place ↦ some place ])
      go none h rest = rest λ m b p. one_more (λ b. defined m b ≡ true) a (λ b. before m b p) (h m p) b
      go (some place) (n, here, lowest) rest = (n, a, here, lowest-at lowest (omega arith) before)

-- ---- The law

module _ (defined : ℕ → ℕ → Bool) (nodes attributes : ℕ) where
  names : Names defined nodes attributes (first_gap defined nodes attributes)
  unfolding first_gap
  names = names-from defined nodes attributes attributes 0 (omega arith) λ m b p q. absurd (omega arith)

  -- Of two lowest pairs neither comes before the other.
  module _ {m b n a : ℕ} (g : Lowest defined nodes attributes m b) (h : Lowest defined nodes attributes n a) where
    no-lower-attribute : b < a → ⊥
    no-lower-attribute less = true≢false (sym (h.lower_attribute m b g.node less) ∙ g.undefined)

    no-lower-node : b ≡ a → m < n → ⊥
    no-lower-node same less = true≢false (sym (h.lower_node m less) ∙ (rw same at g.undefined))

  lowest-one : {m b n a : ℕ} → Lowest defined nodes attributes m b → Lowest defined nodes attributes n a → (m ≡ n) × (b ≡ a)
  lowest-one {m} {b} {n} {a} g h =
      let same : b ≡ a = omega (arith, no-lower-attribute g h, no-lower-attribute h g) in
      (omega (arith, no-lower-node g h same, no-lower-node h g (sym same)), same)

  names-one : (o p : Option ℕ) → Names defined nodes attributes o → Names defined nodes attributes p → o ≡ p
  names-one none none g h = refl
  names-one none (some q) g h = let lowest = h.3 in absurd (true≢false (sym (g _ _ lowest.node lowest.attribute) ∙ lowest.undefined))
  names-one (some q) none g h = let lowest = g.3 in absurd (true≢false (sym (h _ _ lowest.node lowest.attribute) ∙ lowest.undefined))
  names-one (some q) (some r) g h = let same = lowest-one g.3 h.3 in cc

pub gap-law : GapLaw
gap-law defined nodes attributes gap = (
  λ e. subst (λ o. Names defined nodes attributes o) e (names defined nodes attributes),
  λ h. names-one defined nodes attributes _ gap (names defined nodes attributes) h,
)

-- ---- Two tests that agree on the declared pairs

module _ (nodes attributes : ℕ) (f g : ℕ → ℕ → Bool) (same : (n a : ℕ) → n < nodes → a < attributes → f n a ≡ g n a) where
  names_same : (o : Option ℕ) → Names g nodes attributes o → Names f nodes attributes o
  names_same none h = λ n a p q. same n a p q ∙ h n a p q
  names_same (some place) (n, a, here, h) = (
    n,
    a,
    here,
    record {
      node = h.node;
      attribute = h.attribute;
      undefined = same n a h.node h.attribute ∙ h.undefined;
      lower_attribute = λ m b p q. same m b p (omega (arith, h.attribute)) ∙ h.lower_attribute m b p q;
      lower_node = λ m p. same m a (omega (arith, h.node)) h.attribute ∙ h.lower_node m p;
    },
  )

  pub same_gap : first_gap f nodes attributes ≡ first_gap g nodes attributes
  same_gap = let gap = first_gap g nodes attributes in (gap-law f nodes attributes gap).1 (names_same gap (names g nodes attributes))
