-- What a sheet's bytes and index say at a place, and how a store into the index changes that.
use mathlib.Core.Bool.{Bool, true, false, cond, ◌&&◌}
use Rattle.std.specs.Prelude.{Option, Some as some}
use mathlib.Core.List.{List, [], ◌∷◌, ◌++◌}
use mathlib.Core.Path.{◌≡◌, refl, sym, ap, ◌∙◌}
use Prim.Native.Nat.{ℕ, zero, suc, ◌+◌, ◌*◌, ◌≤◌, ◌<◌}
use native.Mathlib.Omega.{arith}
use native.Mathlib.Numerals.{add-one}
use lib.Dec.{eqb}
use lib.ListN.{length, drop, get_or, set, length-set}
use lib.Seq.{get_or-drop, get_or-set_same, get_or-set_other}
use borrow.Author.Tests.{eqb-true, eqb-false, eq-eqb, ne_eqb}
use Rattle.saiga.specs.Types.{attribute_at}
use Rattle.saiga.specs.Sheet.{Sheet, node_count, attribute_count, Forward, Rule, figure_for, rule_for, forward_for, forwarded, ruled, figured, definition}
use Rattle.sheets.specs.Scan.{figure_place, pieces_at, rule_place, forward_place, attributes_place, nodes_place, figure_at, piece_at, indexed, counted, FigureFits, PieceFits, Described, Indexed}
use Rattle.values.proofs.Attributes.{past, attribute_in, attribute-at}
use Rattle.values.specs.Layout.{kind_at, attributes_in, kinds_in}

-- ---- Attributes and kinds

pub attributes-snoc : (l : List ℕ) (n : ℕ) → attributes_in l (suc n) ≡ attributes_in l n ++ attribute_in l n ∷ []
unfolding attributes_in
attributes-snoc l zero = refl
attributes-snoc l (suc n) = ap (λ r. attribute_in l 0 ∷ r) (attributes-snoc (drop 3 l) n ∙ simp past)

pub kinds-snoc : (l : List ℕ) (n : ℕ) → kinds_in l (suc n) ≡ kinds_in l n ++ get_or l (2 * n + 1) 0 ∷ []
unfolding kinds_in
kinds-snoc l zero = refl
kinds-snoc l (suc n) = ap (λ r. get_or l 1 0 ∷ r) (kinds-snoc (drop 2 l) n ∙ simp past)

pub kind-at : (l : List ℕ) (n i : ℕ) → i < n → get_or (kinds_in l n) i 0 ≡ get_or l (2 * i + 1) 0
unfolding kinds_in
kind-at l zero i h = absurd (omega arith)
kind-at l (suc n) zero h = refl
kind-at l (suc n) (suc i) h = kind-at (drop 2 l) n i (omega arith) ∙ simp past

-- ---- The index

-- A pair's place among rows of 32 settles the pair.
module _ (c m n b a i j : ℕ) (p : b < 32) (q : a < 32) (at_i : i ≡ c + m * 32 + b) (at_j : j ≡ c + n * 32 + a) where
  same-pair : i ≡ j → (m ≡ n) × (b ≡ a)
  same-pair e = omega arith

  same_place : (eqb m n && eqb b a) ≡ eqb i j
  same_place = go (eqb m n) refl (eqb b a) refl
    where
      go : (t : Bool) → eqb m n ≡ t → (u : Bool) → eqb b a ≡ u → (t && u) ≡ eqb i j
      go true e true f = sym (eq-eqb i j (omega (arith, eqb-true)))
      go true e false f = sym (ne_eqb i j λ same. eqb-false b a f (same-pair same).1)
      go false e true f = sym (ne_eqb i j λ same. eqb-false m n e (same-pair same).0)
      go false e false f = sym (ne_eqb i j λ same. eqb-false m n e (same-pair same).0)

-- What is looked up after a store of the offset `at` at the place `i`: there the command at this offset, elsewhere what was there.
module _ (index : List ℕ) (i j at : ℕ) (fits : i < length index) where
  stored : {A : Type 0} (x : A) (o : Option A) (f : ℕ → A) → (i ≡ j → x ≡ f at) → o ≡ indexed (get_or index j 0) f
      → cond (eqb i j) (some x) o ≡ indexed (get_or (set index i (at + 1)) j 0) f
  unfolding indexed
  stored x o f same other = go (eqb i j) refl
    where
      go : (t : Bool) → eqb i j ≡ t → cond t (some x) o ≡ indexed (get_or (set index i (at + 1)) j 0) f
      go true e = let q = eqb-true i j e in rw (← q, get_or-set_same index i (at + 1) 0 fits, add-one at) (ap some (same q))
      go false e = rw (get_or-set_other index i j (at + 1) 0 (λ q. eqb-false i j e (sym q))) other

  pub stored-fits : (P : ℕ → Type 0) (b : ℕ) → (i ≡ j → P at) → (get_or index j 0 ≡ suc b → P b) → get_or (set index i (at + 1)) j 0 ≡ suc b → P b
  stored-fits P b same other = go (eqb i j) refl
    where
      go : (t : Bool) → eqb i j ≡ t → get_or (set index i (at + 1)) j 0 ≡ suc b → P b
      go true e g =
          let q = eqb-true i j e in
          let here : at ≡ b = omega (arith, get_or-set_same index i (at + 1) 0 fits, rw (← q) at g) in
          rw here at (same q)
      go false e g = other (rw (get_or-set_other index i j (at + 1) 0 (λ q. eqb-false i j e (sym q))) at g)

-- ---- Look-ups

module _ (bytes : List ℕ) (s : Sheet) (index : List ℕ) (h : Described bytes s index) where
  pub attribute-by-index : (a : ℕ) → a < attribute_count s → attribute_at s.attributes a ≡ attribute_in bytes a
  attribute-by-index a q = rw h.attributes_are (attribute-at bytes (attribute_count s) a q)

  pub kind-by-index : (n : ℕ) → n < node_count s → get_or s.kinds n 0 ≡ kind_at bytes (attribute_count s) n
  kind-by-index n p =
      rw h.kinds_are (kind-at _ (node_count s) n p ∙ get_or-drop (3 * attribute_count s) bytes (2 * n + 1) 0 ∙ ap (λ i. get_or bytes i 0) (omega arith))

  pub definition-by-index : (n a : ℕ) → n < node_count s → a < attribute_count s → definition s n a
      ≡ figured (indexed (get_or index (figure_place n a) 0) (figure_at bytes a))
      (ruled (indexed (get_or index (rule_place (kind_at bytes (attribute_count s) n) a) 0) (piece_at bytes))
      (forwarded (indexed (get_or index (forward_place (kind_at bytes (attribute_count s) n)) 0) (piece_at bytes))))
  unfolding definition
  definition-by-index n a p q =
      rw (h.figures n a p q, h.rules _ a (h.kinds_bound n p) q, h.forwards _ (h.kinds_bound n p), kind-by-index n p)

-- ---- One more figure

module _ (bytes : List ℕ) (s : Sheet) (index : List ℕ) (h : Described bytes s index) (a at : ℕ) (q : a < attribute_count s) where
  pub figure-indexed : (n : ℕ) → n < node_count s → FigureFits bytes (node_count s) a at
      → Described bytes
      record s { figures = record { node = n; attribute = a; value = figure_at bytes a at } ∷ s.figures }
      (set index (figure_place n a) (at + 1))
  unfolding figure_for
  figure-indexed n p fits = record {
    size = length-set index (figure_place n a) (at + 1) ∙ h.size;
    short = h.short;
    attributes_are = h.attributes_are;
    kinds_are = h.kinds_are;
    room = h.room;
    attributes_bound = h.attributes_bound;
    nodes_bound = h.nodes_bound;
    types_bound = h.types_bound;
    kinds_bound = h.kinds_bound;
    figures = λ m b p' q'. rw (test m b q') (stored index (figure_place n a) (figure_place m b) at inside _ _ (figure_at bytes b) (λ e. rw (same m b q' e)) (h.figures m b p' q'));
    figure_fits = λ m b c p' q'. stored-fits index (figure_place n a) (figure_place m b) at inside (FigureFits bytes (node_count s) b) c (λ e. rw (same m b q' e) at fits)
        (h.figure_fits m b c p' q');
    rules = λ k b p' q'. rw (other (rule_place k b) (omega arith)) (h.rules k b p' q');
    forwards = λ k p'. rw (other (forward_place k) (omega arith)) (h.forwards k p');
    piece_fits = λ place c low high. rw (other place low) (h.piece_fits place c low high);
  }
    where
      inside : figure_place n a < length index
      inside = omega arith

      same : (m b : ℕ) → b < attribute_count s → figure_place n a ≡ figure_place m b → a ≡ b
      same m b q' e = omega arith

      test : (m b : ℕ) → b < attribute_count s → (eqb n m && eqb a b) ≡ eqb (figure_place n a) (figure_place m b)
      test m b q' = same_place 0 n m a b (figure_place n a) (figure_place m b) (omega arith) (omega arith) (omega arith) (omega arith)

      other : (place : ℕ) → pieces_at ≤ place → get_or (set index (figure_place n a) (at + 1)) place 0 ≡ get_or index place 0
      other place low = get_or-set_other index (figure_place n a) place (at + 1) 0 (omega arith)

-- ---- One more rule, one more forward

module _ (bytes : List ℕ) (s : Sheet) (index : List ℕ) (h : Described bytes s index) (at : ℕ) (fits : PieceFits bytes at) where
  -- a piece, for its place in the index
  module _ (place : ℕ) (low : pieces_at ≤ place) (high : place < attributes_place) where
    inside : place < length index
    inside = omega (arith, h.size)

    piece-indexed : (rules : List Rule) (forwards : List Forward)
        → ((k a : ℕ) → k ≤ 15 → a < attribute_count s → rule_for rules k a ≡ indexed (get_or (set index place (at + 1)) (rule_place k a) 0) (piece_at bytes))
        → ((k : ℕ) → k ≤ 15 → forward_for forwards k ≡ indexed (get_or (set index place (at + 1)) (forward_place k) 0) (piece_at bytes))
        → Described bytes record s { rules = rules; forwards = forwards } (set index place (at + 1))
    piece-indexed rules forwards rules-are forwards-are = record {
      size = length-set index place (at + 1) ∙ h.size;
      short = h.short;
      attributes_are = h.attributes_are;
      kinds_are = h.kinds_are;
      room = h.room;
      attributes_bound = h.attributes_bound;
      nodes_bound = h.nodes_bound;
      types_bound = h.types_bound;
      kinds_bound = h.kinds_bound;
      figures = λ n b p q. rw (other n b p q) (h.figures n b p q);
      figure_fits = λ n b c p q. rw (other n b p q) (h.figure_fits n b c p q);
      rules = rules-are;
      forwards = forwards-are;
      piece_fits = λ there c low' high'. stored-fits index place there at inside (PieceFits bytes) c (λ e. fits) (h.piece_fits there c low' high');
    }
      where
        other : (n b : ℕ) → n < node_count s → b < attribute_count s → get_or (set index place (at + 1)) (figure_place n b) 0 ≡ get_or index (figure_place n b) 0
        other n b p q = get_or-set_other index place (figure_place n b) (at + 1) 0 (omega (arith, h.nodes_bound, h.attributes_bound))

  pub rule-indexed : (k a : ℕ) → k ≤ 15 → a < attribute_count s
      → Described bytes
      record s { rules = record { kind = k; attribute = a; piece = piece_at bytes at } ∷ s.rules }
      (set index (rule_place k a) (at + 1))
  unfolding rule_for
  rule-indexed k a p q =
      piece-indexed (rule_place k a) (omega arith) (omega (arith, h.attributes_bound)) _ _
      (λ m b p' q'. rw (same_place pieces_at k m a b (rule_place k a) (rule_place m b) (omega (arith, h.attributes_bound)) (omega (arith, h.attributes_bound)) (omega arith) (omega arith))
      (stored index (rule_place k a) (rule_place m b) at (omega (arith, h.attributes_bound, h.size)) _ _ (piece_at bytes) (λ e. refl) (h.rules m b p' q')))
      (λ m p'. rw (get_or-set_other index (rule_place k a) (forward_place m) (at + 1) 0 (omega (arith, h.attributes_bound))) (h.forwards m p'))

  pub forward-indexed : (k : ℕ) → k ≤ 15
      → Described bytes
      record s { forwards = record { kind = k; piece = piece_at bytes at } ∷ s.forwards }
      (set index (forward_place k) (at + 1))
  unfolding forward_for
  forward-indexed k p =
      piece-indexed (forward_place k) (omega arith) (omega arith) _ _
      (λ m b p' q'. rw (get_or-set_other index (forward_place k) (rule_place m b) (at + 1) 0 (omega (arith, h.attributes_bound))) (h.rules m b p' q'))
      (λ m p'. rw (same_kind m) (stored index (forward_place k) (forward_place m) at (omega (arith, h.size)) _ _ (piece_at bytes) (λ e. refl) (h.forwards m p')))
    where
      same_kind : (m : ℕ) → eqb k m ≡ eqb (forward_place k) (forward_place m)
      same_kind m = go (eqb k m) refl
        where
          go : (b : Bool) → eqb k m ≡ b → b ≡ eqb (forward_place k) (forward_place m)
          go true e = sym (eq-eqb (forward_place k) (forward_place m) (omega (arith, eqb-true)))
          go false e = sym (ne_eqb (forward_place k) (forward_place m) λ same. eqb-false k m e (omega arith))

-- ---- The counts

-- The counts change nothing else of the index.
module _ (bytes : List ℕ) (s : Sheet) (index : List ℕ) (h : Described bytes s index) where
  abbrev first : List ℕ
  first = set index attributes_place (attribute_count s)

  first-size : length first ≡ length index
  first-size = length-set index attributes_place (attribute_count s)

  other : (i : ℕ) → i < attributes_place → get_or (counted (attribute_count s) (node_count s) index) i 0 ≡ get_or index i 0
  other i before = get_or-set_other first nodes_place i (node_count s) 0 (omega arith) ∙ get_or-set_other index attributes_place i (attribute_count s) 0 (omega arith)

  pub counted-indexed : Indexed bytes s (counted (attribute_count s) (node_count s) index)
  counted-indexed = record {
    described = record {
      size = length-set first nodes_place (node_count s) ∙ first-size ∙ h.size;
      short = h.short;
      attributes_are = h.attributes_are;
      kinds_are = h.kinds_are;
      room = h.room;
      attributes_bound = h.attributes_bound;
      nodes_bound = h.nodes_bound;
      types_bound = h.types_bound;
      kinds_bound = h.kinds_bound;
      figures = λ n a p q. rw (other (figure_place n a) (omega arith)) (h.figures n a p q);
      figure_fits = λ n a at p q. rw (other (figure_place n a) (omega arith)) (h.figure_fits n a at p q);
      rules = λ k a p q. rw (other (rule_place k a) (omega arith)) (h.rules k a p q);
      forwards = λ k p. rw (other (forward_place k) (omega arith)) (h.forwards k p);
      piece_fits = λ place at low high. rw (other place high) (h.piece_fits place at low high);
    };
    attributes-in = get_or-set_other first nodes_place attributes_place (node_count s) 0 (omega arith) ∙ get_or-set_same index attributes_place (attribute_count s) 0 (omega (arith, h.size));
    nodes-in = get_or-set_same first nodes_place (node_count s) 0 (omega (arith, h.size, first-size));
  }
