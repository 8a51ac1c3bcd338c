-- What the index of an accepted sheet gives for a figure, for a rule and for a forward.
use mathlib.Core.Bool.{true, false≢true}
use mathlib.Core.List.{List}
use Rattle.std.specs.Prelude.{None as none, Some as some}
use mathlib.Core.Path.{◌≡◌, refl, ap, ◌∙◌}
use Prim.Native.Nat.{ℕ, zero, suc, ◌+◌, ◌≤◌, ◌<◌}
use native.Mathlib.Omega.{arith}
use lib.ListN.{length, take, drop, get_or}
use Rattle.saiga.specs.Values.{base_of, of_bytes, is_word, of_word}
use Rattle.saiga.specs.declared.Value.{Value}
use Rattle.saiga.specs.Sheet.{forwarded, ruled, figured, is_defined, accepted, check_sheet}
use Rattle.saiga.proofs.FourBytes.{word_more}
use Rattle.saiga.proofs.Accepted.{pair-defined}
use Rattle.sheets.specs.Scan.{figure_place, pieces_at, rule_place, forward_place, attributes_place, figure_at, indexed, IndexedPair, rule_number, forward_number, PieceHere}
use Rattle.sheets.proofs.Indexed.{kind-by-index, definition-by-index}
use Rattle.values.specs.Layout.{result_at, kind_at}

-- ---- A figure

record FigureHere (bytes : List ℕ) (a number : ℕ) : Type 0 where
  pub room : number + 7 ≤ length bytes
  pub short : length bytes ≤ 65536
  pub word : is_word 1024 (base_of (result_at bytes a)) (of_bytes (take 4 (drop (number + 3) bytes))) ≡ true
  pub value : some (of_word (base_of (result_at bytes a)) (of_bytes (take 4 (drop (number + 3) bytes)))) ≡ indexed number (figure_at bytes a)

module _ (bytes index : List ℕ) (n a place number : ℕ) (here : place ≡ figure_place n a) (is : number ≡ get_or index place 0) where
  number_is : get_or index (figure_place n a) 0 ≡ number
  number_is = rw (is, here)

  pub no-figure : {A : Type 0} (f : ℕ → A) → number ≡ 0 → none ≡ indexed (get_or index (figure_place n a) 0) f
  unfolding indexed
  no-figure f e = rw (number_is, e)

  module _ (h : IndexedPair bytes index n a) (some_at : number ≡ 0 → ⊥) where
    figure-here : FigureHere bytes a number
    unfolding indexed figure_at
    figure-here = go number number_is some_at
      where
        go : (number : ℕ) → get_or index (figure_place n a) 0 ≡ number → (number ≡ 0 → ⊥) → FigureHere bytes a number
        go zero e some_at = absurd (some_at refl)
        go (suc at) e some_at =
            let (fits, word) = h.known.described.figure_fits n a at h.node h.attribute e in
            let same : suc at + 3 ≡ at + 4 = omega arith in
            record {
              room = omega arith;
              short = h.known.described.short;
              word = rw same (word_more _ _ h.known.described.nodes_bound word);
              value = rw same;
            }

    pub figure-room : number + 3 + 4 ≤ length bytes
    figure-room = omega (arith, figure-here)

    module _ (code w : ℕ) (typed : code ≡ result_at bytes a) (word : w ≡ of_bytes (take 4 (drop (number + 3) bytes))) where
      pub figure-word : is_word 1024 (base_of code) w ≡ true
      figure-word = rw (typed, word) figure-here.word

      pub figure-value : (v : Value) → v ≡ of_word (base_of code) w → some v ≡ indexed (get_or index (figure_place n a) 0) (figure_at bytes a)
      figure-value v value = rw number_is (ap some (value ∙ rw (typed, word)) ∙ figure-here.value)

-- what the look-up of a figure rests on
pub ruleset figure_laws = (no-figure, figure-room, figure-word, figure-value)

-- ---- A rule, a forward

module _ (bytes index : List ℕ) (n a : ℕ) (h : IndexedPair bytes index n a) where
  kind_bound : kind_at bytes (get_or index attributes_place 0) n ≤ 15
  kind_bound =
      let i = h.known in
      rw (i.attributes-in, ← kind-by-index bytes h.sheet index i.described n h.node) (i.described.kinds_bound n h.node)

  module _ (count k : ℕ) (counted : count ≡ get_or index attributes_place 0) (kind : k ≡ kind_at bytes count n) where
    pub kind-small : k ≤ 15
    kind-small = rw (kind, counted) kind_bound

    pub rule-within : (place : ℕ) → place ≡ rule_place k a → place < length index
    rule-within place here = omega (arith, kind-small, h.attribute, h.known.described.attributes_bound, h.known.described.size)

    pub forward-within : (place : ℕ) → place ≡ forward_place k → place < length index
    forward-within place here = omega (arith, kind-small, h.known.described.size)

  -- a number that the index has stands before a piece
  here : (place number : ℕ) → pieces_at ≤ place → place < attributes_place → get_or index place 0 ≡ number → (number ≡ 0 → ⊥) → PieceHere bytes number
  here place zero low high e has = absurd (has refl)
  here place (suc at) low high e has =
      let fits = (h.known.described.piece_fits place at low high e).0 in
      let one : suc at ≡ at + 1 = omega arith in
      let three : at + 1 + 2 ≡ at + 3 = omega arith in
      record { starts = omega arith; short = h.known.described.short; room = rw (one, three) fits }

  -- their places are among those of the pieces
  pub rule-inside : (pieces_at ≤ rule_place (kind_at bytes (get_or index attributes_place 0) n) a) × (rule_place (kind_at bytes (get_or index attributes_place 0) n) a < attributes_place)
  rule-inside = (omega arith, omega (arith, kind_bound, h.attribute, h.known.described.attributes_bound))

  pub forward-inside : (pieces_at ≤ forward_place (kind_at bytes (get_or index attributes_place 0) n)) × (forward_place (kind_at bytes (get_or index attributes_place 0) n) < attributes_place)
  forward-inside = (omega arith, omega (arith, kind_bound))

  pub rule-here : (rule_number bytes index n a ≡ 0 → ⊥) → PieceHere bytes (rule_number bytes index n a)
  rule-here has = here _ _ rule-inside.0 rule-inside.1 refl has

  pub forward-here : (forward_number bytes index n ≡ 0 → ⊥) → PieceHere bytes (forward_number bytes index n)
  forward-here has = here _ _ forward-inside.0 forward-inside.1 refl has

  -- one of the two numbers is there where there is no figure
  pub piece-there : check_sheet bytes ≡ accepted h.sheet → get_or index (figure_place n a) 0 ≡ 0 → rule_number bytes index n a ≡ 0 → forward_number bytes index n ≡ 0 → ⊥
  unfolding indexed figured ruled forwarded is_defined
  piece-there ok no-figure no-rule no-forward =
      let s = h.sheet in
      let i = h.known in
      let is = rw (← i.attributes-in) at (definition-by-index bytes s index i.described n a h.node h.attribute) in
      false≢true (rw (is, no-figure, no-rule, no-forward) at (pair-defined bytes s ok n a h.node h.attribute))
