-- The pass over a sheet is the check of the sheet, stop for stop and place for place, and the index that it leaves is the accepted
-- sheet's. Between two commands the pass and the check stand at one offset and one part, and the index describes the sheet so far.
use mathlib.Core.Bool.{Bool, true, false, not, cond, ◌&&◌, ◌||◌, and_comm, and-eq-true_iff}
use Rattle.std.specs.Prelude.{Option, None as none, Some as some, Result, Err}
use mathlib.Core.List.{List, [], ◌∷◌, ◌++◌}
use mathlib.Core.Path.{◌≡◌, refl, sym, ap, ◌∙◌, subst}
use Prim.Native.Nat.{ℕ, zero, suc, ◌+◌, ◌*◌, ◌≤◌, ◌<◌}
use native.Mathlib.Nat.{add_assoc}
use native.Mathlib.Omega.{arith}
use native.Mathlib.Numerals.{add-one}
use lib.Dec.{leb, ltb, eqb, eqb-suc-zero}
use lib.ListN.{length, take, drop, get_or, length-append, length-drop, drop_of_length-le, get_or-append}
use lib.Seq.{drop-cons, drop-drop, get_or-drop, get_or-append_seam, length-take-le}
use borrow.Author.Tests.{leb-true, leb-false, ltb-true, ltb-false, eqb-true, eqb-false, le-leb, lt-leb}
use Rattle.saiga.specs.Values.{of_bytes, is_word}
use Rattle.saiga.specs.declared.Base.{Base}
use Rattle.saiga.specs.declared.stops.Refusal.{Refusal}
use Rattle.saiga.specs.declared.stops.Stop.TheVariants.{SheetTooLong}
use Rattle.saiga.specs.Expressions.{Expr, Scope, Whole, no_expression, expression, read_whole}
use Rattle.saiga.specs.Types.{attribute_at}
use Rattle.saiga.specs.Gaps.{first_gap}
use Rattle.saiga.specs.Sheet.{Sheet, empty_sheet, node_count, attribute_count, figure_for, rule_for, forward_for, rule_scope, forward_scope, forwarded, ruled, figured, definition, is_defined, defines, Command, attribute_command, node_command, figure_command, rule_command, forward_command, end_command, no_command, command_of, Read, stops◌at_offset◌ as read-stops◌at_offset◌, ends as read-ends, goes_on as read-on, require, is_none, read_attribute, read_node, read_figure, require_piece, read_rule, read_forward, read_end, read_command, read_next, Checked, refused◌at_place◌, accepted, complete, read_commands, check_sheet}
use Rattle.saiga.proofs.Inference.{cond-passes}
use Rattle.saiga.proofs.Gaps.{one_more, same_gap}
use Rattle.sheets.specs.declared.Counts.{Counts}
use Rattle.sheets.specs.declared.Part.{Part}
use Rattle.sheets.specs.declared.Part.TheVariants.{Attributes, Nodes, Rules}
use Rattle.sheets.specs.declared.Progress.{Progress}
use Rattle.sheets.specs.Scan.{figure_place, pieces_at, piece_places, rule_place, forward_place, attributes_place, index_size, figure_at, piece_at, indexed, part_number, Scanned, stops◌at_offset◌, ends, goes_on, demand, scan_attribute, scan_node, scan_figure, demand_piece, scan_piece, scan_rule, scan_forward, scan_end, scan_at, scan_command, pair_indexed, is_indexed, missing_in, Scan, scanned, scan_from, start, scan_sheet, counts_of, check_of, PieceFits, Described, Indexed, scan_of, Checks}
use Rattle.values.specs.Cells.{emptied}
use Rattle.values.specs.Layout.{result_at, parameter_at, kind_at, attributes_in, kinds_in}
use Rattle.values.proofs.Cells.{emptied-length, emptied-inside, emptied-outside}
use Rattle.sheets.proofs.Indexed.{attributes-snoc, kinds-snoc, attribute-by-index, definition-by-index, figure-indexed, rule-indexed, forward-indexed, counted-indexed}

-- ---- The pass for missing pairs

is-indexed : {A : Type 0} (x : ℕ) (f : ℕ → A) → is_none (indexed x f) ≡ eqb x 0
unfolding indexed
is-indexed zero f = refl
is-indexed (suc at) f = sym (eqb-suc-zero at)

module _ (bytes : List ℕ) (s : Sheet) (index : List ℕ) (h : Described bytes s index) where
  defined-is : (n a : ℕ) → n < node_count s → a < attribute_count s → is_defined (definition s n a) ≡ is_indexed bytes index (attribute_count s) n a
  unfolding pair_indexed is_indexed is_defined figured ruled forwarded indexed
  defined-is n a p q =
      rw (definition-by-index bytes s index h n a p q)
      (go (get_or index (figure_place n a) 0) (get_or index (rule_place kind a) 0) (get_or index (forward_place kind) 0))
    where
      kind : ℕ
      kind = kind_at bytes (attribute_count s) n

      go : (x y z : ℕ) → is_defined (figured (indexed x (figure_at bytes a)) (ruled (indexed y (piece_at bytes)) (forwarded (indexed z (piece_at bytes)))))
          ≡ ((not (eqb x 0) || not (eqb y 0)) || not (eqb z 0))
      go zero zero zero = refl
      go zero zero (suc z) = rw eqb-suc-zero
      go zero (suc y) z = rw eqb-suc-zero
      go (suc x) y z = rw eqb-suc-zero

  gap_is : first_gap (defines s) (node_count s) (attribute_count s) ≡ missing_in bytes index (attribute_count s) (node_count s)
  gap_is = same_gap (node_count s) (attribute_count s) (defines s) (is_indexed bytes index (attribute_count s)) defined-is

-- ---- Between two commands

abbrev pub progress : Sheet → ℕ → Part → Progress
progress s at part = record { at = at; part = part; attributes = attribute_count s; nodes = node_count s }

-- Attributes and nodes are declared where there is no figure, no rule and no forward yet, so each of those is checked on all that is declared.
record Declaring (bytes : List ℕ) (s : Sheet) (at : ℕ) (part : Part) (index : List ℕ) : Type 0 where
  size : length index ≡ index_size
  short : length bytes ≤ 65536
  attributes_are : s.attributes ≡ attributes_in bytes (attribute_count s)
  kinds_are : s.kinds ≡ kinds_in (drop (3 * attribute_count s) bytes) (node_count s)
  reached : at ≡ 3 * attribute_count s + 2 * node_count s
  within : at ≤ length bytes
  attributes_bound : attribute_count s ≤ 32
  nodes_bound : node_count s ≤ 1024
  types_bound : (a : ℕ) → a < attribute_count s → (result_at bytes a < 4) × (parameter_at bytes a < 4)
  kinds_bound : (n : ℕ) → n < node_count s → get_or s.kinds n 0 ≤ 15
  no-nodes : part_number part ≤ 0 → s.kinds ≡ []
  no-figures : s.figures ≡ []
  no-rules : s.rules ≡ []
  no-forwards : s.forwards ≡ []
  clear-rows : (n : ℕ) → n < node_count s → (a : ℕ) → a < 32 → get_or index (figure_place n a) 0 ≡ 0
  clear-pieces : (place : ℕ) → pieces_at ≤ place → place < attributes_place → get_or index place 0 ≡ 0

pub record SoFar (bytes : List ℕ) (s : Sheet) (at : ℕ) (part : Part) (index : List ℕ) : Type 0 where
  pub known : Described bytes s index
  declaring : part_number part ≤ 1 → Declaring bytes s at part index

declared : {bytes : List ℕ} {s : Sheet} {at : ℕ} {part : Part} {index : List ℕ} → Declaring bytes s at part index → SoFar bytes s at part index
unfolding figure_for rule_for forward_for indexed
declared d = record {
  known = record {
    size = d.size;
    short = d.short;
    attributes_are = d.attributes_are;
    kinds_are = d.kinds_are;
    room = omega arith;
    attributes_bound = d.attributes_bound;
    nodes_bound = d.nodes_bound;
    types_bound = d.types_bound;
    kinds_bound = d.kinds_bound;
    figures = λ n a p q. rw (d.no-figures, d.clear-rows n p a (omega arith));
    figure_fits = λ n a b p q e. absurd (omega (arith, d.clear-rows n p a (omega arith)));
    rules = λ k a p q. rw (d.no-rules, d.clear-pieces (rule_place k a) (omega arith) (omega (arith, d.attributes_bound)));
    forwards = λ k p. rw (d.no-forwards, d.clear-pieces (forward_place k) (omega arith) (omega arith));
    piece_fits = λ place b low high e. absurd (omega (arith, d.clear-pieces place low high));
  };
  declaring = λ p. d;
}

-- What reading the command at `at` comes to, by the check and by the pass. A command that is read takes a byte and more, and lies within the sheet's.
pub data Agrees (bytes : List ℕ) (at : ℕ) : Read → Scanned → Type 0 where
  stop : {number offset : ℕ} → Agrees bytes at (read-stops number at_offset offset) (stops number at_offset offset)
  end : Agrees bytes at read-ends ends
  next : {width : ℕ} {part : Part} {s : Sheet} {p : Progress} {index : List ℕ} → 0 < width → at + width ≤ length bytes → p ≡ progress s (at + width) part → SoFar bytes s (at + width) part index
      → Agrees bytes at (read-on record { width = width; part = part_number part; sheet = s }) (goes_on p index)

-- What follows a test may rest on it.
module _ (bytes : List ℕ) (at : ℕ) where
  require-agrees : (b c : Bool) → b ≡ c → (number : ℕ) (r : Read) (t : Scanned) → (b ≡ true → Agrees bytes at r t)
      → Agrees bytes at (require b number r) (demand c number t)
  unfolding require demand
  require-agrees true c e number r t f = rw (← e) (f refl)
  require-agrees false c e number r t f = rw (← e) stop

  require-both-agrees : (a b c d : Bool) → a ≡ c → (a ≡ true → b ≡ d) → (number : ℕ) (r : Read) (t : Scanned)
      → (a ≡ true → b ≡ true → Agrees bytes at r t) → Agrees bytes at (require (a && b) number r) (demand (c && d) number t)
  unfolding require demand
  require-both-agrees true b c d e f number r t g = rw (← e) (require-agrees b d (f refl) number r t (g refl))
  require-both-agrees false b c d e f number r t g = rw (← e) stop

-- ---- Operands

module _ (bytes : List ℕ) (at : ℕ) where
  operand : (i : ℕ) → get_or (drop (at + 1) bytes) i 0 ≡ get_or bytes (at + suc i) 0
  operand i = get_or-drop (at + 1) bytes i 0 ∙ ap (λ k. get_or bytes k 0) (omega arith)

  operands : (i : ℕ) → drop i (drop (at + 1) bytes) ≡ drop (at + suc i) bytes
  operands i = let e : at + 1 + i ≡ at + suc i = omega arith in drop-drop i (at + 1) bytes ∙ rw e

  long : at < length bytes → (n : ℕ) → leb n (length (drop (at + 1) bytes)) ≡ leb (at + suc n) (length bytes)
  long inside n = go (leb n (length (drop (at + 1) bytes))) refl
    where
      go : (b : Bool) → leb n (length (drop (at + 1) bytes)) ≡ b → b ≡ leb (at + suc n) (length bytes)
      go true e = sym (le-leb (at + suc n) (length bytes) (omega (arith, leb-true, length-drop (at + 1) bytes)))
      go false e = sym (lt-leb (at + suc n) (length bytes) (omega (arith, leb-false, length-drop (at + 1) bytes)))

  -- the test on the room that a command with a piece takes, of which `w` bytes follow its first before the piece: the check reads the piece's length before it
  -- knows that this is there
  piece-long : at < length bytes → (b : Bool) (w n : ℕ) → (b && leb (w + n) (length (drop (at + 1) bytes)) && leb w (length (drop (at + 1) bytes)))
      ≡ (b && leb (at + suc w) (length bytes) && leb (at + suc w + n) (length bytes))
  piece-long inside false w n = refl
  piece-long inside true w n =
      let e : at + suc (w + n) ≡ at + suc w + n = omega arith in
      rw (long inside w, long inside (w + n), e) (and_comm (leb (at + suc w + n) (length bytes)) (leb (at + suc w) (length bytes)))

  piece-room : at < length bytes → (b : Bool) (w n : ℕ)
      → (b && leb (w + n) (length (drop (at + 1) bytes)) && leb w (length (drop (at + 1) bytes))) ≡ true → at + suc w + n ≤ length bytes
  piece-room inside b w n e =
      leb-true (at + suc w + n) (length bytes) ((and-eq-true_iff (b && leb (at + suc w) (length bytes)) _).0 (sym (piece-long inside b w n) ∙ e)).1

-- ---- Each command

ruleset tests = (leb-true, ltb-true)

length-snoc : {A : Type 0} (l : List A) (x : A) → length (l ++ x ∷ []) ≡ suc (length l)
length-snoc l x = length-append l (x ∷ []) ∙ add-one (length l)

read_short : (c : Scope) (l : List ℕ) (e : Expr) → read_whole c l ≡ expression e → length l ≤ 256
unfolding read_whole
read_short c l e r =
    leb-true (length l) 256 (cond-passes (leb (length l) 256) r (λ x. cc)).0

module _ (bytes : List ℕ) (s : Sheet) (at : ℕ) (part : Part) (index : List ℕ) (h : SoFar bytes s at part index) (inside : at < length bytes) where
  attribute-agrees : Agrees bytes at (read_attribute s (part_number part) (drop (at + 1) bytes)) (scan_attribute bytes (progress s at part) index)
  unfolding read_attribute scan_attribute kinds_in
  attribute-agrees =
      require-both-agrees bytes at (leb (part_number part) 0) _ _ _ refl (λ first. long bytes at inside 2) 2 _ _ λ first long.
      require-agrees bytes at (ltb (attribute_count s) 32) _ refl 3 _ _ λ room.
      rw (operand bytes at 0, operand bytes at 1)
      (require-both-agrees bytes at (ltb (get_or bytes (at + 1) 0) 4) (ltb (get_or bytes (at + 2) 0) 4) _ _ refl (λ result. refl) 4 _ _ λ result parameter.
      let d = h.declaring (omega (arith, tests)) in
      let no-kinds = d.no-nodes (omega (arith, tests)) in
      let here : at ≡ 3 * attribute_count s = d.reached ∙ rw no-kinds (omega arith) in
      let fits : at + 3 ≤ length bytes = omega (arith, tests, length-drop (at + 1) bytes) in
      next {part = Attributes} (omega arith) fits (rw length-append) (declared record {
        size = d.size;
        short = d.short;
        attributes_are = rw (length-snoc, attributes-snoc, ← here, ← d.attributes_are);
        kinds_are = rw no-kinds;
        reached = rw (no-kinds, length-snoc) (omega arith);
        within = fits;
        attributes_bound = rw length-snoc (omega (arith, tests));
        nodes_bound = d.nodes_bound;
        types_bound = rw length-snoc (one_more _ (attribute_count s) d.types_bound (rw (← here) (omega (arith, tests))));
        kinds_bound = d.kinds_bound;
        no-nodes = λ p. no-kinds;
        no-figures = d.no-figures;
        no-rules = d.no-rules;
        no-forwards = d.no-forwards;
        clear-rows = d.clear-rows;
        clear-pieces = d.clear-pieces;
      }))

  node-agrees : Agrees bytes at (read_node s (part_number part) (drop (at + 1) bytes)) (scan_node bytes (progress s at part) index)
  unfolding read_node scan_node
  node-agrees =
      require-both-agrees bytes at (leb (part_number part) 1) _ _ _ refl (λ early. long bytes at inside 1) 2 _ _ λ early long.
      require-agrees bytes at (ltb (node_count s) 1024) _ refl 3 _ _ λ room.
      rw (operand bytes at 0)
      (require-agrees bytes at (leb (get_or bytes (at + 1) 0) 15) _ refl 4 _ _ λ kind.
      let d = h.declaring (omega (arith, tests)) in
      let here : 3 * attribute_count s + (2 * node_count s + 1) ≡ at + 1 = omega arith in
      let fits : at + 2 ≤ length bytes = omega (arith, tests, length-drop (at + 1) bytes) in
      next {part = Nodes} (omega arith) fits (rw length-append) (declared record {
        size = emptied-length index (figure_place (node_count s) 0) 32 ∙ d.size;
        short = d.short;
        attributes_are = d.attributes_are;
        kinds_are = rw (length-snoc, kinds-snoc, get_or-drop, here, ← d.kinds_are);
        reached = rw length-snoc (omega arith);
        within = fits;
        attributes_bound = d.attributes_bound;
        nodes_bound = rw length-snoc (omega (arith, tests));
        types_bound = d.types_bound;
        kinds_bound = rw length-snoc (one_more _ (node_count s) (λ n p. rw (get_or-append s.kinds _ 0 n p) (d.kinds_bound n p)) (rw get_or-append_seam (omega (arith, tests))));
        no-nodes = λ p. absurd (omega arith);
        no-figures = d.no-figures;
        no-rules = d.no-rules;
        no-forwards = d.no-forwards;
        clear-rows = rw length-snoc (one_more _ (node_count s) (λ n p a q. emptied-outside index (figure_place (node_count s) 0) 32 (figure_place n a) (omega arith) ∙ d.clear-rows n p a q)
            (λ a q. emptied-inside index (figure_place (node_count s) 0) 32 (figure_place (node_count s) a) (omega arith) (omega arith) (omega (arith, tests))));
        clear-pieces = λ place low high. emptied-outside index (figure_place (node_count s) 0) 32 place (omega (arith, tests)) ∙ d.clear-pieces place low high;
      }))

  figure-agrees : Agrees bytes at (read_figure s (part_number part) (drop (at + 1) bytes)) (scan_figure bytes (progress s at part) index)
  unfolding read_figure scan_figure figure_at
  figure-agrees =
      let n = of_bytes (take 2 (drop (at + 1) bytes)) in
      let a = get_or bytes (at + 3) 0 in
      let w = of_bytes (take 4 (drop (at + 4) bytes)) in
      let t = (attribute_at s.attributes a).result in
      rw (operand bytes at 2, operands bytes at 3)
      (require-both-agrees bytes at (leb (part_number part) 2) _ _ _ refl (λ early. long bytes at inside 7) 2 _ _ λ early long.
      require-both-agrees bytes at (ltb n (node_count s) && ltb a (attribute_count s)) (is_word (node_count s) t w) _ _ refl
      (λ declared. rw (attribute-by-index bytes s index h.known a (is_declared n a declared).1)) 4 _ _ λ declared word.
      let p = (is_declared n a declared).0 in
      let q = (is_declared n a declared).1 in
      let here = attribute-by-index bytes s index h.known a q in
      require-agrees bytes at (is_none (figure_for s.figures n a)) _ (rw (h.known.figures n a p q) (is-indexed _ _)) 5 _ _ λ new.
      let fits : at + 8 ≤ length bytes = omega (arith, tests, length-drop (at + 1) bytes) in
      next (omega arith) fits refl record {
        known = rw here (figure-indexed bytes s index h.known a at q n p (fits, rw here at word));
        declaring = λ p. absurd (omega arith);
      })
    where
      is_declared : (n a : ℕ) → (ltb n (node_count s) && ltb a (attribute_count s)) ≡ true → (n < node_count s) × (a < attribute_count s)
      is_declared n a e =
          let t = (and-eq-true_iff (ltb n (node_count s)) (ltb a (attribute_count s))).0 e in
          (ltb-true n (node_count s) t.0, ltb-true a (attribute_count s) t.1)

  require-piece-agrees : (q t : Base) (w : Whole) (r : Read) (u : Scanned) → ((e : Expr) → w ≡ expression e → Agrees bytes at r u)
      → Agrees bytes at (require_piece s q t w r) (demand_piece bytes (progress s at part) q t w u)
  unfolding require_piece demand_piece
  require-piece-agrees q t no_expression r u f = stop
  require-piece-agrees q t (expression e) r u f = require-agrees bytes at _ _ (rw (← h.known.attributes_are)) 7 r u λ typed. f e refl

  -- a piece that was read is short
  piece-fit : (before n : ℕ) (sc : Scope) (e : Expr) → n ≡ of_bytes (take 2 (drop (before + 1) bytes)) → before + 3 + n ≤ length bytes
      → read_whole sc (take n (drop (before + 3) bytes)) ≡ expression e → PieceFits bytes before
  piece-fit before n sc e is fits read =
      let short : n ≤ 256 = omega (arith, read_short sc _ e read, length-take-le n (drop (before + 3) bytes) (omega (arith, length-drop (before + 3) bytes))) in
      (rw is at fits, rw is at short)

  rule-agrees : Agrees bytes at (read_rule s (part_number part) (drop (at + 1) bytes)) (scan_rule bytes (progress s at part) index)
  unfolding read_rule scan_rule scan_piece rule_scope piece_at
  rule-agrees =
      let k = get_or bytes (at + 1) 0 in
      let a = get_or bytes (at + 2) 0 in
      let n = of_bytes (take 2 (drop (at + 3) bytes)) in
      let length_at : at + 2 + 1 ≡ at + 3 = omega arith in
      let piece-at : at + 2 + 3 ≡ at + 5 = omega arith in
      rw (operand bytes at 0, operand bytes at 1, operands bytes at 2, operands bytes at 4, length_at, piece-at)
      (require-agrees bytes at (leb (part_number part) 3 && leb (4 + n) (length (drop (at + 1) bytes)) && leb 4 (length (drop (at + 1) bytes))) _
      (piece-long bytes at inside (leb (part_number part) 3) 4 n) 2 _ _ λ test.
      let fits = piece-room bytes at inside (leb (part_number part) 3) 4 n test in
      require-both-agrees bytes at (leb k 15) (ltb a (attribute_count s)) _ _ refl (λ kind. refl) 4 _ _ λ kind declared.
      require-agrees bytes at (is_none (rule_for s.rules k a)) _
      (rw (h.known.rules k a (omega (arith, tests)) (omega (arith, tests))) (is-indexed _ _)) 5 _ _ λ new.
      rw (attribute-by-index bytes s index h.known a (omega (arith, tests)))
      (require-piece-agrees _ _ _ _ _ λ e read.
      next {part = Rules} (omega arith) (rw (← add_assoc) fits) (rw add_assoc) record {
        known = rw (piece-at, length_at) at (rule-indexed bytes s index h.known (at + 2) (piece-fit (at + 2) n (rule_scope s) e (rw length_at) (rw piece-at fits) (rw piece-at read)) k a (omega (arith, tests)) (omega (arith, tests)));
        declaring = λ p. absurd (omega arith);
      }))

  forward-agrees : Agrees bytes at (read_forward s (part_number part) (drop (at + 1) bytes)) (scan_forward bytes (progress s at part) index)
  unfolding read_forward scan_forward scan_piece forward_scope piece_at
  forward-agrees =
      let k = get_or bytes (at + 1) 0 in
      let n = of_bytes (take 2 (drop (at + 2) bytes)) in
      let length_at : at + 1 + 1 ≡ at + 2 = omega arith in
      let piece-at : at + 1 + 3 ≡ at + 4 = omega arith in
      rw (operand bytes at 0, operands bytes at 1, operands bytes at 3, length_at, piece-at)
      (require-agrees bytes at (leb (part_number part) 3 && leb (3 + n) (length (drop (at + 1) bytes)) && leb 3 (length (drop (at + 1) bytes))) _
      (piece-long bytes at inside (leb (part_number part) 3) 3 n) 2 _ _ λ test.
      let fits = piece-room bytes at inside (leb (part_number part) 3) 3 n test in
      require-agrees bytes at (leb k 15) _ refl 4 _ _ λ kind.
      require-agrees bytes at (is_none (forward_for s.forwards k)) _ (rw (h.known.forwards k (omega (arith, tests))) (is-indexed _ _)) 5 _ _ λ new.
      require-piece-agrees _ _ _ _ _ λ e read.
      next {part = Rules} (omega arith) (rw (← add_assoc) fits) (rw add_assoc) record {
        known = rw (piece-at, length_at) at (forward-indexed bytes s index h.known (at + 1) (piece-fit (at + 1) n (forward_scope s) e (rw length_at) (rw piece-at fits) (rw piece-at read)) k (omega (arith, tests)));
        declaring = λ p. absurd (omega arith);
      })

  end-agrees : Agrees bytes at (read_end (drop (at + 1) bytes)) (scan_end bytes (progress s at part))
  unfolding read_end scan_end
  end-agrees = go (eqb (at + 1) (length bytes)) refl
    where
      go : (b : Bool) → eqb (at + 1) (length bytes) ≡ b → Agrees bytes at (read_end (drop (at + 1) bytes)) (cond b ends (stops 2 at_offset 1))
      go true e = rw (drop_of_length-le bytes {i = at + 1} (omega (arith, eqb-true))) end
      go false e = let later : at + 1 < length bytes = omega (arith, eqb-false (at + 1) (length bytes) e) in rw (drop-cons bytes (at + 1) 0) stop

  command-agrees : (c : Command) → Agrees bytes at (read_command s (part_number part) c (drop (at + 1) bytes)) (scan_at bytes (progress s at part) index c)
  unfolding read_command scan_at
  command-agrees attribute_command = attribute-agrees
  command-agrees node_command = node-agrees
  command-agrees figure_command = figure-agrees
  command-agrees rule_command = rule-agrees
  command-agrees forward_command = forward-agrees
  command-agrees end_command = end-agrees
  command-agrees no_command = stop

pub next-agrees : (bytes : List ℕ) (s : Sheet) (at : ℕ) (part : Part) (index : List ℕ) → SoFar bytes s at part index
    → Agrees bytes at (read_next s (part_number part) (drop at bytes)) (scan_command bytes (progress s at part) index)
unfolding read_next scan_command
next-agrees bytes s at part index h = go (ltb at (length bytes)) refl
  where
    go : (b : Bool) → ltb at (length bytes) ≡ b
        → Agrees bytes at (read_next s (part_number part) (drop at bytes)) (cond b (scan_at bytes (progress s at part) index (command_of (get_or bytes at 0))) (stops 2 at_offset 0))
    go true e =
        let inside = ltb-true at (length bytes) e in
        rw (drop-cons bytes at 0 inside, ← (add-one at)) (command-agrees bytes s at part index h inside (command_of (get_or bytes at 0)))
    go false e = rw (drop_of_length-le bytes {i = at} (ltb-false at (length bytes) e)) stop

-- ---- The pass

-- What the check and the pass come to.
abbrev Outcome : List ℕ → Checked Sheet → Scan → Type 0
Outcome bytes (refused number at_place place) r = r.check ≡ refused number at_place place
Outcome bytes (accepted s) r = (r.check ≡ accepted (counts_of s)) × Indexed bytes s r.index

commands-agree : (bytes : List ℕ) (k : ℕ) (s : Sheet) (at : ℕ) (part : Part) (index : List ℕ) → SoFar bytes s at part index
    → Outcome bytes (read_commands k s (part_number part) at (drop at bytes)) (scan_from k bytes (progress s at part) index)
unfolding read_commands scan_from complete scanned
commands-agree bytes zero s at part index h = refl
commands-agree bytes (suc k) s at part index h = go (commands-agree bytes k) _ _ refl refl (next-agrees bytes s at part index h)
  where
    finish : (o : Option ℕ) → Outcome bytes (complete s o) (scanned (progress s at part) index o)
    finish none = (refl, counted-indexed bytes s index h.known)
    finish (some place) = refl

    go : ((s' : Sheet) (at' : ℕ) (part' : Part) (index' : List ℕ) → SoFar bytes s' at' part' index'
        → Outcome bytes (read_commands k s' (part_number part') at' (drop at' bytes)) (scan_from k bytes (progress s' at' part') index'))
        → (r : Read) (t : Scanned) → read_next s (part_number part) (drop at bytes) ≡ r → scan_command bytes (progress s at part) index ≡ t → Agrees bytes at r t
        → Outcome bytes (read_commands (suc k) s (part_number part) at (drop at bytes)) (scan_from (suc k) bytes (progress s at part) index)
    go ih r t e f stop = rw (e, read_commands, f, scan_from)
    go ih r t e f end =
        rw (e, read_commands, f, scan_from, gap_is bytes s index h.known)
        (finish (missing_in bytes index (attribute_count s) (node_count s)))
    go ih r t e f (next wide fits same so_far) = rw (e, read_commands, f, scan_from, drop-drop, same) (ih _ _ _ _ so_far)

pub start-so-far : (bytes index : List ℕ) → length bytes ≤ 65536 → length index ≡ index_size → SoFar bytes empty_sheet 0 Attributes (emptied index pieces_at piece_places)
unfolding attributes_in kinds_in
start-so-far bytes index short size = declared record {
  size = emptied-length index pieces_at piece_places ∙ size;
  short = short;
  attributes_are = refl;
  kinds_are = refl;
  reached = refl;
  within = omega arith;
  attributes_bound = omega arith;
  nodes_bound = omega arith;
  types_bound = λ a p. absurd (omega arith);
  kinds_bound = λ n p. absurd (omega arith);
  no-nodes = λ p. refl;
  no-figures = refl;
  no-rules = refl;
  no-forwards = refl;
  clear-rows = λ n p. absurd (omega arith);
  clear-pieces = λ place low high. emptied-inside index pieces_at piece_places place low (omega arith) (omega arith);
}

sheet-agrees : (bytes index : List ℕ) → length index ≡ index_size → Outcome bytes (check_sheet bytes) (scan_sheet bytes index)
unfolding check_sheet scan_sheet
sheet-agrees bytes index size = go (leb (length bytes) 65536) refl
  where
    go : (b : Bool) → leb (length bytes) 65536 ≡ b
        → Outcome bytes (cond b (read_commands (suc (length bytes)) empty_sheet 0 0 bytes) (refused 1 at_place 0))
        (cond b (scan_from (suc (length bytes)) bytes start (emptied index pieces_at piece_places)) record { check = refused 1 at_place 0; index = index })
    go false e = refl
    go true e =
        commands-agree bytes (suc (length bytes)) empty_sheet 0 Attributes (emptied index pieces_at piece_places)
        (start-so-far bytes index (leb-true (length bytes) 65536 e) size)

pub scan-checks : (bytes index : List ℕ) → length index ≡ index_size → (scan_sheet bytes index).check ≡ check_of (check_sheet bytes)
unfolding check_of
scan-checks bytes index size = go (check_sheet bytes) (sheet-agrees bytes index size)
  where
    go : (c : Checked Sheet) → Outcome bytes c (scan_sheet bytes index) → (scan_sheet bytes index).check ≡ check_of c
    go (refused number at_place place) h = h
    go (accepted s) h = h.0

pub scan-indexes : (bytes index : List ℕ) (s : Sheet) → length index ≡ index_size → check_sheet bytes ≡ accepted s → Indexed bytes s (scan_sheet bytes index).index
scan-indexes bytes index s size e = (subst (λ c. Outcome bytes c (scan_sheet bytes index)) e (sheet-agrees bytes index size)).1

-- ---- What the code's check comes to

long-refused : (bytes : List ℕ) → 65536 < length bytes → check_sheet bytes ≡ refused 1 at_place 0
unfolding check_sheet
long-refused bytes h = rw (lt-leb _ _ h)

module _ (bytes index : List ℕ) where
  pub long-checks : (r : Refusal) → (r.stop ≡ SheetTooLong) × (r.place ≡ 0) → length index ≡ index_size → 65536 < length bytes → Checks bytes (Err r) index
  unfolding check_of
  long-checks r (number, place) size h =
      let e = long-refused bytes h in
      record { size = size; checked = rw (number, place, e); indexes = λ s f. absurd (cc) }

  pass-is : length bytes ≤ 65536 → scan_sheet bytes index ≡ scan_from (suc (length bytes)) bytes start (emptied index pieces_at piece_places)
  unfolding scan_sheet
  pass-is h = rw (le-leb _ _ h)

  pub short-checks : (r : Result Counts Refusal) (after : List ℕ) → length index ≡ index_size → length after ≡ index_size → length bytes ≤ 65536
      → scan_of r after ≡ scan_from (suc (length bytes)) bytes start (emptied index pieces_at piece_places) → Checks bytes r after
  short-checks r after size left h e =
      let same = e ∙ sym (pass-is h) in
      record {
        size = left;
        checked = ap (λ s. s.check) same ∙ scan-checks bytes index size;
        indexes = λ s f. subst (λ l. Indexed bytes s l) (sym (ap (λ s. s.index) same)) (scan-indexes bytes index s size f);
      }
