-- Every move keeps the run on what is noted, and where an expression is to be passed over, its width is noted.
use mathlib.Core.Bool.{Bool, true, false}
use mathlib.Core.List.{List, [], ◌∷◌}
use mathlib.Core.Logic.{◌⊎◌, inl, inr}
use Rattle.std.specs.Prelude.{Option, None as none, Some as some}
use mathlib.Core.Path.{◌≡◌, refl, ap, ◌∙◌}
use Prim.Native.Nat.{ℕ, zero, suc, ◌+◌, ◌*◌, ◌-◌, ◌≤◌, ◌<◌}
use native.Mathlib.Nat.{add-zero, eq-or-lt_of_le}
use native.Mathlib.Numerals.{add-one}
use native.Mathlib.Omega.{arith}
use lib.Dec.{eqb}
use lib.ListN.{length, take, drop, get_or, length-take, length-drop}
use lib.Seq.{drop-drop, get_or-drop}
use borrow.Author.Tests.{eqb-true, eqb-false}
use Rattle.saiga.specs.Values.{null, node_of, of_bytes, truth}
use Rattle.saiga.specs.declared.Value.{Value}
use Rattle.saiga.specs.Expressions.{Head, base_literal, function_literal, if_head, application_head, attribute_head, this_head, parameter_head, no_head, head_of}
use Rattle.saiga.proofs.Preservation.{either}
use Rattle.saiga.proofs.Reading.{read-width}
use Rattle.values.specs.Packed.{value_in}
use Rattle.expressions.specs.Widths.{Starts, head_width}
use Rattle.expressions.specs.Noted.{WidthOf, Noted}
use Rattle.expressions.proofs.Noting.{noted-front, noted-over}
use Rattle.sheets.specs.Scan.{pieces_at, figure_place, attributes_place, figure_at, piece_at, indexed, rule_number, forward_number, IndexedPair, PieceHere}
use Rattle.sheets.specs.Notes.{PiecesNoted}
use Rattle.sheets.proofs.Lookups.{rule-inside, forward-inside, rule-here, forward-here}
use Rattle.engine.specs.RunningPiece.{piece_in, rest_of}
use Rattle.engine.specs.FrameWords.{kind_of, if_kind, left_kind, skip_kind, right_kind, node_kind, parameter_kind, form_kind, held_attribute, held_node}
use Rattle.engine.specs.Decode.{sheet_of}
use Rattle.engine.specs.Steps.{Memory, Stepped, goes, waits, finishes, stops, read_head, close_form, take_if, forwarding, open_piece, open_rule, open_figure, take_kept, attribute_due, give, read_next, step_of}
use Rattle.engine.specs.declared.Registers.{Registers}
use Rattle.engine.specs.Represents.{Represents}
use Rattle.engine.specs.Ready.{PassReady}
use Rattle.engine.specs.Tracks.{NotedIn, Tracks}
use Rattle.engine.proofs.Attributes.{set_four, four-older, four-third, four-last, form-counted, pair-indexed, some-piece}
use Rattle.engine.proofs.Decoding.{rest-on}
use Rattle.engine.proofs.Kept.{by_key}
use Rattle.engine.proofs.ReadyForCode.{if-starts, skip-starts}
use Rattle.engine.proofs.Limited.{within-holds, right-holds, missing-holds}

-- ---- One piece

module _ (sheet notes : List ℕ) where
  -- the rest of the sheet's piece
  abbrev rest : ℕ → ℕ → List ℕ
  rest at end = take (end - at) (drop at sheet)

  rest_from : (at end w : ℕ) → rest (at + w) end ≡ drop w (rest at end)
  unfolding rest_of piece_in
  rest_from at end w = rest-on sheet [] 1 at end w

  -- what is noted `w` bytes further
  further : (at end w : ℕ) → Noted (drop w (rest at end)) (drop w (drop at notes)) (end - at - w) → Noted (rest (at + w) end) (drop (at + w) notes) (end - (at + w))
  further at end w row =
      let left : end - (at + w) ≡ end - at - w = omega arith in
      rw (rest_from at end w, ← drop-drop w at notes, left) row

  -- behind a head, with its operand
  head-tracked : (question : List ℕ) (k at end : ℕ) {c : ℕ} {l : List ℕ} → rest_of sheet question k at end ≡ c ∷ l → NotedIn sheet notes k at end
      → NotedIn sheet notes k (at + head_width (head_of c)) end
  unfolding rest_of piece_in
  head-tracked question zero at end is row = tt
  head-tracked question (suc k) at end {c} {l} is row =
      let inside : 0 < end - at = omega (arith, ap length is, length-take (end - at) (drop at sheet)) in
      let first : get_or (rest at end) 0 0 ≡ c = rw is in
      further at end (head_width (head_of c)) (rw first at (noted-front row inside).1)

  -- behind an expression
  over-tracked : (question : List ℕ) (k at end skip : ℕ) → end ≤ length (piece_in sheet question k) → Starts (rest_of sheet question k at end)
      → WidthOf (rest_of sheet question k at end) skip → NotedIn sheet notes k at end → NotedIn sheet notes k (at + skip) end
  unfolding rest_of piece_in
  over-tracked question zero at end skip inside starts width row = tt
  over-tracked question (suc k) at end skip inside starts width row =
      let is = width starts.scope starts.expr starts.width starts.read in
      rw is (further at end starts.width (noted-over starts.scope row (omega (arith, length-take (end - at) (drop at sheet))) starts.read))

  -- its width
  width-tracked : (question : List ℕ) (k at end : ℕ) → 0 < k → Starts (rest_of sheet question k at end) → NotedIn sheet notes k at end
      → WidthOf (rest_of sheet question k at end) (1 + get_or notes at 0) × (at < end)
  unfolding rest_of piece_in
  width-tracked question zero at end inside starts row = absurd (omega arith)
  width-tracked question (suc k) at end inside starts row =
      let first : get_or (drop at notes) 0 0 ≡ get_or notes at 0 = get_or-drop at notes 0 0 ∙ rw add-zero in
      let more : 0 < end - at = omega (arith, read-width _ _ (rest at end) _ _ starts.read, length-take (end - at) (drop at sheet)) in
      (rw first at (noted-front row more).0, omega arith)

piece-length : (sheet question : List ℕ) (k : ℕ) → 0 < k → length (piece_in sheet question k) ≡ length sheet
unfolding piece_in
piece-length sheet question zero inside = absurd (omega arith)
piece-length sheet question (suc k) inside = refl

-- ---- Moves

module _ {sheet index question notes : List ℕ} {mem : Memory} {m : Registers} (r : Represents sheet index question mem m) (t : Tracks sheet index notes mem m) where
  -- the rest of the running piece, before an expression that is to be passed over
  abbrev bytes : List ℕ
  bytes = rest_of sheet question m.forms m.at m.end

  pub pass-ready : Starts bytes → PassReady notes bytes m
  pass-ready starts =
      let noted : 0 < m.forms → WidthOf bytes (1 + get_or notes m.at 0) × (m.at < m.end) =
      λ inside. width-tracked sheet notes question m.forms m.at m.end inside starts t.here in
      record {
        starts = starts;
        inside = λ inside. omega (arith, (noted inside).1, r.holds.to, piece-length sheet question m.forms inside, t.size);
        noted = λ inside. (noted inside).0;
      }

  abbrev P : Stepped → Type 0
  P (goes m' mem') = Tracks sheet index notes mem' m'
  P waits = Unit {0}
  P finishes = Unit {0}
  P (stops n) = Unit {0}

  -- The forms stay, and the rest goes on at `at`.
  abbrev at_place : Bool → ℕ → ℕ → ℕ → ℕ → Value → Registers
  at_place returning at frames kept steps value =
      record { returning = returning; at = at; end = m.end; frames = frames; forms = m.forms; kept = kept; steps = steps; value = value }

  goes-on-at : (b : Bool) (at frames kept steps : ℕ) (v : Value) (store' words : List ℕ) → NotedIn sheet notes m.forms at m.end
      → P (goes (at_place b at frames kept steps v) record { store = store'; words = words; forms = mem.forms })
  goes-on-at b at frames kept steps v store' words row = record { pieces = t.pieces; size = t.size; here = row; around = t.around }

  module _ (c : ℕ) (l : List ℕ) (is : bytes ≡ c ∷ l) where
    head-tracks : (h : Head) → head_of c ≡ h → P (read_head sheet mem m h l)
    unfolding read_head
    head-tracks h e =
        let row = rw e at (head-tracked sheet notes question m.forms m.at m.end is t.here) in
        go h row
      where
        go : (h : Head) → NotedIn sheet notes m.forms (m.at + head_width h) m.end → P (read_head sheet mem m h l)
        go (base_literal b) row = goes-on-at _ _ _ _ _ _ _ _ row
        go function_literal row = goes-on-at _ _ _ _ _ _ _ _ row
        go if_head row = goes-on-at _ _ _ _ _ _ _ _ row
        go application_head row = goes-on-at _ _ _ _ _ _ _ _ row
        go attribute_head row = goes-on-at _ _ _ _ _ _ _ _ row
        go this_head row = goes-on-at _ _ _ _ _ _ _ _ row
        go parameter_head row = goes-on-at _ _ _ _ _ _ _ _ row
        go no_head row = tt

  next-tracks : (l : List ℕ) → bytes ≡ l → P (read_next sheet index mem m l)
  unfolding read_next
  next-tracks [] is = tt
  next-tracks (c ∷ l) is = head-tracks c l is (head_of c) refl

  over : (skip : ℕ) → Starts bytes → WidthOf bytes skip → NotedIn sheet notes m.forms (m.at + skip) m.end
  over skip starts width = over-tracked sheet notes question m.forms m.at m.end skip r.holds.to starts width t.here

  if-tracks : (skip : ℕ) → Starts bytes → WidthOf bytes skip → (b : Bool) → P (take_if skip mem m b)
  unfolding take_if
  if-tracks skip starts width true = goes-on-at _ _ _ _ _ _ _ _ t.here
  if-tracks skip starts width false = goes-on-at _ _ _ _ _ _ _ _ (over skip starts width)

  module _ (gives : m.returning ≡ true) (framed : 0 < m.frames) where
    abbrev word : ℕ
    word = get_or mem.words (m.frames - 1) 0

    close-tracks : kind_of word ≡ form_kind → P (close_form mem m)
    unfolding close_form
    close-tracks is-form =
        let opened = form-counted r gives framed (by_key (sheet_of sheet)) is-form in
        record {
          pieces = t.pieces;
          size = t.size;
          here = t.around (m.forms - 1) (omega arith);
          around = λ k h. t.around k (omega arith);
        }

    module _ (is-parameter : kind_of word ≡ parameter_kind) where
      abbrev n : ℕ
      n = node_of (value_in (held_node word))

      abbrev a : ℕ
      a = held_attribute word

      module _ (no_null : eqb n null ≡ false) (few : m.forms < 64) where
        abbrev forms' : ℕ → List ℕ
        forms' w = set_four mem.forms (4 * m.forms) (n * 32 + a) w m.at m.end

        -- the pieces around it, with the one that ran so far
        rule-around : (w k : ℕ) → k < m.forms + 1 → NotedIn sheet notes k (get_or (forms' w) (4 * k + 2) 0) (get_or (forms' w) (4 * k + 3) 0)
        rule-around w k h = go (eq-or-lt_of_le (omega arith))
          where
            fits : 4 * m.forms + 4 ≤ length mem.forms
            fits = omega (arith, r.holds.forms-size)

            older : (i : ℕ) → i < 4 * m.forms → get_or (forms' w) i 0 ≡ get_or mem.forms i 0
            older = four-older mem.forms (4 * m.forms) (n * 32 + a) w m.at m.end fits

            go : (k ≡ m.forms) ⊎ (k < m.forms) → NotedIn sheet notes k (get_or (forms' w) (4 * k + 2) 0) (get_or (forms' w) (4 * k + 3) 0)
            go (inl e) =
                rw (
                  e,
                  four-third mem.forms (4 * m.forms) (n * 32 + a) w m.at m.end fits,
                  four-last mem.forms (4 * m.forms) (n * 32 + a) w m.at m.end fits,
                )
                t.here
            go (inr lt) = rw (older (4 * k + 2) (omega arith), older (4 * k + 3) (omega arith)) (t.around k lt)

        -- the piece whose length stands at a number that the index has
        piece-tracks : (w place number : ℕ) → pieces_at ≤ place → place < attributes_place → get_or index place 0 ≡ number → PieceHere sheet number
            → P (open_piece sheet mem m n a w number)
        unfolding open_piece piece_at
        piece-tracks w place zero low high e here = absurd (omega (arith, here.starts))
        piece-tracks w place (suc at) low high e here =
            let size = of_bytes (take 2 (drop (suc at) sheet)) in
            let length_at : at + 1 ≡ suc at = omega arith in
            let piece-at : at + 3 ≡ suc at + 2 = omega arith in
            let noted = rw (length_at, piece-at) at (t.pieces.piece place at low high e) in
            let all : length (take size (drop (suc at + 2) sheet)) ≡ size = omega (arith, here.room, length-take size (drop (suc at + 2) sheet), length-drop (suc at + 2) sheet) in
            let width : suc at + 2 + size - (suc at + 2) ≡ size = omega arith in
            record {
              pieces = t.pieces;
              size = t.size;
              here = rw (add-one m.forms, width) (rw all at noted);
              around = rule-around w;
            }

        -- the frame that is pushed changes neither the forms nor the place
        forwarding-tracks : (x : Stepped) → P x → P (forwarding a x)
        forwarding-tracks (goes m' mem') k = record { pieces = k.pieces; size = k.size; here = rw add-zero k.here; around = k.around }
        forwarding-tracks waits k = tt
        forwarding-tracks finishes k = tt
        forwarding-tracks (stops number) k = tt

        rule-tracks : (w : ℕ) → get_or index (figure_place n a) 0 ≡ 0 → P (open_rule sheet index mem m n a w)
        unfolding open_rule
        rule-tracks w no-figure =
            either P (eqb (rule_number sheet index n a) 0)
            (λ none_here. forwarding-tracks (open_piece sheet mem m n a w (forward_number sheet index n)) (piece-tracks w _ _ (forward-inside sheet index n a pair).0 (forward-inside sheet index n a pair).1 refl
            (forward-here sheet index n a pair (some-piece r gives framed (by_key (sheet_of sheet)) is-parameter no_null no-figure (eqb-true _ _ none_here)))))
            (λ one-here. piece-tracks w _ _ (rule-inside sheet index n a pair).0 (rule-inside sheet index n a pair).1 refl (rule-here sheet index n a pair (eqb-false _ _ one-here)))
          where
            pair : IndexedPair sheet index n a
            pair = pair-indexed r gives framed (by_key (sheet_of sheet)) is-parameter no_null

        figure-tracks : (w i : ℕ) → get_or index (figure_place n a) 0 ≡ i → P (open_figure sheet index mem m n a w (indexed i (figure_at sheet a)))
        unfolding open_figure indexed
        figure-tracks w zero e = rule-tracks w e
        figure-tracks w (suc at) e = goes-on-at _ _ _ _ _ _ _ _ t.here

      kept-tracks : eqb n null ≡ false → (budget limit : ℕ) (f : Option ℕ) → P (take_kept sheet index budget limit mem m n a f)
      unfolding take_kept
      kept-tracks no_null budget limit none =
          missing-holds P sheet index budget limit mem m n a (λ _. tt) (λ _ _. tt) (λ _ _ _. tt) (λ _ _ _ _. tt)
          (λ _ _ few _. figure-tracks no_null few _ _ refl)
      kept-tracks no_null budget limit (some j) =
          within-holds P limit m _ budget (λ _. tt) (λ _ _. tt) (λ _ _. goes-on-at _ _ _ _ _ _ _ _ t.here)

      attribute-tracks : (budget limit : ℕ) → P (attribute_due sheet index budget limit mem m n a)
      unfolding attribute_due
      attribute-tracks budget limit = either P (eqb n null) {x = stops 14} (λ _. tt) (λ no_null. kept-tracks no_null budget limit _)

    give-tracks : (budget limit skip packed : ℕ) → WidthOf bytes skip → P (give sheet index budget limit skip packed mem m word)
    unfolding give
    give-tracks budget limit skip packed width =
        either P (eqb (kind_of word) if_kind) (λ e. within-holds P limit m _ budget (λ _. tt) (λ _ _. tt)
        (λ _ _. if-tracks skip (if-starts r gives framed (eqb-true _ _ e)) width (truth m.value))) λ no-if.
        either P (eqb (kind_of word) left_kind) (λ _. goes-on-at _ _ _ _ _ _ _ _ t.here) λ no-left.
        either P (eqb (kind_of word) skip_kind) (λ e. goes-on-at _ _ _ _ _ _ _ _ (over skip (skip-starts r gives framed (eqb-true _ _ e)) width)) λ no-skip.
        either P (eqb (kind_of word) right_kind) (λ _. right-holds P budget limit mem m _ tt tt tt (λ _ _. goes-on-at _ _ _ _ _ _ _ _ t.here)) λ no-right.
        either P (eqb (kind_of word) node_kind) (λ _. goes-on-at _ _ _ _ _ _ _ _ t.here) λ no_Node.
        either P (eqb (kind_of word) form_kind) (λ e. close-tracks (eqb-true _ _ e)) λ no-form.
        either P (eqb (kind_of word) parameter_kind) (λ e. attribute-tracks (eqb-true _ _ e) budget limit)
        (λ _. goes-on-at _ _ _ _ _ _ _ _ (rw add-zero t.here))

  step-tracks : (budget limit skip packed : ℕ) → WidthOf bytes skip → P (step_of sheet index question budget limit skip packed mem m)
  unfolding step_of
  step-tracks budget limit skip packed width =
      either P m.returning
      (λ gives. either P (eqb m.frames 0) {x = finishes} (λ _. tt)
      (λ e. let framed : m.frames ≡ 0 → ⊥ = eqb-false _ _ e in give-tracks gives (omega arith) budget limit skip packed width))
      (λ _. next-tracks bytes refl)

  pub tracks_on : (budget limit skip packed : ℕ) → WidthOf bytes skip → {m' : Registers} {mem' : Memory}
      → step_of sheet index question budget limit skip packed mem m ≡ goes m' mem' → Tracks sheet index notes mem' m'
  tracks_on budget limit skip packed width e = rw e at (step-tracks budget limit skip packed width)

-- ---- The start

-- The question is evaluated first, inside no form.
pub tracks-start : (sheet index notes : List ℕ) (mem : Memory) (m : Registers) → m.forms ≡ 0 → PiecesNoted sheet index notes → length sheet ≤ length notes
    → Tracks sheet index notes mem m
tracks-start sheet index notes mem m none_open pieces size =
    record { pieces = pieces; size = size; here = rw none_open tt; around = λ k h. absurd (omega arith) }
