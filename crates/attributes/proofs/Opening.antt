-- AttrApp by its cases: the figure, the piece of a rule or of a forward, the form that opens around it, and the kept value.
use mathlib.Core.Bool.{Bool, true, false, cond}
use mathlib.Core.List.{List, []}
use Rattle.std.specs.Prelude.{Option, None as none, Some as some, Result, Err}
use Rattle.std.specs.Result.{is_ok}
use mathlib.Core.Path.{◌≡◌, refl, ap, ◌∙◌, sym}
use Prim.Native.Nat.{ℕ, zero, suc, ◌+◌, ◌*◌, ◌-◌, ◌/◌, ◌%◌, ◌≤◌, ◌<◌}
use native.Mathlib.Omega.{arith}
use lib.Dec.{eqb}
use lib.ListN.{length, take, drop, get_or, set, length-drop}
use lib.Seq.{length-take-le, take-set-le}
use borrow.Author.Tests.{eqb-true, eqb-false}
use Rattle.saiga.specs.Values.{of_bytes, to_word}
use Rattle.saiga.proofs.Preservation.{either}
use Rattle.saiga.specs.declared.Value.{Value}
use Rattle.sheets.specs.Scan.{figure_place, figure_at, indexed, piece_at, rule_number, forward_number, piece_for, PieceHere}
use Rattle.sheets.specs.declared.lookup.FoundPiece.{FoundPiece}
use Rattle.sheets.specs.declared.lookup.FoundPiece.TheVariants.{OfRule, OfForward}
use Rattle.sheets.proofs.Lookups.{rule-here, forward-here}
use Rattle.stores.specs.declared.Key.{Key}
use Rattle.stores.specs.Keys.{find_key}
use Rattle.stores.proofs.Searches.{found_below}
use Rattle.engine.specs.declared.Registers.{Registers}
use Rattle.engine.specs.FrameWords.{form_kind}
use Rattle.engine.specs.Decode.{frame_limit, form_place, forms_in, opens_in}
use Rattle.engine.specs.OpenKeys.{form_key, key_open}
use Rattle.engine.specs.Ready.{memory_of}
use Rattle.engine.proofs.RunMemory.{forms-length, form-opened, form-beyond}
use Rattle.engine.proofs.Attributes.{set_four, four-first, four-second}
use Rattle.opens.specs.Opened.{Opened, FreeFor, ClosedAt, planted, Plants}
use Rattle.opens.proofs.Opened.{opened-more}
use Rattle.engine.specs.Steps.{Memory, Stepped, goes, waits, finishes, stops, limited, forwarding, open_piece, open_rule, keeps_figure, open_figure, take_kept}
use Rattle.attributes.specs.Due.{StepReady, IndexedPiece, RuleReady, OpenReady, FoundReady, AttributeReady}

-- ---- The figure, or the rule or forward

module _ (sheet index : List ℕ) (n a : ℕ) where
  -- Where there is no figure, there is a rule or a forward.
  pub no-figure : indexed (get_or index (figure_place n a) 0) (figure_at sheet a) ≡ none → get_or index (figure_place n a) 0 ≡ 0
  unfolding indexed
  no-figure e = go (get_or index (figure_place n a) 0) e
    where
      go : (j : ℕ) → indexed j (figure_at sheet a) ≡ none → j ≡ 0
      go zero e = refl
      go (suc j) e = cc

  pub some-figure : (v : Value) → indexed (get_or index (figure_place n a) 0) (figure_at sheet a) ≡ some v → (at : ℕ) × (get_or index (figure_place n a) 0 ≡ suc at)
  unfolding indexed
  some-figure v e = go (get_or index (figure_place n a) 0) e
    where
      go : (j : ℕ) → indexed j (figure_at sheet a) ≡ some v → (at : ℕ) × (j ≡ suc at)
      go zero e = cc
      go (suc j) e = (j, refl)

pub rule-indexed : (sheet index store links run : List ℕ) (m : Registers) (n a : ℕ) → AttributeReady sheet index store links run m n a
    → indexed (get_or index (figure_place n a) 0) (figure_at sheet a) ≡ none → IndexedPiece sheet index n a
rule-indexed sheet index store links run m n a ready missing = record { pair = ready.pair; defined = ready.defined (no-figure sheet index n a missing) }

-- The piece is as long as its command says, and ends within the sheet.
module _ (sheet : List ℕ) (number : ℕ) (here : PieceHere sheet number) (piece : List ℕ) (is : piece ≡ piece_at sheet (number - 1)) where
  abbrev size : ℕ
  size = of_bytes (take 2 (drop number sheet))

  piece-length : length piece ≡ size
  unfolding piece_at
  piece-length =
      let length_at : number - 1 + 1 ≡ number = omega (arith, here.starts) in
      let piece-at : number - 1 + 3 ≡ number + 2 = omega (arith, here.starts) in
      rw (is, length_at, piece-at) (length-take-le size (drop (number + 2) sheet) (omega (arith, here.room, length-drop (number + 2) sheet)))

  -- The form's numbers are written, and its frame's word.
  module _ (run : List ℕ) (m : Registers) (n a word f : ℕ) (few : m.forms < 64) (ready : StepReady run m) (f-is : f ≡ form_place m.forms) where
    abbrev written : List ℕ
    written = set (set (set (set (set run f (n * 32 + a)) (f + 1) word) (f + 2) m.at) (f + 3) m.end) (m.frames - 1) form_kind

    top-inside : m.frames - 1 < frame_limit
    top-inside = omega (arith, ready.frame.inside, ready.frame.framed)

    pub piece-runs : (store : List ℕ)
        → goes record m { returning = false; at = number + 2; end = number + 2 + length piece; forms = m.forms + 1; steps = m.steps + 1 } (memory_of store written)
        ≡ open_piece sheet (memory_of store run) m n a word number
    unfolding open_piece
    piece-runs store =
        rw (
          piece-length,
          f-is,
          form-opened run m.forms (n * 32 + a) word m.at m.end few store (m.frames - 1) form_kind top-inside,
        )

    pub piece-beyond : opens_in written ≡ opens_in run
    piece-beyond = rw f-is (form-beyond run m.forms (n * 32 + a) word m.at m.end few (m.frames - 1) form_kind top-inside)

-- What the code found of the rule and the forward of a pair.
module _ (sheet index : List ℕ) (n a : ℕ) (found : FoundPiece) (is : found ≡ piece_for (rule_number sheet index n a) (forward_number sheet index n))
    (indexed-piece : IndexedPiece sheet index n a) where
  abbrev rule : ℕ
  rule = rule_number sheet index n a

  abbrev forward : ℕ
  forward = forward_number sheet index n

  -- by whether there is a rule
  module _ (number : ℕ) where
    found-rule : found ≡ OfRule number → (eqb rule 0 ≡ false) × (rule ≡ number)
    found-rule of = go (eqb rule 0) refl (sym is ∙ of)
      where
        go : (b : Bool) → eqb rule 0 ≡ b → cond b (OfForward forward) (OfRule rule) ≡ OfRule number → (b ≡ false) × (rule ≡ number)
        go true e h = cc
        go false e h = (refl, cc)

    found-forward : found ≡ OfForward number → (eqb rule 0 ≡ true) × (forward ≡ number)
    found-forward of = go (eqb rule 0) refl (sym is ∙ of)
      where
        go : (b : Bool) → eqb rule 0 ≡ b → cond b (OfForward forward) (OfRule rule) ≡ OfForward number → (b ≡ true) × (forward ≡ number)
        go true e h = (refl, cc)
        go false e h = cc

    pub rule-starts : found ≡ OfRule number → PieceHere sheet number
    rule-starts of =
        let (some-rule, number_is) = found-rule of in
        rw number_is at (rule-here sheet index n a indexed-piece.pair (eqb-false rule 0 some-rule))

    pub forward-starts : found ≡ OfForward number → PieceHere sheet number
    forward-starts of =
        let (no-rule, number_is) = found-forward of in
        rw number_is at (forward-here sheet index n a indexed-piece.pair (indexed-piece.defined (eqb-true rule 0 no-rule)))

    -- what comes of a forward
    pub forward-is : (mem : Memory) (m : Registers) (word : ℕ) (stepped : Stepped) → found ≡ OfForward number
        → stepped ≡ forwarding a (open_piece sheet mem m n a word number) → stepped ≡ open_rule sheet index mem m n a word
    unfolding open_rule
    forward-is mem m word stepped of opened = let (no-rule, number_is) = found-forward of in rw (no-rule, number_is) opened

-- ---- The index of the open forms

-- the forms that a move goes on with
forms_in-of : List ℕ → Stepped → List ℕ
forms_in-of was (goes m mem) = mem.forms
forms_in-of was waits = was
forms_in-of was finishes = was
forms_in-of was (stops number) = was

-- What a rule or a forward leaves of the forms is the same.
rule-forms : (sheet index : List ℕ) (mem : Memory) (m : Registers) (n a word : ℕ)
    → forms_in-of [] (open_rule sheet index mem m n a word) ≡ set_four mem.forms (4 * m.forms) (n * 32 + a) word m.at m.end
unfolding open_rule open_piece forms_in-of
rule-forms sheet index mem m n a word =
    either (λ x. forms_in-of [] x ≡ set_four mem.forms (4 * m.forms) (n * 32 + a) word m.at m.end) (eqb (rule_number sheet index n a) 0) (λ _. refl) (λ _. refl)

-- The form that a rule or a forward opened has the key, and those around it are as they were: it is in the index.
pub rule-opened : (sheet index run run' run'' : List ℕ) (m r : Registers) (q : Key) (cell : ℕ) → OpenReady run m q cell
    → RuleReady sheet index run m q.node q.attribute
    → ((s : List ℕ) → goes r (memory_of s run') ≡ open_rule sheet index (memory_of s run) m q.node q.attribute q.word)
    → r.forms ≡ m.forms + 1 → opens_in run' ≡ opens_in run → Plants run' run'' m.forms cell → Opened (forms_in run'') (opens_in run'') r.forms
unfolding form_key forms_in-of
rule-opened sheet index run run' run'' m r q cell opening ready opened count-is beyond plants =
    let k = 4 * m.forms in
    let pair = q.node * 32 + q.attribute in
    let forms-are : forms_in run'' ≡ set_four (forms_in run) k pair q.word m.at m.end = plants.forms ∙ ap (forms_in-of []) (opened []) ∙ rule-forms sheet index _ m _ _ _ in
    let fits : k + 4 ≤ length (forms_in run) = omega (arith, forms-length run ready.step.frame.size, ready.few) in
    let small : q.attribute < 32 = omega (arith, ready.rule.pair.known.described.attributes_bound, ready.rule.pair.attribute) in
    let of_node : pair / 32 ≡ q.node = omega arith in
    let of-attribute : pair % 32 ≡ q.attribute = omega arith in
    rw count-is
    (opened-more (forms_in run) (forms_in run'') (opens_in run) (opens_in run'') m.forms opening.opened ready.few q cell opening.free opening.closed
    opening.keyed
    (rw (
      forms-are,
      four-first (forms_in run) k pair q.word m.at m.end fits,
      four-second (forms_in run) k pair q.word m.at m.end fits,
      of_node,
      of-attribute,
    ))
    (rw forms-are
    (take-set-le k _ (k + 3) m.end (omega arith)
    ∙ take-set-le k _ (k + 2) m.at (omega arith)
    ∙ take-set-le k _ (k + 1) q.word (omega arith)
    ∙ take-set-le k (forms_in run) k pair (omega arith)))
    (plants.opens ∙ ap (λ l. planted l m.forms cell) beyond))

-- ---- A kept value, or the definition

-- What the code found of an occurrence among the open forms.
module _ (run : List ℕ) (m : Registers) (q : Key) {found : Result ℕ ℕ} (is : is_ok found ≡ key_open (forms_in run) m.forms q) where
  module _ (cell : ℕ) (closed : found ≡ Err cell) where
    pub closed-key : key_open (forms_in run) m.forms q ≡ false
    closed-key = sym is ∙ ap is_ok closed

    pub closed-free : ClosedAt (opens_in run) m.forms q found → FreeFor (opens_in run) m.forms q cell
    closed-free free = rw closed at free

-- A figure is no circle.
pub missing-figure : (sheet index store links run : List ℕ) (budget limit : ℕ) (m : Registers) (q : Key)
    → AttributeReady sheet index store links run m q.node q.attribute → q.word ≡ to_word m.value → {found : Option Value}
    → found ≡ indexed (get_or index (figure_place q.node q.attribute) 0) (figure_at sheet q.attribute) → (v : Value) → found ≡ some v → {stepped : Stepped}
    → stepped ≡ limited budget limit m (keeps_figure (memory_of store run) m q.node q.attribute q.word v)
    → stepped ≡ take_kept sheet index budget limit (memory_of store run) m q.node q.attribute none
unfolding take_kept open_figure
missing-figure sheet index store links run budget limit m q ready word is v of due =
    let (at, is-figure) = some-figure sheet index q.node q.attribute v (sym is ∙ of) in
    rw (ready.figure_closed at is-figure, ← word, sym is ∙ of) due

-- A kept value is read within the store, and is one of its type.
pub found-ready : (sheet index store links run : List ℕ) (m : Registers) (q : Key) → AttributeReady sheet index store links run m q.node q.attribute
    → q.word ≡ to_word m.value → (j : ℕ) → find_key store m.kept q ≡ some j → FoundReady sheet store m q.attribute j
found-ready sheet index store links run m q ready word j found =
    let (below, same) = found_below _ _ _ _ found in
    let due : q ≡ record { node = q.node; attribute = q.attribute; word = to_word m.value } =
    λ i. record { node = q.node; attribute = q.attribute; word = word i } in
    record {
      framed = ready.frame.framed;
      declared = omega (arith, ready.pair.known.described.room, ready.pair.attribute);
      stands = omega (arith, below, ready.writes.linked.stands);
      word = ready.kept_word _ (rw due at found);
    }
