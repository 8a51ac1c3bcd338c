-- AttrApp and CacheWrite on registers and memory are moves of the machine.
use mathlib.Core.Bool.{Bool, true, false}
use Rattle.std.specs.Prelude.{Option, None as none, Some as some}
use Rattle.std.proofs.lemmas.Option.{none-some}
use mathlib.Core.List.{List, ◌∷◌}
use mathlib.Core.Logic.{◌⊎◌, inl, inr}
use mathlib.Core.Path.{◌≡◌, refl, sym, ◌∙◌, ap}
use Prim.Native.Nat.{ℕ, zero, suc, ◌+◌, ◌*◌, ◌-◌, ◌/◌, ◌%◌, ◌≤◌, ◌<◌}
use native.Mathlib.Nat.{add-zero, eq-or-lt_of_le, mod-lt}
use native.Mathlib.Omega.{arith}
use native.Mathlib.Numerals.{add-one}
use lib.Dec.{eqb, eqb-suc-zero, lit<}
use lib.ListN.{length, take, drop, get_or, set, length-set}
use lib.Seq.{get_or-set_same, get_or-set_other}
use borrow.Author.Tests.{lt-ltb, le-ltb}
use Rattle.std.proofs.lemmas.Grind.{common_steps}
use Rattle.saiga.specs.Values.{base, null, node_of, base_of, of_bytes, of_word, to_word}
use Rattle.saiga.specs.declared.Base.TheVariants.{Node as node_t}
use Rattle.saiga.specs.declared.Value.{Value}
use Rattle.saiga.specs.Types.{attribute_at}
use Rattle.saiga.specs.Sheet.{Sheet, node_count, attribute_count, Definition, figure, piece_of, forward_of, forwarded, ruled, figured, definition, accepted}
use Rattle.saiga.specs.Terms.{Occurrence, val, attr}
use Rattle.saiga.specs.Plain.{on_null}
use Rattle.saiga.specs.Caching.{Entry, kept, write, AttrApp, as_plain, circle, spent, depth, is_open, circular, too_deep}
use Rattle.saiga.proofs.Depth.{not-circular-kept, not-circular-closed, circular-open, not-deep-kept, not-deep-few, deep-missing}
use Rattle.saiga.specs.Store.{check_store}
use Rattle.saiga.specs.Ask.{reason_number}
use Rattle.saiga.specs.Sound.{IsA, OccurrenceIn, RunningIn}
use Rattle.saiga.proofs.FourBytes.{word_in}
use Rattle.saiga.proofs.Preservation.{declared, either}
use Rattle.sheets.specs.Scan.{figure_place, figure_at, piece_at, indexed, rule_number, forward_number, IndexedPair, PieceHere}
use Rattle.sheets.proofs.Indexed.{attribute-by-index, definition-by-index}
use Rattle.sheets.proofs.Lookups.{rule-here, forward-here, piece-there}
use Rattle.values.proofs.Attributes.{attribute_in}
use Rattle.stores.specs.Keys.{find_key, fields_for}
use Rattle.engine.specs.RunningPiece.{piece_in, rest_of}
use Rattle.values.specs.Packed.{value_in}
use Rattle.engine.specs.Machine.{Frame, on_parameter, on_forward, on_form, evaluating, returning, Machine, open_forms, plug, term_of, state_of, moves, takes, counted, defined, applied, give, move_of, move}
use Rattle.engine.specs.Machine as Machine
use Rattle.engine.specs.FrameWords.{kind_of, parameter_kind, form_kind, held_attribute, held_node, forward_word}
use Rattle.engine.specs.Decode.{sheet_of, entries_of, form_occurrence, form_rest, frames_in, mode_of, machine_of, Placed}
use Rattle.engine.specs.Steps.{Memory, Stepped, goes, answered, cache_write, close_form, forwarding, open_piece, open_rule, open_figure, take_kept, attribute_due}
use Rattle.engine.specs.OpenKeys.{form_key, key_open}
use Rattle.engine.specs.declared.Registers.{Registers}
use Rattle.engine.proofs.Bounds.{represents-sized, frames-fit}
use Rattle.engine.specs.Machine.{Next, by_move, by_step}
use Rattle.engine.specs.Represents.{machine_in, Represents, Matches}
use Rattle.engine.proofs.Decoding.{parameter-kind, forward-word, pushed-frame, top_frame, top-form, frames-count}
use Rattle.engine.proofs.StoreWritten.{key_of, ByKey, Written, cache-write}
use Rattle.engine.proofs.Apart.{figure_closed}
use Rattle.engine.proofs.Limited.{within-holds, missing-holds}
use Rattle.engine.proofs.OpenForms.{val-in, attr-in, form_in, plug-in, plain-open, forms-in, open-by-key}

-- ---- Frames and forms

-- what is read of a form
module _ (sheet question forms forms' : List ℕ) (k : ℕ) (same : (i : ℕ) → i < 4 * k + 4 → get_or forms' i 0 ≡ get_or forms i 0) where
  form-same : (form_occurrence sheet forms' k ≡ form_occurrence sheet forms k) × (form_rest sheet question forms' k ≡ form_rest sheet question forms k)
  unfolding form_occurrence form_rest
  form-same = rw (same (4 * k) (omega arith), same (4 * k + 1) (omega arith), same (4 * k + 2) (omega arith), same (4 * k + 3) (omega arith)) (refl, refl)

  placed_same : Placed sheet question forms k → Placed sheet question forms' k
  placed_same p =
      record {
        word = rw (form-same.0, same (4 * k + 1) (omega arith)) p.word;
        from = rw (same (4 * k + 2) (omega arith), same (4 * k + 3) (omega arith)) p.from;
        to = rw (same (4 * k + 3) (omega arith)) p.to;
      }

module _ (sheet question words forms : List ℕ) where
  -- Frames are read from their words and from the forms that are open.
  frames-same : (words' forms' : List ℕ) (n k : ℕ) → length (open_forms (frames_in sheet question words forms n k)) ≡ k
      → ((i : ℕ) → i < n → get_or words' i 0 ≡ get_or words i 0) → ((i : ℕ) → i < 4 * k → get_or forms' i 0 ≡ get_or forms i 0)
      → frames_in sheet question words' forms' n k ≡ frames_in sheet question words forms n k
  unfolding frames_in open_forms
  frames-same words' forms' zero k counted same-words same-forms = refl
  frames-same words' forms' (suc n) k counted same-words same-forms =
      go (eqb (kind_of (get_or words n 0)) form_kind) refl (λ j c f. frames-same words' forms' n j c (λ i h. same-words i (omega arith)) f)
    where
      go : (b : Bool) → eqb (kind_of (get_or words n 0)) form_kind ≡ b
          → ((j : ℕ) → length (open_forms (frames_in sheet question words forms n j)) ≡ j → ((i : ℕ) → i < 4 * j → get_or forms' i 0 ≡ get_or forms i 0)
          → frames_in sheet question words' forms' n j ≡ frames_in sheet question words forms n j)
          → frames_in sheet question words' forms' (suc n) k ≡ frames_in sheet question words forms (suc n) k
      go true e below =
          let one_more = rw e at counted in
          let f = form-same sheet question forms forms' (k - 1) (λ i h. same-forms i (omega arith)) in
          rw (same-words n (omega arith), e, f.0, f.1, below (k - 1) (omega arith) (λ i h. same-forms i (omega arith)))
      go false e below = rw (same-words n (omega arith), e, below k (rw (e, plain-open) at counted) same-forms)

-- four words in a row
abbrev pub set_four : List ℕ → ℕ → ℕ → ℕ → ℕ → ℕ → List ℕ
set_four forms f a b c d = set (set (set (set forms f a) (f + 1) b) (f + 2) c) (f + 3) d

module _ (forms : List ℕ) (f a b c d : ℕ) (fits : f + 4 ≤ length forms) where
  abbrev four : List ℕ
  four = set_four forms f a b c d

  pub four-older : (i : ℕ) → i < f → get_or four i 0 ≡ get_or forms i 0
  four-older i h = grind (arith, common_steps)

  pub four-first : get_or four f 0 ≡ a
  four-first = grind (arith, common_steps)

  pub four-second : get_or four (f + 1) 0 ≡ b
  four-second = grind (arith, common_steps)

  pub four-third : get_or four (f + 2) 0 ≡ c
  four-third = grind (arith, common_steps)

  pub four-last : get_or four (f + 3) 0 ≡ d
  four-last = grind (arith, common_steps)

-- One more form, in the place of the innermost of n frames.
module _ (sheet question words forms : List ℕ) (n k node a w from to : ℕ) (small : a < 32) (fits : 4 * k + 4 ≤ length forms) where
  abbrev opened : List ℕ
  opened = set_four forms (4 * k) (node * 32 + a) w from to

  abbrev occurrence : Occurrence
  occurrence = record { node = node; attribute = a; parameter = of_word (base_of (get_or sheet (3 * a + 2) 0)) w }

  opened-occurrence : form_occurrence sheet opened k ≡ occurrence
  unfolding form_occurrence
  opened-occurrence =
      let of_node : (node * 32 + a) / 32 ≡ node = omega arith in
      let of-attribute : (node * 32 + a) % 32 ≡ a = omega arith in
      rw (four-first forms (4 * k) (node * 32 + a) w from to fits, four-second forms (4 * k) (node * 32 + a) w from to fits, of_node, of-attribute)

  opened-rest : form_rest sheet question opened k ≡ rest_of sheet question k from to
  unfolding form_rest
  opened-rest = rw (four-third forms (4 * k) (node * 32 + a) w from to fits, four-last forms (4 * k) (node * 32 + a) w from to fits)

  opened-frames : 0 < n → n ≤ length words → length (open_forms (frames_in sheet question words forms (n - 1) k)) ≡ k
      → frames_in sheet question (set words (n - 1) 6) opened n (k + 1)
      ≡ on_form occurrence (rest_of sheet question k from to) ∷ frames_in sheet question words forms (n - 1) k
  opened-frames framed inside counted =
      let below : k + 1 - 1 ≡ k = omega arith in
      top-form sheet question opened (set words (n - 1) 6) n (k + 1) framed (rw (get_or-set_same words (n - 1) 6 0 (omega arith)))
      ∙ rw (
        below,
        opened-occurrence,
        opened-rest,
        frames-same sheet question words forms (set words (n - 1) 6) opened (n - 1) k counted (λ i h. get_or-set_other words (n - 1) i 6 0 (omega arith))
            (four-older forms (4 * k) (node * 32 + a) w from to fits),
      )

  opened-placed : to_word occurrence.parameter ≡ w → from ≤ to → to ≤ length (piece_in sheet question k)
      → ((j : ℕ) → j < k → Placed sheet question forms j) → (j : ℕ) → j < k + 1 → Placed sheet question opened j
  opened-placed worded in_order inside older j h = go (eq-or-lt_of_le (omega arith))
    where
      go : (j ≡ k) ⊎ (j < k) → Placed sheet question opened j
      go (inl e) =
          rw e
          (record {
            word = rw (opened-occurrence, four-second forms (4 * k) (node * 32 + a) w from to fits) worded;
            from = rw (four-third forms (4 * k) (node * 32 + a) w from to fits, four-last forms (4 * k) (node * 32 + a) w from to fits) in_order;
            to = rw (four-last forms (4 * k) (node * 32 + a) w from to fits) inside;
          })
      go (inr lt) = placed_same sheet question forms opened j (λ i h. four-older forms (4 * k) (node * 32 + a) w from to fits i (omega arith)) (older j lt)

-- ---- Moves

same-machine : {M N : Machine} → M.mode ≡ N.mode → M.rest ≡ N.rest → M.frames ≡ N.frames → M.entries ≡ N.entries → M.steps ≡ N.steps → M ≡ N
same-machine a b c d e i = record { mode = a i; rest = b i; frames = c i; entries = d i; steps = e i }

move_gives : (s : Sheet) (capacity budget : ℕ) (M : Machine) (v : Value) (fs : List Frame) → M.mode ≡ returning v → M.frames ≡ fs
    → move s capacity budget M ≡ give s capacity budget M v fs
unfolding move move_of
move_gives s capacity budget M v fs e f = rw (e, f)

-- A value is given to the innermost frame.
module _ {sheet index question : List ℕ} {mem : Memory} {m : Registers} (r : Represents sheet index question mem m)
    (returns : m.returning ≡ true) (framed : 0 < m.frames)
    (by_key : (store : List ℕ) (k : ℕ) (entries : List Entry) → check_store (sheet_of sheet) store k ≡ accepted entries → ByKey (sheet_of sheet) store k entries) where
  abbrev s : Sheet
  s = sheet_of sheet

  abbrev M : Machine
  M = machine_in sheet question mem m

  abbrev entries : List Entry
  entries = r.holds.entries

  -- the innermost frame's word, and the frames below it, where so many forms are open
  abbrev word : ℕ
  word = get_or mem.words (m.frames - 1) 0

  abbrev below : ℕ → List Frame
  below k = frames_in sheet question mem.words mem.forms (m.frames - 1) k

  mode-is : M.mode ≡ returning m.value
  unfolding machine_of mode_of
  mode-is = rw returns

  entries-are : M.entries ≡ entries
  unfolding machine_of entries_of
  entries-are = rw r.holds.stored

  value-typed : (fs : List Frame) → M.frames ≡ fs → RunningIn (node_count s) s.attributes (plug s fs (val m.value) M.rest) (base r.type)
  unfolding state_of term_of
  value-typed fs e = rw (mode-is, e) at r.typed

  write-at : (o : Occurrence) (v : Value) → OccurrenceIn (node_count s) s.attributes o → IsA (node_count s) (attribute_at s.attributes o.attribute).result v
      → Written s mem.store (write (length mem.store / 12) entries record { occurrence = o; value = v }) (cache_write mem.store m.kept (fields_for (key_of o) v))
  write-at o v o-in v-in =
      cache-write s r.index_of.described.nodes_bound mem.store m.kept entries r.holds.stored (by_key _ _ _ r.holds.stored) o v o-in v-in

  -- CacheWrite
  module _ (is-form : kind_of word ≡ form_kind) where
    abbrev k : ℕ
    k = m.forms - 1

    abbrev o : Occurrence
    o = form_occurrence sheet mem.forms k

    form-frames : frames_in sheet question mem.words mem.forms m.frames m.forms ≡ on_form o (form_rest sheet question mem.forms k) ∷ below k
    form-frames = top-form sheet question mem.forms mem.words m.frames m.forms framed is-form

    pub form-counted : suc (length (open_forms (below k))) ≡ m.forms
    unfolding open_forms
    form-counted = rw form-frames at r.holds.counted

    form-typed : OccurrenceIn (node_count s) s.attributes o × IsA (node_count s) (attribute_at s.attributes o.attribute).result m.value
    unfolding machine_of plug
    form-typed =
        let t = (plug-in s (below k) _ _ (value-typed (on_form o (form_rest sheet question mem.forms k) ∷ below k) form-frames)).1 in
        ((form_in t).0, val-in (form_in t).1)

    -- the key that is read from the form's words
    form-key : key_of o ≡ record { node = get_or mem.forms (4 * k) 0 / 32; attribute = get_or mem.forms (4 * k) 0 % 32; word = get_or mem.forms (4 * k + 1) 0 }
    unfolding form_occurrence
    form-key i =
        record {
          node = get_or mem.forms (4 * k) 0 / 32;
          attribute = get_or mem.forms (4 * k) 0 % 32;
          word = (r.holds.placed k (omega (arith, form-counted))).word i;
        }

    -- The occurrence of a form that closes is not kept: the open forms are apart.
    pub form-not-kept : find_key mem.store m.kept (form_key mem.forms k) ≡ none
    unfolding open_forms machine_of form_key
    form-not-kept =
        let absent : kept entries o ≡ none = (rw (entries-are, form-frames) at r.apart).0 in
        go (find_key mem.store m.kept (key_of o)) refl absent
      where
        go : (f : Option ℕ) → find_key mem.store m.kept (key_of o) ≡ f → kept entries o ≡ none → find_key mem.store m.kept (form_key mem.forms k) ≡ none
        go none e absent = rw form-key at e
        go (some j) e absent =
            let found = (by_key _ _ _ r.holds.stored).found o j form-typed.0 e in
            absurd (none-some _ (sym absent ∙ found))

    -- with what CacheWrite leaves
    closes : (capacity budget limit : ℕ) → length mem.store / 12 ≡ capacity → (w : List ℕ × ℕ)
        → Written s mem.store (write (length mem.store / 12) entries record { occurrence = o; value = m.value }) w
        → Matches sheet question capacity budget limit m M
        (goes record {
          returning = true;
          at = get_or mem.forms (4 * k + 2) 0;
          end = get_or mem.forms (4 * k + 3) 0;
          frames = m.frames - 1;
          forms = k;
          kept = w.1;
          steps = m.steps;
          value = m.value;
        } record { store = w.0; words = mem.words; forms = mem.forms })
    unfolding machine_of mode_of entries_of form_rest give
    closes capacity budget limit room w written =
        let h = r.holds in
        let p = h.placed k (omega (arith, form-counted)) in (
          by_move
              (move_gives s capacity budget M m.value _ mode-is form-frames
              ∙ ap moves (same-machine refl refl refl (rw (entries-are, ← room, written.passes)) refl)),
          record {
            words_size = h.words_size;
            forms-size = h.forms-size;
            few = omega arith;
            counted = omega (arith, form-counted);
            from = p.from;
            to = p.to;
            placed = λ j lt. h.placed j (omega arith);
            entries = write (length mem.store / 12) entries record { occurrence = o; value = m.value };
            stored = written.passes;
          },
          rw written.same_length room,
        )

    pub close-matches : (capacity budget limit : ℕ) → length mem.store / 12 ≡ capacity → Matches sheet question capacity budget limit m M (close_form mem m)
    unfolding close_form
    close-matches capacity budget limit room =
        closes capacity budget limit room _ (rw form-key at (write-at o m.value form-typed.0 form-typed.1))

  -- AttrApp: the frame has the node and the attribute's number
  module _ (is-parameter : kind_of word ≡ parameter_kind) where
    abbrev held : Value
    held = value_in (held_node word)

    abbrev a : ℕ
    a = held_attribute word

    abbrev due : Occurrence
    due = record { node = node_of held; attribute = a; parameter = m.value }

    abbrev under : List Frame
    under = below m.forms

    parameter-frames : frames_in sheet question mem.words mem.forms m.frames m.forms ≡ on_parameter held a ∷ under
    parameter-frames = top_frame sheet question mem.forms mem.words m.frames m.forms framed (parameter-kind word is-parameter)

    under-counted : length (open_forms under) ≡ m.forms
    unfolding open_forms
    under-counted = rw parameter-frames at r.holds.counted

    pub parameter-typed : (a < attribute_count s) × IsA (node_count s) node_t held × IsA (node_count s) (attribute_at s.attributes a).parameter-type m.value
    unfolding machine_of plug
    parameter-typed =
        let t = attr-in (plug-in s under _ _ (value-typed (on_parameter held a ∷ under) parameter-frames)).1 in
        (t.0, val-in t.1, val-in t.2)

    pub attribute-is : attribute_at s.attributes a ≡ attribute_in sheet a
    attribute-is = attribute-by-index sheet s index r.index_of.described a parameter-typed.0

    -- The occurrence due is of the sheet, and so is its definition.
    module _ (no_null : eqb (node_of held) null ≡ false) where
      pub due_in : OccurrenceIn (node_count s) s.attributes due
      due_in = record { node_declared = declared parameter-typed.1 no_null; attribute_declared = parameter-typed.0; parameter-in = parameter-typed.2 }

      pub pair-indexed : IndexedPair sheet index (node_of held) a
      pair-indexed = record { sheet = s; known = r.index_of; node = due_in.node_declared; attribute = due_in.attribute_declared }

      pub some-piece : get_or index (figure_place (node_of held) a) 0 ≡ 0 → rule_number sheet index (node_of held) a ≡ 0 → forward_number sheet index (node_of held) ≡ 0 → ⊥
      unfolding pair-indexed
      some-piece = piece-there sheet index _ a pair-indexed r.accepts

      pub definition-at : definition s (node_of held) a
          ≡ figured (indexed (get_or index (figure_place (node_of held) a) 0) (figure_at sheet a))
          (ruled (indexed (rule_number sheet index (node_of held) a) (piece_at sheet)) (forwarded (indexed (forward_number sheet index (node_of held)) (piece_at sheet))))
      definition-at = rw (← r.index_of.attributes-in) at (definition-by-index sheet s index r.index_of.described (node_of held) a due_in.node_declared due_in.attribute_declared)

      parameter-is : of_word (base_of (get_or sheet (3 * a + 2) 0)) (to_word m.value) ≡ m.value
      parameter-is = rw attribute-is at parameter-typed.2.round_trip

      figure-in : (at : ℕ) → get_or index (figure_place (node_of held) a) 0 ≡ suc at
          → IsA (node_count s) (attribute_at s.attributes a).result (figure_at sheet a at)
      unfolding figure_at
      figure-in at e =
          rw attribute-is (word_in _ _ _ (r.index_of.described.figure_fits (node_of held) a at due_in.node_declared due_in.attribute_declared e).1)

      -- whether a form of the occurrence is open
      open-test : is_open (open_forms under) due ≡ key_open mem.forms m.forms (key_of due)
      unfolding machine_of plug
      open-test =
          open-by-key due due_in sheet mem.forms question mem.words (m.frames - 1) m.forms under-counted
          (forms-in s under (attr (val held) a (val m.value)) M.rest (value-typed (on_parameter held a ∷ under) parameter-frames))
          (λ j h. (r.holds.placed j h).word)

      -- a figure's form is not
      pub figure-not-open : (at : ℕ) → get_or index (figure_place (node_of held) a) 0 ≡ suc at → key_open mem.forms m.forms (key_of due) ≡ false
      unfolding indexed figured machine_of open_forms
      figure-not-open at e =
          let apart = rw parameter-frames at r.apart in
          sym (open-test) ∙ figure_closed s M.entries (open_forms under) due (figure_at sheet a at) (definition-at ∙ rw e) apart

    module _ (capacity budget limit : ℕ) (room : length mem.store / 12 ≡ capacity) where
      abbrev P : Stepped → Type 0
      P = Matches sheet question capacity budget limit m M

      at-frame : move s capacity budget M ≡ Machine.attribute_due s capacity budget M due under
      unfolding machine_of give
      at-frame = move_gives s capacity budget M m.value _ mode-is parameter-frames

      -- what stops AttrApp that is not on null
      module _ (no_null : eqb (node_of held) null ≡ false) where
        in_circle : kept entries due ≡ none → key_open mem.forms m.forms (key_of due) ≡ true → P (Stepped.stops 20)
        unfolding machine_of Machine.attribute_due reason_number
        in_circle absent among =
            let around = circular-open entries (open_forms under) due absent (open-test no_null ∙ among) in
            (circle, at-frame ∙ rw (no_null, ap (λ es. circular es (open_forms under) due) entries-are ∙ around), refl)

        no-budget : circular entries (open_forms under) due ≡ false → budget ≤ m.steps → P (Stepped.stops 15)
        unfolding machine_of Machine.attribute_due reason_number
        no-budget no-circle used =
            (spent, at-frame ∙ rw (no_null, ap (λ es. circular es (open_forms under) due) entries-are ∙ no-circle, le-ltb m.steps budget used), refl)

      module _ (no_null : eqb (node_of held) null ≡ false) (no-circle : circular entries (open_forms under) due ≡ false) (left : m.steps < budget) where
        -- AttrApp with nothing against it
        module _ (shallow : too_deep entries (open_forms under) due ≡ false) where
          takes-it : move s capacity budget M ≡ takes (AttrApp a) (applied s capacity budget M due under (kept entries due))
          unfolding machine_of Machine.attribute_due
          takes-it =
              at-frame
              ∙ rw (
                no_null,
                ap (λ es. circular es (open_forms under) due) entries-are ∙ no-circle,
                lt-ltb m.steps budget left,
                ap (λ es. too_deep es (open_forms under) due) entries-are ∙ shallow,
              )
              (ap (takes (AttrApp a)) (ap (λ es. applied s capacity budget M due under (kept es due)) entries-are))

          takes-next : {next : Machine} → applied s capacity budget M due under (kept entries due) ≡ next → Next s capacity budget M next
          takes-next e = by_step (AttrApp a) (takes-it ∙ ap (takes (AttrApp a)) e)

          -- the value is there at once
          answers : (v : Value) (after : List Entry) (w : List ℕ × ℕ) → Written s mem.store after w
              → applied s capacity budget M due under (kept entries due) ≡ counted s capacity budget M (returning v) M.rest under after
              → P (goes (answered m w.1 v) record { store = w.0; words = mem.words; forms = mem.forms })
          unfolding machine_of mode_of entries_of
          answers v after w written e =
              let h = r.holds in (
                takes-next (e ∙ same-machine refl refl refl (rw written.passes) (sym (add-one m.steps))),
                record {
                  words_size = h.words_size;
                  forms-size = h.forms-size;
                  few = h.few;
                  counted = under-counted;
                  from = h.from;
                  to = h.to;
                  placed = h.placed;
                  entries = after;
                  stored = written.passes;
                },
                rw written.same_length room,
              )

        -- by the definition of what is not kept, inside fewer than 64 forms
        module _ (absent : kept entries due ≡ none) (few : m.forms < 64) where
          shallow : too_deep entries (open_forms under) due ≡ false
          shallow = not-deep-few entries (open_forms under) due (omega (arith, under-counted))

          by-definition : (d : Definition) → definition s (node_of held) a ≡ d
              → applied s capacity budget M due under (kept entries due) ≡ defined s capacity budget M due under d
          unfolding applied
          by-definition d e = rw (absent, e)

          form-fits : 4 * m.forms + 4 ≤ length mem.forms
          form-fits = omega arith

          words-fit : m.frames < length mem.words
          unfolding machine_of
          words-fit = omega (arith, frames-fit (represents-sized r), frames-count sheet question mem.forms mem.words m.frames m.forms)

          abbrev forms' : List ℕ
          forms' = set_four mem.forms (4 * m.forms) (node_of held * 32 + a) (to_word m.value) m.at m.end

          due-frames : frames_in sheet question (set mem.words (m.frames - 1) form_kind) forms' m.frames (m.forms + 1)
              ≡ on_form due (rest_of sheet question m.forms m.at m.end) ∷ under
          due-frames =
              rw (parameter-is no_null) at
              (opened-frames sheet question mem.words mem.forms m.frames m.forms (node_of held) a (to_word m.value) m.at m.end (omega arith) form-fits
              framed (omega (arith, words-fit)) under-counted)

          abbrev formed : List ℕ
          formed = set mem.words (m.frames - 1) form_kind

          -- A piece of the sheet runs inside a form. So many frames are then around it.
          runs : (n : ℕ) (words : List ℕ) (fs : List Frame) (start end : ℕ) (d : Definition) → definition s (node_of held) a ≡ d
              → defined s capacity budget M due under d ≡ counted s capacity budget M evaluating (rest_of sheet question (m.forms + 1) start end) fs M.entries
              → frames_in sheet question words forms' n (m.forms + 1) ≡ fs → open_forms fs ≡ due ∷ open_forms under → length words ≡ length mem.words
              → start ≤ end → end ≤ length sheet
              → P (goes record {
                returning = false;
                at = start;
                end = end;
                frames = n;
                forms = m.forms + 1;
                kept = m.kept;
                steps = m.steps + 1;
                value = m.value;
              } record { store = mem.store; words = words; forms = forms' })
          unfolding machine_of mode_of piece_in
          runs n words fs start end d is opens are open-forms size in_order inside =
              let h = r.holds in (
                takes-next shallow (by-definition d is ∙ opens ∙ same-machine refl refl (sym are) refl (sym (add-one m.steps))),
                record {
                  words_size = size ∙ h.words_size;
                  forms-size = simp length-set h.forms-size;
                  few = omega arith;
                  counted = rw (are, open-forms) (omega (arith, under-counted));
                  from = in_order;
                  to = rw add-one inside;
                  placed = opened-placed sheet question mem.words mem.forms m.frames m.forms (node_of held) a (to_word m.value) m.at m.end (omega arith) form-fits
                      (ap to_word (parameter-is no_null)) h.from h.to h.placed;
                  entries = entries;
                  stored = h.stored;
                },
                room,
              )

          -- the piece whose length stands at a number
          abbrev size : ℕ → ℕ
          size number = of_bytes (take 2 (drop number sheet))

          piece-rest : (at : ℕ) → piece_at sheet at ≡ rest_of sheet question (m.forms + 1) (suc at + 2) (suc at + 2 + size (suc at))
          unfolding piece_at rest_of piece_in
          piece-rest at =
              let length_at : at + 1 ≡ suc at = omega arith in
              let piece-at : at + 3 ≡ suc at + 2 = omega arith in
              let width : suc at + 2 + size (suc at) - (suc at + 2) ≡ size (suc at) = omega arith in
              rw (length_at, piece-at, width, add-one)

          rule-opens : get_or index (figure_place (node_of held) a) 0 ≡ 0 → (at : ℕ) → rule_number sheet index (node_of held) a ≡ suc at
              → P (open_piece sheet mem m (node_of held) a (to_word m.value) (suc at))
          unfolding open_piece indexed figured ruled defined open_forms machine_of
          rule-opens no-figure at e =
              let here : PieceHere sheet (suc at) = rw e at (rule-here sheet index _ a (pair-indexed no_null) (λ z. omega arith)) in
              runs m.frames formed (on_form due M.rest ∷ under) _ _ (piece_of (piece_at sheet at)) (definition-at no_null ∙ rw (no-figure, e))
              (rw (piece-rest at)) due-frames refl (length-set mem.words (m.frames - 1) form_kind) (omega arith) here.room

          forward-opens : get_or index (figure_place (node_of held) a) 0 ≡ 0 → rule_number sheet index (node_of held) a ≡ 0 → (at : ℕ)
              → forward_number sheet index (node_of held) ≡ suc at
              → P (forwarding a (open_piece sheet mem m (node_of held) a (to_word m.value) (suc at)))
          unfolding open_piece indexed figured ruled forwarded defined open_forms machine_of
          forward-opens no-figure no-rule at e =
              let here : PieceHere sheet (suc at) = rw e at (forward-here sheet index _ a (pair-indexed no_null) (λ z. omega arith)) in
              let room : m.frames < length formed = omega (arith, words-fit, length-set mem.words (m.frames - 1) form_kind) in
              rw (add-zero (suc at + 2))
              (runs (m.frames + 1) (set formed m.frames (forward_word a)) (on_forward a ∷ on_form due M.rest ∷ under) _ _ (forward_of (piece_at sheet at))
              (definition-at no_null ∙ rw (no-figure, no-rule, e)) (rw (piece-rest at))
              (pushed-frame sheet question forms' formed m.frames (m.forms + 1) room (forward-word (mod-lt _ (lit< tt))) ∙ ap (λ fs. on_forward a ∷ fs) due-frames)
              refl (simp length-set) (omega arith) here.room)

          -- a rule, or else a forward, of which an accepted sheet has one where it has no figure
          opens : get_or index (figure_place (node_of held) a) 0 ≡ 0 → (i j : ℕ) → rule_number sheet index (node_of held) a ≡ i → forward_number sheet index (node_of held) ≡ j
              → P (open_rule sheet index mem m (node_of held) a (to_word m.value))
          unfolding open_rule
          opens no-figure zero zero e f = absurd (some-piece no_null no-figure e f)
          opens no-figure zero (suc at) e f = rw (e, f) (forward-opens no-figure e at f)
          opens no-figure (suc at) j e f = rw (e, eqb-suc-zero) (rule-opens no-figure at e)

          figures : (i : ℕ) → get_or index (figure_place (node_of held) a) 0 ≡ i
              → P (open_figure sheet index mem m (node_of held) a (to_word m.value) (indexed i (figure_at sheet a)))
          unfolding open_figure indexed figured defined
          figures zero e = opens e _ _ refl refl
          figures (suc at) e =
              answers shallow _ _ _ (write-at due (figure_at sheet a at) (due_in no_null) (figure-in no_null at e))
              (by-definition (figure (figure_at sheet a at)) (definition-at no_null ∙ rw e) ∙ same-machine refl refl refl (rw (entries-are, ← room)) refl)

        too-deep : kept entries due ≡ none → 64 ≤ m.forms → P (Stepped.stops 16)
        unfolding machine_of Machine.attribute_due reason_number
        too-deep absent many =
            let deep = deep-missing entries (open_forms under) due absent (omega (arith, under-counted)) in (
              depth,
              at-frame
                  ∙ rw (
                    no_null,
                    ap (λ es. circular es (open_forms under) due) entries-are ∙ no-circle,
                    lt-ltb m.steps budget left,
                    ap (λ es. too_deep es (open_forms under) due) entries-are ∙ deep,
                  ),
              refl,
            )

      takes-kept : eqb (node_of held) null ≡ false → (f : Option ℕ) → find_key mem.store m.kept (key_of due) ≡ f
          → P (take_kept sheet index budget limit mem m (node_of held) a f)
      unfolding take_kept applied
      takes-kept no_null none e =
          let absent = (by_key _ _ _ r.holds.stored).missing due (due_in no_null) e in
          let no-circle : key_open mem.forms m.forms (key_of due) ≡ false → circular entries (open_forms under) due ≡ false =
          λ closed. not-circular-closed entries (open_forms under) due (open-test no_null ∙ closed) in
          missing-holds P sheet index budget limit mem m (node_of held) a
          (in_circle no_null absent)
          (λ closed used. no-budget no_null (no-circle closed) used)
          (λ closed left many. too-deep no_null (no-circle closed) left absent many)
          (λ closed left few reached.
          (AttrApp a, _, takes-it no_null (no-circle closed) left (shallow no_null (no-circle closed) left absent few), reached, left))
          (λ closed left few before. figures no_null (no-circle closed) left absent few _ refl)
      takes-kept no_null (some j) e =
          let found = rw attribute-is at ((by_key _ _ _ r.holds.stored).found due j (due_in no_null) e) in
          let no-circle = not-circular-kept entries (open_forms under) due found in
          let shallow = not-deep-kept entries (open_forms under) due found in
          within-holds P limit m _ budget (no-budget no_null no-circle)
          (λ left reached. (AttrApp a, _, takes-it no_null no-circle left shallow, reached, left))
          (λ left before.
          answers no_null no-circle left shallow _ entries (mem.store, m.kept) (record { passes = r.holds.stored; same_length = refl })
          (ap (applied s capacity budget M due under) found ∙ same-machine refl refl refl entries-are refl))

      pub attribute-matches : P (attribute_due sheet index budget limit mem m (node_of held) a)
      unfolding attribute_due machine_of Machine.attribute_due reason_number
      attribute-matches =
          either P (eqb (node_of held) null) (λ null. (as_plain on_null, at-frame ∙ rw null, refl)) (λ no_null. takes-kept no_null _ refl)
