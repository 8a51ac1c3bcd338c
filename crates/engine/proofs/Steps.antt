-- One move on registers and memory, as the code makes it, is a move of the machine that they hold.
use mathlib.Core.Bool.{Bool, true, false, false≢true}
use mathlib.Core.List.{List, [], ◌∷◌}
use Rattle.std.specs.Prelude.{Option, None, Some}
use mathlib.Core.Path.{◌≡◌, refl, sym, ap, ◌∙◌}
use Prim.Native.Nat.{ℕ, ◌+◌, ◌*◌, ◌-◌, ◌/◌, ◌≤◌, ◌<◌}
use native.Mathlib.Nat.{mod-lt, add-zero}
use native.Mathlib.Numerals.{add-one}
use native.Mathlib.Omega.{arith}
use lib.Dec.{eqb, lit<}
use lib.ListN.{length, drop, get_or, set, length-set}
use borrow.Author.Tests.{leb-true, ltb-true, eqb-true, eqb-false, lt-ltb, le-ltb}
use Rattle.saiga.specs.Values.{truth, node_of, apply}
use Rattle.saiga.specs.declared.Value.{Value}
use Rattle.saiga.specs.declared.Value.TheVariants.{Node as node}
use Rattle.saiga.specs.Expressions.{Expr, Scope, Head, base_literal, function_literal, if_head, application_head, attribute_head, this_head, parameter_head, no_head, head_of, operand_width, Reading, reads, read_operand, read_after, read_expr}
use Rattle.saiga.specs.Sheet.{Sheet, rule_scope, question_scope, attribute_count}
use Rattle.saiga.specs.Terms.{Occurrence}
use Rattle.saiga.specs.Plain.{by_overflow}
use Rattle.saiga.specs.Caching.{Counted, CondTrue, CondFalse, AppApp, as_plain, spent}
use Rattle.saiga.specs.Store.{check_store}
use Rattle.saiga.specs.Ask.{reason_number}
use Rattle.saiga.proofs.Preservation.{either}
use Rattle.saiga.proofs.Reading.{read-width}
use Rattle.expressions.specs.Noted.{WidthOf}
use Rattle.engine.specs.RunningPiece.{rest_of}
use Rattle.values.specs.Packed.{value_in}
use Rattle.engine.specs.Machine.{Frame, on_if, on_left, on_skip, on_right, on_node, on_forward, Mode, evaluating, returning, Machine, open_forms, innermost, scope_in, width_of, pass_over, Move, moves, takes, read_head, within, branch, application_due, give, read_next, move_of, move}
use Rattle.engine.specs.FrameWords.{kind_of, if_kind, left_kind, skip_kind, right_kind, node_kind, parameter_kind, form_kind, forward_kind, held_attribute, held_node}
use Rattle.engine.specs.Decode.{sheet_of, entries_of, form_occurrence, frames_in, mode_of, machine_of}
use Rattle.engine.specs.Steps.{Memory, Stepped, goes, returned, pushed, write_word, turned, take_if, take_right, close_form, attribute_due, step_of}
use Rattle.engine.specs.Steps as Steps
use Rattle.engine.specs.declared.Registers.{Registers}
use Rattle.engine.specs.Good.{Parses, Ready, GoodAt}
use Rattle.engine.proofs.Bounds.{represents-sized, frames-fit}
use Rattle.engine.specs.Machine.{Next, by_move, by_step}
use Rattle.engine.proofs.Heads.{tested, none_inside}
use Rattle.engine.specs.Represents.{machine_in, HoldsIn, Represents, Matches, Packs, PacksIn}
use Rattle.engine.proofs.Decoding.{WordOf, if-kind, left-kind, skip-kind, right-kind, node-kind, forward-kind, right-word, node-word, parameter-word, pushed-frame, top_frame, turned-frame, frames-count, innermost-form, rest-on, rest-length, rest-inside, rest-behind}
use Rattle.engine.proofs.Limited.{within-holds}

-- A kind is below 8, so the last is what none of the others is.
pub late-kind : (w : ℕ) → (kind_of w ≡ if_kind → ⊥) → (kind_of w ≡ left_kind → ⊥) → (kind_of w ≡ skip_kind → ⊥) → (kind_of w ≡ right_kind → ⊥) → (kind_of w ≡ node_kind → ⊥)
    → parameter_kind ≤ kind_of w
late-kind w no-if no-left no-skip no-right no_Node = omega arith

pub last-kind : (w : ℕ) → parameter_kind ≤ kind_of w → (kind_of w ≡ form_kind → ⊥) → (kind_of w ≡ parameter_kind → ⊥) → kind_of w ≡ forward_kind
last-kind w late no-form no-parameter = omega arith

-- ---- What reading has tested behind a head

abbrev pub Fits : Scope → Head → List ℕ → Type 0
Fits sc (base_literal t) l = operand_width t ≤ length l
Fits sc function_literal l = 1 ≤ length l
Fits sc if_head l = Unit {0}
Fits sc application_head l = Unit {0}
Fits sc attribute_head l = (1 ≤ length l) × (get_or l 0 0 < sc.attributes)
Fits sc this_head l = sc.has-this ≡ true
Fits sc parameter_head l = sc.has-parameter ≡ true
Fits sc no_head l = ⊥

after-fits : (sc : Scope) (sub : List ℕ → Reading) (h : Head) (l : List ℕ) {e : Expr} {w : ℕ} → read_after sc sub h l ≡ reads e w → Fits sc h l
unfolding read_after read_operand
after-fits sc sub (base_literal t) l r = leb-true _ _ (tested _ r).0
after-fits sc sub function_literal l r = leb-true _ _ (tested _ r).0
after-fits sc sub if_head l r = tt
after-fits sc sub application_head l r = tt
after-fits sc sub attribute_head l r = let (some, more) = tested _ r in (leb-true _ _ some, ltb-true _ _ (tested _ more).0)
after-fits sc sub this_head l r = (tested _ r).0
after-fits sc sub parameter_head l r = (tested _ r).0
after-fits sc sub no_head l r = cc

pub head-fits : {sc : Scope} {c : ℕ} {l : List ℕ} → Parses sc (c ∷ l) → Fits sc (head_of c) l
unfolding read_expr
head-fits {sc} {c} {l} p = after-fits sc _ (head_of c) l p.read

-- what the question's scope lacks is used inside a form alone
pub inside-form : (s : Sheet) (os : List Occurrence) (has : Scope → Bool) → has (question_scope s) ≡ false → has (scope_in s os) ≡ true → 0 < length os
unfolding scope_in
inside-form s [] has lacks e = absurd (false≢true (sym lacks ∙ e))
inside-form s (o ∷ os) has lacks e = omega arith

scope-attributes : (s : Sheet) (os : List Occurrence) → (scope_in s os).attributes ≡ attribute_count s
unfolding scope_in question_scope rule_scope
scope-attributes s [] = refl
scope-attributes s (o ∷ os) = refl

-- ---- Moves within a piece

module _ (sheet question : List ℕ) (budget limit : ℕ) (mem : Memory) (m : Registers) where
  abbrev s : Sheet
  s = sheet_of sheet

  abbrev capacity : ℕ
  capacity = length mem.store / 12

  abbrev M : Machine
  M = machine_in sheet question mem m

  abbrev next : Move
  next = move s capacity budget M

  abbrev Matched : Stepped → Type 0
  Matched = Matches sheet question capacity budget limit m M

  abbrev bytes : List ℕ
  bytes = rest_of sheet question m.forms m.at m.end

  -- the frames, the word of the innermost, and those below it
  abbrev frames : List Frame
  frames = frames_in sheet question mem.words mem.forms m.frames m.forms

  abbrev word : ℕ
  word = get_or mem.words (m.frames - 1) 0

  abbrev below : List Frame
  below = frames_in sheet question mem.words mem.forms (m.frames - 1) m.forms

  -- What is proved apart: a value is given to an attribute's frame, and to a form's.
  abbrev pub AttributeMatches : List ℕ → Type 0
  AttributeMatches index =
      m.returning ≡ true → 0 < m.frames → kind_of word ≡ parameter_kind
      → Matched (attribute_due sheet index budget limit mem m (node_of (value_in (held_node word))) (held_attribute word))

  abbrev pub CloseMatches : Type 0
  CloseMatches = m.returning ≡ true → 0 < m.frames → kind_of word ≡ form_kind → Matched (close_form mem m)

  -- A move that opens and closes no form and writes no entry: the machine after it, and the registers.
  abbrev machine_after : Mode → List ℕ → List Frame → ℕ → Machine
  machine_after mode rest frames steps =
      record { mode = mode; rest = rest; frames = frames; entries = entries_of (check_store s mem.store m.kept); steps = steps }

  abbrev registers_after : Bool → ℕ → ℕ → ℕ → Value → Registers
  registers_after b at n steps v =
      record { returning = b; at = at; end = m.end; frames = n; forms = m.forms; kept = m.kept; steps = steps; value = v }

  module _ (holds : HoldsIn sheet question mem m) where
    stays : (b : Bool) (at n steps : ℕ) (v : Value) (words : List ℕ) {l : List ℕ} {fs : List Frame} → length words ≡ length mem.words
        → at ≤ m.end → rest_of sheet question m.forms at m.end ≡ l
        → frames_in sheet question words mem.forms n m.forms ≡ fs → open_forms fs ≡ open_forms frames
        → Next s capacity budget M (machine_after (mode_of b v) l fs steps)
        → Matched (goes (registers_after b at n steps v) record { store = mem.store; words = words; forms = mem.forms })
    unfolding machine_of
    stays b at n steps v words size inside rest is open-forms on = (
      rw (rest, is) on,
      record {
        words_size = size ∙ holds.words_size;
        forms-size = holds.forms-size;
        few = holds.few;
        counted = rw (is, open-forms) holds.counted;
        from = inside;
        to = holds.to;
        placed = holds.placed;
        entries = holds.entries;
        stored = holds.stored;
      },
      refl,
    )

    -- ---- Reading a head

    module _ (evaluates : m.returning ≡ false) (room : m.frames < length mem.words) (c : ℕ) (l : List ℕ) (is : bytes ≡ c ∷ l) where
      is_read : (h : Head) → head_of c ≡ h → next ≡ moves (read_head s capacity budget M h l)
      unfolding move move_of read_next machine_of mode_of
      is_read h e =
          ap (λ b. move_of s capacity budget M (mode_of b m.value)) evaluates
          ∙ ap (λ l. moves (read_next s capacity budget M l)) is
          ∙ ap (λ h. moves (read_head s capacity budget M h l)) e

      inside : (w : ℕ) → w ≤ length l → m.at + (1 + w) ≤ m.end
      inside w fits = omega (arith, rest-inside sheet question m.forms m.at m.end is holds.to)

      behind : (w : ℕ) → rest_of sheet question m.forms (m.at + (1 + w)) m.end ≡ drop w l
      behind = rest-behind sheet question m.forms m.at m.end is

      -- a value is read, or a frame is pushed
      value_read : (w : ℕ) (v : Value) → w ≤ length l → next ≡ moves (machine_after (returning v) (drop w l) frames m.steps)
          → Matched (goes (returned m (1 + w) v) mem)
      unfolding mode_of
      value_read w v fits e = stays true (m.at + (1 + w)) m.frames m.steps v mem.words refl (inside w fits) (behind w) refl refl (by_move e)

      frame-read : (w : ℕ) {word : ℕ} {f : Frame} → w ≤ length l → WordOf word f → open_forms (f ∷ frames) ≡ open_forms frames
          → next ≡ moves (machine_after evaluating (drop w l) (f ∷ frames) m.steps) → Matched (goes (pushed m (1 + w)) (write_word mem m.frames word))
      unfolding mode_of
      frame-read w {word} fits f open-forms e =
          stays false (m.at + (1 + w)) (m.frames + 1) m.steps m.value (set mem.words m.frames word) (simp length-set) (inside w fits) (behind w)
          (pushed-frame sheet question mem.forms mem.words m.frames m.forms room f) open-forms (by_move e)

      -- 0x30 and 0x31 are of the innermost form
      form-read : (f : Occurrence → Value) → 0 < length (open_forms frames) → next ≡ moves (machine_after (returning (f (innermost (open_forms frames)))) l frames m.steps)
          → Matched (goes (returned m 1 (f (form_occurrence sheet mem.forms (m.forms - 1)))) mem)
      form-read f some e =
          value_read 0 _ (omega arith) (e ∙ ap (λ o. moves (machine_after (returning (f o)) l frames m.steps))
          (innermost-form sheet question mem.forms mem.words m.frames m.forms some))

      head-matches : attribute_count s ≤ 32 → (h : Head) → head_of c ≡ h → Fits (scope_in s (open_forms frames)) h l
          → Matched (Steps.read_head sheet mem m h l)
      unfolding Steps.read_head read_head machine_of open_forms form_occurrence question_scope
      head-matches few (base_literal t) e fits = value_read (operand_width t) _ fits (is_read _ e)
      head-matches few function_literal e fits = value_read 1 _ fits (is_read _ e)
      head-matches few if_head e fits = frame-read 0 (omega arith) (if-kind 0 refl) refl (is_read _ e)
      head-matches few application_head e fits = frame-read 0 (omega arith) (left-kind 1 refl) refl (is_read _ e)
      head-matches few attribute_head e fits =
          frame-read 1 fits.0 (node-word (omega (arith, scope-attributes s (open_forms frames)))) refl (is_read _ e)
      head-matches few this_head e fits = form-read (λ o. node o.node) (inside-form s _ (λ sc. sc.has-this) refl fits) (is_read _ e)
      head-matches few parameter_head e fits = form-read (λ o. o.parameter) (inside-form s _ (λ sc. sc.has-parameter) refl fits) (is_read _ e)
      head-matches few no_head e fits = absurd fits

  module _ (index : List ℕ) (r : Represents sheet index question mem m) where
    counted : length frames ≡ m.frames
    counted = frames-count sheet question mem.forms mem.words m.frames m.forms

    -- an evaluating machine stands before an expression, and has room for a frame
    pub read-matches : m.returning ≡ false → Matched (Steps.read_next sheet index mem m bytes)
    unfolding Steps.read_next machine_of mode_of
    read-matches evaluates = go bytes refl
      where
        good : GoodAt s evaluating bytes frames
        good = rw evaluates at r.good

        room : m.frames < length mem.words
        room = omega (arith, counted, r.holds.words_size, frames-fit (represents-sized r))

        go : (l : List ℕ) → bytes ≡ l → Matched (Steps.read_next sheet index mem m l)
        go [] is = none_inside (rw is at good.0)
        go (c ∷ l) is =
            head-matches r.holds evaluates room c l is r.index_of.described.attributes_bound (head_of c) refl (head-fits (rw is at good.0))

    -- ---- Giving a value

    module _ (gives : m.returning ≡ true) where
      is-given : {fs : List Frame} → frames ≡ fs → next ≡ give s capacity budget M m.value fs
      unfolding move move_of machine_of mode_of
      is-given e = ap (λ b. move_of s capacity budget M (mode_of b m.value)) gives ∙ ap (give s capacity budget M m.value) e

      ready : {fs : List Frame} → frames ≡ fs → Ready s fs bytes
      unfolding machine_of mode_of
      ready e =
          let good : GoodAt s (returning m.value) bytes frames = rw gives at r.good in
          rw e at good

      fit : m.frames ≤ length mem.words
      unfolding machine_of
      fit = omega (arith, counted, r.holds.words_size, frames-fit (represents-sized r))

      -- a counted step, within the limits
      counts : (n : Counted) {after : Machine} (k : Stepped) → next ≡ within s capacity budget M n after → (next ≡ takes n after → Matched k)
          → Matched (Steps.within budget limit m k)
      unfolding within machine_of reason_number
      counts n {after} k e go =
          let taken : m.steps < budget → next ≡ takes n after = λ left. e ∙ rw (lt-ltb _ _ left) in
          within-holds Matched limit m k budget (λ used. (spent, e ∙ rw (le-ltb _ _ used), refl))
          (λ left reached. (n, _, taken left, reached, left)) (λ left before. go (taken left))

      module _ (some : 0 < m.frames) where
        top : {f : Frame} → WordOf word f → frames ≡ f ∷ below
        top = top_frame sheet question mem.forms mem.words m.frames m.forms some

        -- the innermost frame is made another, or is gone
        turns : (steps : ℕ) {w : ℕ} {f : Frame} → WordOf w f → open_forms (f ∷ below) ≡ open_forms frames
            → Next s capacity budget M (machine_after evaluating bytes (f ∷ below) steps)
            → Matched (goes (registers_after false m.at m.frames steps m.value) (write_word mem (m.frames - 1) w))
        unfolding mode_of
        turns steps {w} f open-forms on =
            stays r.holds false m.at m.frames steps m.value (set mem.words (m.frames - 1) w) (simp length-set) r.holds.from refl
            (turned-frame sheet question mem.forms mem.words m.frames m.forms some fit f) open-forms on

        pops : (b : Bool) (at steps : ℕ) (v : Value) {l : List ℕ} → at ≤ m.end → rest_of sheet question m.forms at m.end ≡ l
            → open_forms below ≡ open_forms frames → Next s capacity budget M (machine_after (mode_of b v) l below steps)
            → Matched (goes (registers_after b at (m.frames - 1) steps v) mem)
        pops b at steps v inside rest open-forms on = stays r.holds b at (m.frames - 1) steps v mem.words refl inside rest refl open-forms on

        module _ (skip : ℕ) (width : WidthOf bytes skip) where
          -- the expression at the front of the rest is passed over
          passed : {sc : Scope} → Parses sc bytes → (m.at + skip ≤ m.end) × (rest_of sheet question m.forms (m.at + skip) m.end ≡ pass_over sc bytes)
          unfolding pass_over width_of
          passed {sc} p =
              let e = width sc p.expr p.width p.read in (
                omega (arith, read-width sc _ bytes _ _ p.read, rest-length sheet question m.forms m.at m.end r.holds.to, r.holds.from),
                rest-on sheet question m.forms m.at m.end skip ∙ rw (p.read, e),
              )

          if-matches : frames ≡ on_if ∷ below → (b : Bool) → truth m.value ≡ b → Matched (Steps.within budget limit m (take_if skip mem m b))
          unfolding take_if give branch mode_of open_forms machine_of
          if-matches e true t = counts CondTrue _ (is-given e ∙ rw t) λ on. turns (m.steps + 1) (skip-kind 2 refl) (rw e) (rw add-one (by_step CondTrue on))
          if-matches e false t =
              let (inside, rest) = passed (ready e).0 in
              counts CondFalse _ (is-given e ∙ rw t) λ on. pops false (m.at + skip) (m.steps + 1) m.value inside rest (rw e) (rw add-one (by_step CondFalse on))

          give_matches : (packed : ℕ) → PacksIn mem m packed → AttributeMatches index → CloseMatches
              → Matched (Steps.give sheet index budget limit skip packed mem m word)
          unfolding Steps.give give mode_of open_forms machine_of application_due take_right reason_number
          give_matches packed packs attribute close =
              either Matched (eqb (kind_of word) if_kind) (λ t. if-matches (top (if-kind word (eqb-true _ _ t))) (truth m.value) refl) λ no-if.
              either Matched (eqb (kind_of word) left_kind) (λ t. left ((packs gives some).0 (eqb-true _ _ t)) (top (left-kind word (eqb-true _ _ t)))) λ no-left.
              either Matched (eqb (kind_of word) skip_kind) (λ t. skips (top (skip-kind word (eqb-true _ _ t)))) λ no-skip.
              either Matched (eqb (kind_of word) right_kind) (λ t. right (top (right-kind word (eqb-true _ _ t)))) λ no-right.
              either Matched (eqb (kind_of word) node_kind) (λ t. node-given ((packs gives some).1 (eqb-true _ _ t)) (top (node-kind word (eqb-true _ _ t)))) λ no_Node.
              either Matched (eqb (kind_of word) form_kind) (λ t. close gives some (eqb-true _ _ t)) λ no-form.
              either Matched (eqb (kind_of word) parameter_kind) (λ t. attribute gives some (eqb-true _ _ t)) λ no-parameter.
              let late = late-kind word (eqb-false _ _ no-if) (eqb-false _ _ no-left) (eqb-false _ _ no-skip) (eqb-false _ _ no-right) (eqb-false _ _ no_Node) in
              let last = last-kind word late (eqb-false _ _ no-form) (eqb-false _ _ no-parameter) in
              forward-given ((packs gives some).2 last) (top (forward-kind word last))
            where
              left : Packs m.value packed → frames ≡ on_left ∷ below → Matched (goes (turned m) (write_word mem (m.frames - 1) (3 + 8 * packed)))
              left value e = turns m.steps (right-word value) (rw e) (by_move (is-given e))

              skips : frames ≡ on_skip ∷ below → Matched (goes (registers_after true (m.at + skip) (m.frames - 1) m.steps m.value) mem)
              skips e =
                  let (inside, rest) = passed (ready e).0 in
                  pops true (m.at + skip) m.steps m.value inside rest (rw e) (by_move (is-given e))

              right : {f : Value} → frames ≡ on_right f ∷ below → Matched (take_right budget limit mem m (apply f m.value))
              right {f} e = go (apply f m.value) (is-given e)
                where
                  go : (a : Option Value) → next ≡ application_due s capacity budget M below a → Matched (take_right budget limit mem m a)
                  go (Some v) is =
                      counts AppApp _ is λ on. pops true m.at (m.steps + 1) v r.holds.from refl (rw e) (rw add-one (by_step AppApp on))
                  go None is = (as_plain by_overflow, is, refl)

              node-given : Packs m.value packed → frames ≡ on_node (held_attribute word) ∷ below
                  → Matched (goes (turned m) (write_word mem (m.frames - 1) (5 + 8 * (held_attribute word + 32 * packed))))
              node-given value e = turns m.steps (parameter-word (mod-lt _ (lit< tt)) value) (rw e) (by_move (is-given e))

              -- the parameter is that of the form on which the frame stands
              forward-given : Packs m.value packed → frames ≡ on_forward (held_attribute word) ∷ below
                  → Matched (goes (returned m 0 (form_occurrence sheet mem.forms (m.forms - 1)).parameter) (write_word mem (m.frames - 1) (5 + 8 * (held_attribute word + 32 * packed))))
              forward-given value e =
                  let (o, outer, under, on) = (ready e).1 in
                  let same : open_forms below ≡ open_forms frames = rw e in
                  let open-form : 0 < length (open_forms frames) = rw (← same, on) (omega arith) in
                  let form : innermost (open_forms below) ≡ form_occurrence sheet mem.forms (m.forms - 1) =
                  ap innermost same ∙ innermost-form sheet question mem.forms mem.words m.frames m.forms open-form in
                  stays r.holds true (m.at + 0) m.frames m.steps _ (set mem.words (m.frames - 1) _) {l = bytes} (simp length-set) (rw add-zero r.holds.from) (rw add-zero)
                  (turned-frame sheet question mem.forms mem.words m.frames m.forms some fit (parameter-word (mod-lt _ (lit< tt)) value)) same
                  (by_move (is-given e ∙ rw form))

-- ---- A move

pub step-matches : (sheet index question : List ℕ) (budget limit skip packed : ℕ) (mem : Memory) (m : Registers)
    → Represents sheet index question mem m → WidthOf (rest_of sheet question m.forms m.at m.end) skip → PacksIn mem m packed
    → AttributeMatches sheet question budget limit mem m index → CloseMatches sheet question budget limit mem m
    → Matches sheet question (length mem.store / 12) budget limit m (machine_in sheet question mem m)
    (step_of sheet index question budget limit skip packed mem m)
unfolding step_of give frames_in
step-matches sheet index question budget limit skip packed mem m r width packs attribute close =
    either (Matched sheet question budget limit mem m) m.returning
    (λ gives.
    either (Matched sheet question budget limit mem m) (eqb m.frames 0)
    (λ t. is-given sheet question budget limit mem m index r gives {fs = []} (rw (eqb-true m.frames 0 t)))
    (λ t. give_matches sheet question budget limit mem m index r gives (positive t) skip width packed packs attribute close))
    (λ evaluates. read-matches sheet question budget limit mem m index r evaluates)
  where
    positive : eqb m.frames 0 ≡ false → 0 < m.frames
    positive t = let no_zero : m.frames ≡ 0 → ⊥ = eqb-false _ _ t in omega arith
