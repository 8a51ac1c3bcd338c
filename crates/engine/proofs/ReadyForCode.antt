-- What represents a machine is ready for the code: to read a head, or to give a value to a frame.
use mathlib.Core.Bool.{Bool, true, false}
use mathlib.Core.List.{List, [], ◌∷◌}
use mathlib.Core.Path.{◌≡◌, refl, ap}
use Prim.Native.Nat.{ℕ, suc, ◌+◌, ◌*◌, ◌-◌, ◌≤◌, ◌<◌}
use native.Mathlib.Omega.{arith}
use lib.ListN.{length, get_or}
use Rattle.saiga.specs.Values.{Ty, base}
use Rattle.saiga.specs.Types.{Attribute}
use Rattle.saiga.specs.Expressions.{Scope, Head, base_literal, function_literal, if_head, application_head, attribute_head, this_head, parameter_head, no_head, head_of}
use Rattle.saiga.specs.Sheet.{Sheet, node_count, question_scope}
use Rattle.saiga.specs.Caching.{Running}
use Rattle.saiga.specs.Sound.{OccurrenceIn, RunningIn}
use Rattle.saiga.proofs.FourBytes.{word_more, word_small}
use Rattle.sheets.proofs.Indexed.{attribute-by-index}
use Rattle.engine.specs.RunningPiece.{rest_of}
use Rattle.expressions.specs.Widths.{Starts, head_width}
use Rattle.engine.specs.Machine.{Frame, on_if, on_left, on_skip, on_right, on_node, on_parameter, on_forward, on_form, evaluating, returning, open_forms, innermost, scope_in, plug, term_of, state_of}
use Rattle.engine.specs.Good.{Parses, Ready, GoodAt}
use Rattle.engine.proofs.Bounds.{represents-sized, frames-fit}
use Rattle.engine.proofs.Heads.{none_inside}
use Rattle.engine.specs.FrameWords.{kind_of, if_kind, skip_kind, forward_kind}
use Rattle.engine.specs.Decode.{frame_limit, forms_size, run_size, words_in, forms_in, sheet_of, form_occurrence, frames_in, mode_of, machine_of}
use Rattle.engine.specs.Steps.{Memory}
use Rattle.engine.specs.Represents.{Represents}
use Rattle.engine.specs.Ready.{memory_of, innermost_place, NodeReady, ParameterReady, HeadReady, ReadReady, FrameReady}
use Rattle.engine.specs.declared.Registers.{Registers}
use Rattle.engine.proofs.Decoding.{WordOf, if-kind, skip-kind, forward-kind, top_frame, frames-count, innermost-form, rest-length}
use Rattle.engine.proofs.RunMemory.{form-at}
use Rattle.engine.proofs.Steps.{Fits, head-fits, inside-form}
use Rattle.engine.proofs.OpenForms.{plug-in, form_in}

-- the occurrence whose definition is running, of what is of a type
innermost-in : {nodes : ℕ} {sig : List Attribute} (s : Sheet) (fs : List Frame) (t : Running) (l : List ℕ) {T : Ty} → 0 < length (open_forms fs)
    → RunningIn nodes sig (plug s fs t l) T → OccurrenceIn nodes sig (innermost (open_forms fs))
unfolding plug open_forms innermost
innermost-in s [] t l some h = absurd (omega arith)
innermost-in s (on_if ∷ fs) t l some h = innermost-in s fs _ _ some h
innermost-in s (on_left ∷ fs) t l some h = innermost-in s fs _ _ some h
innermost-in s (on_skip ∷ fs) t l some h = innermost-in s fs _ _ some h
innermost-in s (on_right v ∷ fs) t l some h = innermost-in s fs _ _ some h
innermost-in s (on_node a ∷ fs) t l some h = innermost-in s fs _ _ some h
innermost-in s (on_parameter v a ∷ fs) t l some h = innermost-in s fs _ _ some h
innermost-in s (on_forward a ∷ fs) t l some h = innermost-in s fs _ _ some h
innermost-in s (on_form o outer ∷ fs) t l some h = (form_in (plug-in s fs _ _ h).1).0

-- a head with its operand
width_fits : (sc : Scope) (l : List ℕ) (h : Head) → Fits sc h l → head_width h ≤ suc (length l)
width_fits sc l (base_literal t) fits = omega arith
width_fits sc l function_literal fits = omega arith
width_fits sc l if_head fits = omega arith
width_fits sc l application_head fits = omega arith
width_fits sc l attribute_head fits = omega (arith, fits.0)
width_fits sc l this_head fits = omega arith
width_fits sc l parameter_head fits = omega arith
width_fits sc l no_head fits = absurd fits

-- ---- Where the rest, the frames and the forms lie

module _ {sheet index question : List ℕ} {store : List ℕ} (run : List ℕ) {m : Registers}
    (r : Represents sheet index question (memory_of store run) m) where
  abbrev mem : Memory
  mem = memory_of store run

  abbrev s : Sheet
  s = sheet_of sheet

  abbrev frames : List Frame
  frames = frames_in sheet question (words_in run) (forms_in run) m.frames m.forms

  abbrev bytes : List ℕ
  bytes = rest_of sheet question m.forms m.at m.end

  pub rest-reaches : m.at + length bytes ≡ m.end
  rest-reaches = omega (arith, rest-length sheet question m.forms m.at m.end r.holds.to, r.holds.from)

  pub frames-inside : m.frames < frame_limit
  unfolding machine_of
  frames-inside = omega (arith, frames-count sheet question (forms_in run) (words_in run) m.frames m.forms, frames-fit (represents-sized r))

  pub frame-ready : length run ≡ run_size → 0 < m.frames → FrameReady run m
  frame-ready size some = record { size = size; framed = some; inside = omega (arith, frames-inside) }

  -- the innermost form, where one is open
  module _ (size : length run ≡ run_size) (some : 0 < length (open_forms frames)) where
    opened : 1 ≤ m.forms
    opened = omega (arith, r.holds.counted)

    occurrence_in : OccurrenceIn (node_count s) s.attributes (form_occurrence sheet (forms_in run) (m.forms - 1))
    unfolding machine_of state_of mode_of term_of
    occurrence_in =
        rw (innermost-form sheet question (forms_in run) (words_in run) m.frames m.forms some) at (go m.returning r.typed)
      where
        go : (b : Bool) → RunningIn (node_count s) s.attributes (term_of s (mode_of b m.value) bytes frames) (base r.type)
            → OccurrenceIn (node_count s) s.attributes (innermost (open_forms frames))
        go true h = innermost-in s frames _ _ some h
        go false h = innermost-in s frames _ _ some h

    -- its numbers stand among the forms
    inside : 4 * (m.forms - 1) + 1 < forms_size
    inside = omega (arith, opened, r.holds.few)

    node-ready : NodeReady run m
    unfolding form_occurrence
    node-ready =
        record {
          size = size;
          opened = opened;
          few = r.holds.few;
          small = rw (form-at run (4 * (m.forms - 1)) _ refl (omega (arith, inside))) (omega (arith, occurrence_in.node_declared, r.index_of.described.nodes_bound));
        }

    pub parameter-ready : ParameterReady sheet run m
    unfolding form_occurrence
    parameter-ready =
        let declared = occurrence_in.attribute_declared in
        let is-word =
        rw (attribute-by-index sheet s index r.index_of.described _ declared, (r.holds.placed (m.forms - 1) (omega (arith, opened))).word)
        at occurrence_in.parameter-in.is-word in
        record {
          node = node-ready;
          declared = rw (form-at run (4 * (m.forms - 1)) _ refl (omega (arith, inside))) (omega (arith, declared, r.index_of.described.room));
          word = rw (form-at run (4 * (m.forms - 1)) _ refl (omega (arith, inside)), form-at run (4 * (m.forms - 1) + 1) (innermost_place m + 1) (omega arith) inside) (word_more _ _ r.index_of.described.nodes_bound is-word);
          word_small =
              rw (form-at run (4 * (m.forms - 1) + 1) (innermost_place m + 1) (omega arith) inside) (word_small (node_count s) _ _ (omega (arith, r.index_of.described.nodes_bound)) is-word);
        }

-- ---- Reading a head

module _ {sheet index question : List ℕ} {store : List ℕ} (run : List ℕ) {m : Registers}
    (r : Represents sheet index question (memory_of store run) m) (size : length run ≡ run_size) (evaluates : m.returning ≡ false) where
  good : GoodAt (s run r) evaluating (bytes run r) (frames run r)
  unfolding machine_of mode_of
  good = rw evaluates at r.good

  head-ready : (l : List ℕ) (h : Head) → Fits (scope_in (s run r) (open_forms (frames run r))) h l → HeadReady sheet run m h
  unfolding question_scope
  head-ready l (base_literal t) fits = tt
  head-ready l function_literal fits = tt
  head-ready l if_head fits = tt
  head-ready l application_head fits = tt
  head-ready l attribute_head fits = tt
  head-ready l this_head fits = node-ready run r size (inside-form (s run r) _ (λ sc. sc.has-this) refl fits)
  head-ready l parameter_head fits = parameter-ready run r size (inside-form (s run r) _ (λ sc. sc.has-parameter) refl fits)
  head-ready l no_head fits = fits

  pub read-ready : ReadReady sheet (bytes run r) run m
  read-ready = go (bytes run r) refl
    where
      go : (l : List ℕ) → bytes run r ≡ l → ReadReady sheet l run m
      go [] is = none_inside (rw is at good.0)
      go (c ∷ l) is =
          let fits = head-fits (rw is at good.0) in
          record {
            some = omega arith;
            operand = width_fits (scope_in (s run r) (open_forms (frames run r))) l (head_of c) fits;
            inside = omega (arith, ap length is, rest-reaches run r);
            size = size;
            room = frames-inside run r;
            head = head-ready l (head_of c) fits;
          }

-- ---- Giving a value

starts : {sc : Scope} {l : List ℕ} → Parses sc l → Starts l
starts {sc} p = record { scope = sc; expr = p.expr; width = p.width; read = p.read }

-- An expression stands before a machine that gives a value to an IF, or has taken its first branch; a form is open in one that gives a forward its node.
module _ {sheet index question : List ℕ} {mem : Memory} {m : Registers} (r : Represents sheet index question mem m)
    (gives : m.returning ≡ true) (some : 0 < m.frames) where
  abbrev rest : List ℕ
  rest = rest_of sheet question m.forms m.at m.end

  abbrev word : ℕ
  word = get_or mem.words (m.frames - 1) 0

  follows : {f : Frame} → WordOf word f → Ready (sheet_of sheet) (f ∷ frames_in sheet question mem.words mem.forms (m.frames - 1) m.forms) rest
  unfolding machine_of mode_of
  follows w =
      let good : GoodAt (sheet_of sheet) (returning m.value) rest (frames_in sheet question mem.words mem.forms m.frames m.forms) =
      rw gives at r.good in
      rw (top_frame sheet question mem.forms mem.words m.frames m.forms some w) at good

  pub if-starts : kind_of word ≡ if_kind → Starts rest
  if-starts kind = starts (follows (if-kind word kind)).0

  pub skip-starts : kind_of word ≡ skip_kind → Starts rest
  skip-starts kind = starts (follows (skip-kind word kind)).0

  pub forward-open : kind_of word ≡ forward_kind → 0 < length (open_forms (frames_in sheet question mem.words mem.forms m.frames m.forms))
  unfolding open_forms
  forward-open kind =
      let (o, outer, under, on) = (follows (forward-kind word kind)).1 in
      rw (top_frame sheet question mem.forms mem.words m.frames m.forms some (forward-kind word kind), on) (omega arith)
