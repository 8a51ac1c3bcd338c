-- What represents a machine is ready for AttrApp and CacheWrite.
use mathlib.Core.List.{List}
use mathlib.Core.Path.{◌≡◌, sym, ap, ◌∙◌}
use Prim.Native.Nat.{ℕ, zero, suc, ◌+◌, ◌-◌, ◌^◌, ◌≤◌, ◌<◌}
use native.Mathlib.Omega.{arith}
use lib.ListN.{length, get_or}
use borrow.Author.Tests.{ne_eqb}
use Rattle.saiga.specs.Values.{node_of}
use Rattle.saiga.specs.Sheet.{Sheet}
use Rattle.saiga.proofs.Entries.{store_in}
use Rattle.saiga.proofs.FourBytes.{word_more}
use Rattle.stores.specs.Keys.{key_of}
use Rattle.stores.proofs.ByKey.{kept_word}
use Rattle.engine.specs.RunningPiece.{piece_in, rest_of}
use Rattle.values.specs.Packed.{value_in}
use Rattle.engine.specs.declared.Registers.{Registers}
use Rattle.engine.specs.declared.frames.Kind.{Kind}
use Rattle.engine.specs.declared.frames.Kind.TheVariants.{If, Skip, Parameter, Form, Forward}
use Rattle.engine.specs.FrameWords.{kind_number, kind_of, parameter_kind, held_attribute, held_node}
use Rattle.engine.specs.Decode.{frame_limit, run_size, sheet_of, words_in}
use Rattle.engine.specs.Represents.{Represents}
use Rattle.engine.specs.Ready.{memory_of, ParameterReady, FrameReady, PassReady}
use Rattle.engine.proofs.Kept.{by_key}
use Rattle.engine.proofs.RunMemory.{run_length, frame_at}
use Rattle.engine.proofs.ReadyForCode.{rest-reaches, frames-inside, frame-ready, parameter-ready, if-starts, skip-starts, forward-open}
use Rattle.engine.proofs.Tracking.{pass-ready}
use Rattle.engine.proofs.Attributes.{form-counted, form-not-kept, figure-not-open, due_in, attribute-is, pair-indexed, some-piece}
use Rattle.attributes.specs.Due.{WriteReady, CloseReady, AttributeReady}
use Rattle.runs.specs.Moves.{MoveReady, GiveReady}

-- a running piece is short
piece-short : (sheet question : List ℕ) (k : ℕ) → length sheet ≤ 65536 → length question ≤ 256 → length (piece_in sheet question k) ≤ 65536
unfolding piece_in
piece-short sheet question zero a b = omega arith
piece-short sheet question (suc k) a b = a

module _ {sheet index notes question : List ℕ} {store links run : List ℕ} {m : Registers}
    (ready : MoveReady sheet index notes question store links run m) where
  abbrev s : Sheet
  s = sheet_of sheet

  abbrev r : Represents sheet index question (memory_of store run) m
  r = ready.represents

  pub end_short : m.end ≤ 65536
  end_short = omega (arith, r.holds.to, piece-short sheet question m.forms r.index_of.described.short ready.short)

  pub write-ready : WriteReady store links m.kept
  write-ready = record { linked = ready.linked; short = (store_in s store m.kept _ r.holds.stored).short }

  -- the array of the run has its length
  pub run-size : length run ≡ run_size
  run-size = run_length run ready.opened.size

  pub top-inside : 0 < m.frames → m.frames - 1 < frame_limit
  top-inside framed = omega (arith, frames-inside run r)

module _ {sheet index notes question store links run : List ℕ} {m : Registers} (given : GiveReady sheet index notes question store links run m) where
  abbrev rep : Represents sheet index question (memory_of store run) m
  rep = given.ready.represents

  abbrev decoded : Sheet
  decoded = sheet_of sheet

  abbrev w : ℕ
  w = get_or run (m.frames - 1) 0

  is : w ≡ get_or (words_in run) (m.frames - 1) 0
  is = frame_at run (m.frames - 1) (top-inside given.ready given.some)

  pub framed : FrameReady run m
  framed = frame-ready run rep (run-size given.ready) given.some

  pub reaches : {e : List ℕ} → e ≡ rest_of sheet question m.forms m.at m.end → m.at + length e < 2 ^ 64
  reaches rest = rw rest (omega (arith, rest-reaches run rep, end_short given.ready))

  -- What a move needs by the frame's kind, which the code has read from its word.
  module _ {k : Kind} (kind : kind_number k ≡ kind_of w) where
    of-kind : {j : Kind} → k ≡ j → kind_of (get_or (words_in run) (m.frames - 1) 0) ≡ kind_number j
    of-kind key = rw is at (sym kind ∙ ap kind_number key)

    module _ {e : List ℕ} (rest : e ≡ rest_of sheet question m.forms m.at m.end) where
      pub if-ready : k ≡ If → PassReady notes e m
      if-ready key = rw rest (pass-ready rep given.ready.tracks (if-starts rep given.gives given.some (of-kind key)))

      pub skip-ready : k ≡ Skip → PassReady notes e m
      skip-ready key = rw rest (pass-ready rep given.ready.tracks (skip-starts rep given.gives given.some (of-kind key)))

    -- a form's frame is innermost, so one is open
    pub form-open : k ≡ Form → 1 ≤ m.forms
    form-open key = omega (arith, form-counted rep given.gives given.some (by_key decoded) (of-kind key))

    pub close-ready : k ≡ Form → CloseReady store links run m
    close-ready key =
        let opened = form-counted rep given.gives given.some (by_key decoded) (of-kind key) in
        let ready = parameter-ready run rep (run-size given.ready) (omega (arith, opened, rep.holds.counted)) in
        record {
          writes = write-ready given.ready;
          framed = given.some;
          node = ready.node;
          word_small = ready.word_small;
          not_kept = form-not-kept rep given.gives given.some (by_key decoded) (of-kind key);
        }

    -- a forward's frame is innermost: it stands on a form's
    pub forward-ready : k ≡ Forward → ParameterReady sheet run m
    forward-ready key = parameter-ready run rep (run-size given.ready) (forward-open rep given.gives given.some (of-kind key))

  -- AttrApp, with the node and the attribute that the innermost frame's word holds
  abbrev word : ℕ
  word = get_or (words_in run) (m.frames - 1) 0

  abbrev n : ℕ
  n = node_of (value_in (held_node word))

  abbrev a : ℕ
  a = held_attribute word

  due-ready : kind_of word ≡ parameter_kind → (n ≡ 65535 → ⊥) → AttributeReady sheet index store links run m n a
  unfolding key_of
  due-ready kind no_null =
      let r = rep in
      let gives = given.gives in
      let some = given.some in
      let no-null-is = ne_eqb n 65535 no_null in
      let o-in = due_in r gives some (by_key decoded) kind no-null-is in
      record {
        pair = pair-indexed r gives some (by_key decoded) kind no-null-is;
        defined = some-piece r gives some (by_key decoded) kind no-null-is;
        kept_word = λ j found. word_more _ _ r.index_of.described.nodes_bound
            (rw (attribute-is r gives some (by_key decoded) kind)
            at (kept_word decoded store m.kept _ r.holds.stored record { node = n; attribute = a; parameter = m.value } o-in j found));
        writes = write-ready given.ready;
        frame = framed;
        opened = given.ready.opened;
        figure_closed = figure-not-open r gives some (by_key decoded) kind no-null-is;
      }

  pub attribute-ready : {k : Kind} → kind_number k ≡ kind_of w → k ≡ Parameter → (node_of (value_in (held_node w)) ≡ 65535 → ⊥)
      → AttributeReady sheet index store links run m (node_of (value_in (held_node w))) (held_attribute w)
  attribute-ready kind key no_null = rw is (due-ready (of-kind kind key) (rw is at no_null))

pub ruleset give_needs = (framed, reaches, if-ready, skip-ready, close-ready, forward-ready, attribute-ready)
