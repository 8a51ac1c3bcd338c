-- A value is given to a frame, by the kind of the frame.
use mathlib.Core.Bool.{Bool, true, false}
use mathlib.Core.List.{List}
use Rattle.std.specs.Prelude.{Result, Ok, Err}
use mathlib.Core.Path.{◌≡◌, refl, sym, ap, ◌∙◌}
use Prim.Native.Nat.{ℕ, suc, ◌-◌}
use native.Mathlib.Omega.{arith}
use lib.ListN.{get_or}
use Rattle.saiga.specs.Values.{truth, node_of, apply}
use Rattle.engine.specs.RunningPiece.{rest_of}
use Rattle.values.specs.Packed.{value_in}
use Rattle.stores.specs.Keys.{Linked}
use Rattle.engine.specs.declared.Registers.{Registers}
use Rattle.engine.specs.FrameWords.{kind_number, kind_of, right_word, held_function, held_attribute, parameter_word, held_node}
use Rattle.engine.specs.Decode.{words_in, forms_in, opens_in}
use Rattle.engine.specs.Steps.{Memory, Stepped, goes, waits, finishes, stops, write_word, returned, turned, this_parameter, take_if, take_right, within, close_form, attribute_due, give}
use Rattle.engine.specs.Represents.{PacksIn}
use Rattle.engine.specs.Ready.{memory_of, Rewrites, Passes, skipped}
use Rattle.expressions.proofs.Widths.{width_of}
use Rattle.engine.proofs.RunMemory.{frame_at}
use Rattle.engine.specs.declared.Halt.{Halt}
use Rattle.engine.specs.declared.frames.Kind.{Kind}
use Rattle.engine.specs.declared.frames.Kind.TheVariants.{If, Left, Skip, Right, Node, Parameter, Form, Forward}
use Rattle.engine.specs.CodeSteps.{stepped_of, kept_after, forms_after, kept_in, Still}
use Rattle.opens.specs.Opened.{Opened}
use Rattle.opens.proofs.Opened.{opened-fewer}
use Rattle.runs.specs.Moves.{GiveReady, GivesTo}
use Rattle.runs.proofs.Limits.{within-keeps, right-keeps, kept-by, FormsStay, within-stays, right-stays, opened-by}
use Rattle.runs.proofs.Rows.{rows-counted, rows-attribute, rows-uncounted}
use Rattle.runs.proofs.ReadyForAttributes.{top-inside, form-open}

-- memory that is not touched
still-same : (r : Result Registers Halt) (mem : Memory) → Still r mem mem
still-same (Ok after) mem = tt
still-same (Err h) mem = refl

if-keeps : (skip : ℕ) (mem : Memory) (m : Registers) (b : Bool) → kept_in m.kept (take_if skip mem m b) ≡ m.kept
unfolding take_if
if-keeps skip mem m true = refl
if-keeps skip mem m false = refl

if-stays : (skip : ℕ) (mem : Memory) (m : Registers) (b : Bool) → FormsStay mem m (take_if skip mem m b)
unfolding take_if
if-stays skip mem m true = (refl, refl)
if-stays skip mem m false = (refl, refl)

-- the number of open forms that a move goes on with
forms_of : ℕ → Stepped → ℕ
forms_of k (goes m mem) = m.forms
forms_of k waits = k
forms_of k finishes = k
forms_of k (stops number) = k

module _ {sheet index notes question store links run : List ℕ} {m : Registers} (given : GiveReady sheet index notes question store links run m) where
  -- the innermost frame's word
  abbrev w : ℕ
  w = get_or run (m.frames - 1) 0

  is : w ≡ get_or (words_in run) (m.frames - 1) 0
  is = frame_at run (m.frames - 1) (top-inside given.ready given.some)

  abbrev mem : Memory
  mem = memory_of store run

  abbrev rest : List ℕ
  rest = rest_of sheet question m.forms m.at m.end

  -- nothing is packed
  unpacked : {j : ℕ} → kind_of w ≡ j → (j ≡ 1 → ⊥) → (j ≡ 4 → ⊥) → (j ≡ 7 → ⊥) → PacksIn mem m 0
  unpacked kind no-left no_Node no-forward gives some = (
    λ e. absurd (no-left (sym kind ∙ rw is e)),
    λ e. absurd (no_Node (sym kind ∙ rw is e)),
    λ e. absurd (no-forward (sym kind ∙ rw is e)),
  )

  -- the index of a store in which nothing is written
  unwritten : (r : Result Registers Halt) (mem' : Memory) {st : Stepped} → stepped_of r mem' ≡ st → kept_in m.kept st ≡ m.kept
      → Linked store (kept_after r m) links
  unwritten r mem' e keeps = rw (kept-by r mem' m, e, keeps) given.ready.linked

  -- the index of the open forms, where none is opened or closed
  unopened : (r : Result Registers Halt) (mem' : Memory) {st : Stepped} {opens' : List ℕ} → stepped_of r mem' ≡ st → FormsStay mem m st → Still r mem mem'
      → opens' ≡ opens_in run → Opened mem'.forms opens' (forms_after r m)
  unopened r mem' e stays still beyond = rw beyond (opened-by r mem mem' (opens_in run) m given.ready.opened (rw e stays) still)

  module _ (budget limit : ℕ) where
    abbrev Gives : Memory → List ℕ → List ℕ → Result Registers Halt → Type 0
    Gives mem' links' opens' r = GivesTo sheet index question budget limit mem mem' links' opens' m w r

    -- the innermost frame is made one that holds the value
    module _ (held : ℕ → ℕ) (run' : List ℕ) {next : Registers} (keeps : next.kept ≡ m.kept) (stays : next.forms ≡ m.forms) {after : Registers} (turns : after ≡ next)
        (rewrites : Rewrites m run run' held) where
      turned-to : ((skip : ℕ) → goes next (write_word mem (m.frames - 1) (held rewrites.packed))
          ≡ give sheet index budget limit skip rewrites.packed mem m w)
          → Gives (memory_of store run') links (opens_in run') (Ok after)
      unfolding stepped_of kept_after
      turned-to by_kind =
          let (skip, width) = width_of rest in
          record {
            skip = skip;
            packed = rewrites.packed;
            width = width;
            packs = λ gives some. (λ _. rewrites.packs, λ _. rewrites.packs, λ _. rewrites.packs);
            moved = rw (turns, rewrites.written store) (by_kind skip);
            still = tt;
            linked = rw (turns, keeps) given.ready.linked;
            opened =
                unopened (Ok after) (memory_of store run') refl (ap (λ after. after.forms) (rewrites.written store), ap (λ m. m.forms) turns ∙ stays) tt
                rewrites.beyond;
          }

    module _ {k : Kind} (kind : kind_number k ≡ kind_of w) where
      of-kind : {j : Kind} → k ≡ j → kind_of w ≡ kind_number j
      of-kind key = sym kind ∙ ap kind_number key

      pub gives-if : (e run' : List ℕ) (r : Result Registers Halt) → k ≡ If → e ≡ rest
          → Passes e (λ skip. (store : List ℕ) → stepped_of r (memory_of store run') ≡ within budget limit m (take_if skip (memory_of store run) m (truth m.value)))
          → ((s : List ℕ) → Still r (memory_of s run) (memory_of s run')) → opens_in run' ≡ opens_in run → Gives (memory_of store run') links (opens_in run') r
      unfolding give
      gives-if e run' r key at passes still beyond =
          let is-kind = of-kind key in
          record {
            skip = passes.skip;
            packed = 0;
            width = rw at at passes.width;
            packs = unpacked is-kind (λ e. omega arith) (λ e. omega arith) (λ e. omega arith);
            moved = rw is-kind (passes.after store);
            still = still store;
            linked = unwritten r (memory_of store run') (passes.after store) (within-keeps budget limit m _ (if-keeps passes.skip mem m (truth m.value)));
            opened =
                unopened r (memory_of store run') (passes.after store) (within-stays budget limit mem m _ (if-stays passes.skip mem m (truth m.value)))
                (still store) beyond;
          }

      pub gives-right : (r : Result Registers Halt) → k ≡ Right
          → ((mem : Memory) → stepped_of r mem ≡ take_right budget limit mem m (apply (value_in (held_function w)) m.value))
          → Gives mem links (opens_in run) r
      unfolding give
      gives-right r key steps =
          let is-kind = of-kind key in
          let (skip, width) = width_of rest in
          record {
            skip = skip;
            packed = 0;
            width = width;
            packs = unpacked is-kind (λ e. omega arith) (λ e. omega arith) (λ e. omega arith);
            moved = rw is-kind (steps mem);
            still = still-same r mem;
            linked = unwritten r mem (steps mem) (right-keeps budget limit mem m _);
            opened = unopened r mem (steps mem) (right-stays budget limit mem m _) (still-same r mem) refl;
          }

      pub gives_left : (run' : List ℕ) (after : Registers) → k ≡ Left → after ≡ turned m → Rewrites m run run' right_word
          → Gives (memory_of store run') links (opens_in run') (Ok after)
      unfolding give
      gives_left run' after key turns rewrites = turned-to right_word run' refl refl turns rewrites (λ skip. rw (of-kind key))

      pub gives-node : (run' : List ℕ) (after : Registers) (a : ℕ) → k ≡ Node → after ≡ turned m → a ≡ held_attribute w → Rewrites m run run' (parameter_word a)
          → Gives (memory_of store run') links (opens_in run') (Ok after)
      unfolding give
      gives-node run' after a key turns attribute rewrites =
          turned-to (parameter_word (held_attribute w)) run' refl refl turns (rw attribute at rewrites) (λ skip. rw (of-kind key))

      -- a forward has its node
      pub gives-forward : (run' : List ℕ) (after : Registers) (a : ℕ) → k ≡ Forward → after ≡ returned m 0 (this_parameter sheet (forms_in run) m) → a ≡ held_attribute w
          → Rewrites m run run' (parameter_word a) → Gives (memory_of store run') links (opens_in run') (Ok after)
      unfolding give
      gives-forward run' after a key returns attribute rewrites =
          turned-to (parameter_word (held_attribute w)) run' refl refl returns (rw attribute at rewrites) (λ skip. rw (of-kind key))

      pub gives-skip : (e : List ℕ) (after : Registers) → k ≡ Skip → e ≡ rest → Passes e (λ skip. after ≡ skipped m skip)
          → Gives mem links (opens_in run) (Ok after)
      unfolding give stepped_of kept_after
      gives-skip e after key at passes =
          let is-kind = of-kind key in
          record {
            skip = passes.skip;
            packed = 0;
            width = rw at at passes.width;
            packs = unpacked is-kind (λ e. omega arith) (λ e. omega arith) (λ e. omega arith);
            moved = rw (is-kind, passes.after);
            still = tt;
            linked = rw passes.after given.ready.linked;
            opened = unopened (Ok after) mem refl (refl, ap (λ m. m.forms) passes.after) tt refl;
          }

      -- a form is closed
      pub gives-form : (store' links' : List ℕ) (after : Registers) → k ≡ Form → goes after (memory_of store' run) ≡ close_form (memory_of store run) m
          → Linked store' after.kept links' → Gives (memory_of store' run) links' (opens_in run) (Ok after)
      unfolding give stepped_of kept_after forms_after close_form forms_of
      gives-form store' links' after key closed linked =
          let is-kind = of-kind key in
          let fewer : after.forms ≡ m.forms - 1 = ap (forms_of 0) closed in
          let one-open : m.forms ≡ suc (m.forms - 1) = omega (arith, form-open given kind key) in
          let (skip, width) = width_of rest in
          record {
            skip = skip;
            packed = 0;
            width = width;
            packs = unpacked is-kind (λ e. omega arith) (λ e. omega arith) (λ e. omega arith);
            moved = rw is-kind closed;
            still = tt;
            linked = linked;
            opened = rw fewer (opened-fewer (forms_in run) (opens_in run) (m.forms - 1) (rw one-open at given.ready.opened));
          }

      -- AttrApp
      pub gives-attribute : (mem' : Memory) (links' opens' : List ℕ) (r : Result Registers Halt) → k ≡ Parameter
          → stepped_of r mem' ≡ attribute_due sheet index budget limit mem m (node_of (value_in (held_node w))) (held_attribute w)
          → Linked mem'.store (kept_after r m) links' → Opened mem'.forms opens' (forms_after r m) → Still r mem mem' → Gives mem' links' opens' r
      unfolding give
      gives-attribute mem' links' opens' r key due linked opened still =
          let is-kind = of-kind key in
          let (skip, width) = width_of rest in
          record {
            skip = skip;
            packed = 0;
            width = width;
            packs = unpacked is-kind (λ e. omega arith) (λ e. omega arith) (λ e. omega arith);
            moved = rw is-kind due;
            still = still;
            linked = linked;
            opened = opened;
          }

pub ruleset give_laws = (gives-if, gives_left, gives-skip, gives-right, gives-node, gives-attribute, gives-form, gives-forward, rows-counted, rows-attribute, rows-uncounted)
