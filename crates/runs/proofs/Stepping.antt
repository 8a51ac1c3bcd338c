-- One move, by whether a head is read, the run is over, or a value is given.
use mathlib.Core.Bool.{Bool, true, false, not, cond, false≢true}
use mathlib.Core.List.{List, [], ◌∷◌}
use Rattle.std.specs.Prelude.{Result, Ok, Err}
use mathlib.Core.Path.{◌≡◌, refl, sym, ap, ◌∙◌}
use Prim.Native.Nat.{ℕ, ◌-◌}
use native.Mathlib.Omega.{arith}
use lib.ListN.{get_or}
use borrow.Author.Tests.{eq-eqb, ne_eqb, not-true, not-false}
use Rattle.saiga.specs.Expressions.{Head, base_literal, function_literal, if_head, application_head, attribute_head, this_head, parameter_head, no_head, head_of}
use Rattle.engine.specs.RunningPiece.{rest_of}
use Rattle.engine.specs.declared.Registers.{Registers}
use Rattle.engine.specs.Steps.{Memory, goes, read_head, read_next, step_of}
use Rattle.engine.specs.Decode.{opens_in}
use Rattle.engine.specs.Ready.{memory_of, ReadReady}
use Rattle.expressions.proofs.Widths.{width_of}
use Rattle.engine.proofs.RunMemory.{frame_at}
use Rattle.engine.proofs.ReadyForCode.{read-ready, frames-inside}
use Rattle.engine.specs.declared.Halt.{Halt}
use Rattle.engine.specs.declared.Halt.TheVariants.{Finishes}
use Rattle.engine.specs.CodeSteps.{stepped_of, kept_after, forms_after, kept_in}
use Rattle.engine.specs.Tallied.{word_row, due_row, counted_in, rows_after}
use Rattle.runs.specs.Moves.{MoveReady, GivesTo, StepsTo}
use Rattle.runs.proofs.Limits.{FormsStay, opened-by}
use Rattle.runs.proofs.ReadyForAttributes.{run-size}

-- what a test chooses
first_of : {A : Type 0} {x : A} (b : Bool) (y : A) → b ≡ true → x ≡ cond b x y
first_of b y is = rw is

second-of : {A : Type 0} {y : A} (b : Bool) (x : A) → b ≡ false → y ≡ cond b x y
second-of b x is = rw is

-- reading keeps what is kept
head-keeps : (sheet : List ℕ) (mem : Memory) (m : Registers) (h : Head) (l : List ℕ) → kept_in m.kept (read_head sheet mem m h l) ≡ m.kept
unfolding read_head
head-keeps sheet mem m (base_literal t) l = refl
head-keeps sheet mem m function_literal l = refl
head-keeps sheet mem m if_head l = refl
head-keeps sheet mem m application_head l = refl
head-keeps sheet mem m attribute_head l = refl
head-keeps sheet mem m this_head l = refl
head-keeps sheet mem m parameter_head l = refl
head-keeps sheet mem m no_head l = refl

reading-keeps : (sheet index : List ℕ) (mem : Memory) (m : Registers) (l : List ℕ) → kept_in m.kept (read_next sheet index mem m l) ≡ m.kept
unfolding read_next
reading-keeps sheet index mem m [] = refl
reading-keeps sheet index mem m (c ∷ l) = head-keeps sheet mem m (head_of c) l

-- and leaves the open forms
head-stays : (sheet : List ℕ) (mem : Memory) (m : Registers) (h : Head) (l : List ℕ) → FormsStay mem m (read_head sheet mem m h l)
unfolding read_head
head-stays sheet mem m (base_literal t) l = (refl, refl)
head-stays sheet mem m function_literal l = (refl, refl)
head-stays sheet mem m if_head l = (refl, refl)
head-stays sheet mem m application_head l = (refl, refl)
head-stays sheet mem m attribute_head l = (refl, refl)
head-stays sheet mem m this_head l = (refl, refl)
head-stays sheet mem m parameter_head l = (refl, refl)
head-stays sheet mem m no_head l = tt

reading-stays : (sheet index : List ℕ) (mem : Memory) (m : Registers) (l : List ℕ) → FormsStay mem m (read_next sheet index mem m l)
unfolding read_next
reading-stays sheet index mem m [] = tt
reading-stays sheet index mem m (c ∷ l) = head-stays sheet mem m (head_of c) l

module _ {sheet index notes question store links run : List ℕ} {m : Registers} (ready : MoveReady sheet index notes question store links run m) where
  abbrev mem : Memory
  mem = memory_of store run

  abbrev rest : List ℕ
  rest = rest_of sheet question m.forms m.at m.end

  pub reading-ready : (e : List ℕ) → e ≡ rest → not m.returning ≡ true → ReadReady sheet e run m
  reading-ready e at evaluates = rw at (read-ready _ ready.represents (run-size ready) (not-true _ evaluates))

  module _ (budget limit : ℕ) where
    abbrev Steps : Memory → List ℕ → List ℕ → Result Registers Halt → Type 0
    Steps mem' links' opens' r = StepsTo sheet index question budget limit mem mem' links' opens' m r

    pub steps-reading : (e run' : List ℕ) (after : Registers) → not m.returning ≡ true → e ≡ rest
        → ((index : List ℕ) (store : List ℕ)
        → goes after (memory_of store run') ≡ read_next sheet index (memory_of store run) m e)
        → opens_in run' ≡ opens_in run → Steps (memory_of store run') links (opens_in run') (Ok after)
    unfolding stepped_of kept_after step_of
    steps-reading e run' after taken at reads beyond =
        let evaluates = not-true m.returning taken in
        let (skip, width) = width_of rest in
        let read = rw at at (reads index store) in
        let keeps : after.kept ≡ m.kept = ap (kept_in m.kept) read ∙ reading-keeps sheet index mem m rest in
        record {
          skip = skip;
          packed = 0;
          width = width;
          packs = λ gives some. absurd (false≢true (sym evaluates ∙ gives));
          moved = read ∙ second-of _ _ evaluates;
          still = tt;
          linked = rw keeps ready.linked;
          opened =
              rw beyond (opened-by (Ok after) mem (memory_of store run') (opens_in run) m ready.opened (rw (← read) at (reading-stays sheet index mem m rest)) tt);
        }

    pub steps-finishing : not m.returning ≡ false → m.frames ≡ 0 → Steps mem links (opens_in run) (Err Finishes)
    unfolding stepped_of kept_after forms_after step_of
    steps-finishing gives none =
        let (skip, width) = width_of rest in
        record {
          skip = skip;
          packed = 0;
          width = width;
          packs = λ _ some. absurd (omega arith);
          moved = first_of _ _ (eq-eqb m.frames 0 none) ∙ first_of _ _ (not-false m.returning gives);
          still = refl;
          linked = ready.linked;
          opened = ready.opened;
        }

    pub steps-giving : (mem' : Memory) (links' opens' : List ℕ) (r : Result Registers Halt) → not m.returning ≡ false → (m.frames ≡ 0 → ⊥)
        → GivesTo sheet index question budget limit mem mem' links' opens' m (get_or run (m.frames - 1) 0) r → Steps mem' links' opens' r
    unfolding step_of
    steps-giving mem' links' opens' r gives some given =
        let inside = frames-inside run ready.represents in
        record {
          skip = given.skip;
          packed = given.packed;
          width = given.width;
          packs = given.packs;
          moved = rw (frame_at run (m.frames - 1) (omega arith)) at given.moved ∙ second-of _ _ (ne_eqb m.frames 0 some) ∙ first_of _ _ (not-false m.returning gives);
          still = given.still;
          linked = given.linked;
          opened = given.opened;
        }

  -- ---- The rows of the tally

  module _ (rows : List ℕ) where
    pub rows-reading : (after : Registers) → not m.returning ≡ true → rows ≡ rows_after (Ok after) (due_row mem m) rows
    unfolding rows_after due_row counted_in
    rows-reading after taken = rw (not-true m.returning taken)

    pub rows-finishing : rows ≡ rows_after (Err Finishes) (due_row mem m) rows
    unfolding rows_after
    rows-finishing = refl

    pub rows-giving : (rows' : List ℕ) (r : Result Registers Halt) → not m.returning ≡ false → (m.frames ≡ 0 → ⊥)
        → rows' ≡ rows_after r (word_row (get_or run (m.frames - 1) 0)) rows → rows' ≡ rows_after r (due_row mem m) rows
    unfolding due_row
    rows-giving rows' r gives some counted =
        let inside = frames-inside run ready.represents in
        rw (not-false m.returning gives, ne_eqb m.frames 0 some)
        (rw (frame_at run (m.frames - 1) (omega arith)) at counted)

pub ruleset step_laws = (reading-ready, steps-reading, steps-finishing, steps-giving, rows-reading, rows-finishing, rows-giving)
