-- The rounds of the run's loop: what holds from move to move goes on holding, of every call whose run this is.
use mathlib.Core.List.{List}
use Rattle.std.specs.Prelude.{Result, Ok, Err}
use mathlib.Core.Path.{◌≡◌, sym, ap, ◌∙◌}
use Prim.Native.Nat.{ℕ, ◌≤◌, ◌<◌}
use native.Mathlib.Omega.{arith}
use Rattle.saiga.specs.Caching.{Counted, Ended}
use Rattle.engine.specs.declared.Registers.{Registers}
use Rattle.engine.specs.Steps.{Memory, Stepped, goes, step_of}
use Rattle.engine.specs.Represents.{machine_in}
use Rattle.engine.specs.Decode.{opens_in}
use Rattle.engine.specs.Ready.{memory_of}
use Rattle.engine.specs.Loop.{Invariant}
use Rattle.engine.proofs.Loop.{invariant-on, invariant-falls, invariant-waits, invariant-finishes, invariant-stops}
use Rattle.engine.specs.Cost.{measure}
use Rattle.engine.proofs.Tracking.{tracks_on}
use Rattle.engine.specs.Tallied.{due_row, counted_in, rows_after, RowsWithin, Tallied}
use Rattle.engine.proofs.Tallying.{rows_on, tallied-on, tallied-finishes, tallied-stops}
use Rattle.engine.specs.declared.Halt.{Halt}
use Rattle.engine.specs.declared.Halt.TheVariants.{Waits, Finishes, Stops}
use Rattle.engine.specs.CodeSteps.{stepped_of, kept_after, forms_after}
use Rattle.runs.proofs.Counting.{stays-within-limit}
use Rattle.runs.specs.Moves.{StepsTo, Running, HaltsBy, TalliesBy}

module _ (sheet index notes question : List ℕ) (budget limit : ℕ) where
  -- registers, memory and the rows of the tally, and those that the run began with
  pub record Round (store₀ run₀ rows₀ : List ℕ) (first : Registers) (store links run rows : List ℕ) (m : Registers) : Type 0 where
    pub running : Running sheet index notes question budget store links run m
    pub on : (lent : List ℕ) (kept : ℕ) (whole : Ended) → Invariant sheet index question budget lent kept whole (memory_of store₀ run₀) first
        → Invariant sheet index question budget lent kept whole (memory_of store run) m
    pub counted : first.steps ≤ limit → m.steps ≤ limit
    pub rows-within : RowsWithin m.steps rows
    pub tallied : (all : List Counted) → Tallied sheet question budget all rows₀ (memory_of store₀ run₀) first
        → Tallied sheet question budget all rows (memory_of store run) m

  -- Before the first move a round's facts hold of the registers, memory and rows that the run begins with.
  pub first_round : {store links run rows : List ℕ} {m : Registers} → Running sheet index notes question budget store links run m
      → RowsWithin m.steps rows → Round store run rows m store links run rows m
  first_round running within =
      record {
        running = running;
        on = λ lent kept whole i. i;
        counted = λ h. h;
        rows-within = within;
        tallied = λ all t. t;
      }

  module _ {store₀ run₀ rows₀ : List ℕ} {first : Registers} {store links run rows : List ℕ} {m : Registers}
      (round : Round store₀ run₀ rows₀ first store links run rows m) where
    abbrev mem : Memory
    mem = memory_of store run

    module _ {store' links' : List ℕ} (run' : List ℕ) {r : Result Registers Halt}
        (steps : StepsTo sheet index question budget limit mem (memory_of store' run') links' (opens_in run') m r) where
      abbrev mem' : Memory
      mem' = memory_of store' run'

      abbrev move_of : Stepped
      move_of = step_of sheet index question budget limit steps.skip steps.packed mem m

      -- what the move was
      came : {r' : Result Registers Halt} → r ≡ r' → move_of ≡ stepped_of r' mem'
      came is = sym steps.moved ∙ ap (λ r. stepped_of r mem') is

      module _ {m' : Registers} (is : r ≡ Ok m') where
        goes_to : move_of ≡ goes m' mem'
        unfolding stepped_of
        goes_to = came is

        pub round-less : measure budget (machine_in sheet question mem' m') < measure budget (machine_in sheet question mem m)
        round-less = invariant-falls round.running.invariant limit steps.skip steps.packed steps.width steps.packs goes_to

        pub round-again : (rows' : List ℕ) → rows' ≡ rows_after r (due_row mem m) rows → Round store₀ run₀ rows₀ first store' links' run' rows' m'
        unfolding kept_after forms_after rows_after
        round-again rows' after =
            let rows_are : rows' ≡ counted_in (due_row mem m) rows = rw is at after in
            let next : (lent : List ℕ) (kept : ℕ) (whole : Ended) → Invariant sheet index question budget lent kept whole mem m
            → Invariant sheet index question budget lent kept whole mem' m' =
            λ lent kept whole i. invariant-on i limit steps.skip steps.packed steps.width steps.packs goes_to in
            record {
              running = record {
                lent = round.running.lent;
                kept = round.running.kept;
                whole = round.running.whole;
                invariant = next _ _ _ round.running.invariant;
                tracks =
                    tracks_on round.running.invariant.represents round.running.tracks budget limit steps.skip steps.packed steps.width goes_to;
                permitted = round.running.permitted;
                linked = rw is at steps.linked;
                opened = rw is at steps.opened;
                short = round.running.short;
              };
              on = λ lent kept whole i. next lent kept whole (round.on lent kept whole i);
              counted = λ h. stays-within-limit sheet index limit mem m question budget steps.skip steps.packed goes_to (round.counted h);
              rows-within =
                  rw rows_are (rows_on round.running.invariant limit steps.skip steps.packed steps.width steps.packs goes_to rows round.rows-within);
              tallied = λ all t.
                  rw rows_are (tallied-on round.running.invariant limit steps.skip steps.packed steps.width steps.packs goes_to rows round.rows-within
                  (round.tallied all t));
            }

      module _ (lent : List ℕ) (kept : ℕ) (whole : Ended)
          (i : Invariant sheet index question budget lent kept whole (memory_of store₀ run₀) first) where
        now-holds : Invariant sheet index question budget lent kept whole mem m
        now-holds = round.on lent kept whole i

        pub round-ends : (h : Halt) → r ≡ Err h → HaltsBy sheet index notes question budget limit lent kept whole first.steps mem' m h
        unfolding stepped_of
        round-ends Waits is =
            let same : mem' ≡ mem = rw is at steps.still in
            let (due, reached, left) = invariant-waits now-holds limit steps.skip steps.packed steps.width steps.packs (came is) in
            record {
              invariant = rw same now-holds;
              tracks = rw same round.running.tracks;
              due = rw same due;
              left = left;
              reached = reached;
              counted = λ h. let below = round.counted h in omega arith;
            }
        round-ends Finishes is =
            let same : mem' ≡ mem = rw is at steps.still in
            rw same (invariant-finishes now-holds limit steps.skip steps.packed steps.width steps.packs (came is))
        round-ends (Stops s) is =
            let same : mem' ≡ mem = rw is at steps.still in
            rw same (invariant-stops now-holds limit steps.skip steps.packed steps.width steps.packs (came is))

      -- the tally then: a move by which the run does not go on leaves its rows
      pub tally-ends : (rows' : List ℕ) → rows' ≡ rows_after r (due_row mem m) rows → (all : List Counted)
          → Tallied sheet question budget all rows₀ (memory_of store₀ run₀) first → (h : Halt) → r ≡ Err h → TalliesBy sheet question budget all mem' rows' m h
      unfolding rows_after stepped_of
      tally-ends rows' after all t Waits is =
          let same : mem' ≡ mem = rw is at steps.still in
          let rows_are : rows' ≡ rows = rw is at after in
          rw rows_are record { within = round.rows-within; tallied = rw same (round.tallied all t) }
      tally-ends rows' after all t Finishes is =
          (rw is at after)
          ∙ tallied-finishes round.running.invariant limit steps.skip steps.packed steps.width steps.packs round.rows-within (round.tallied all t) (came is)
      tally-ends rows' after all t (Stops s) is =
          (rw is at after)
          ∙ tallied-stops round.running.invariant limit steps.skip steps.packed steps.width steps.packs round.rows-within (round.tallied all t) (came is)

      -- A run that pauses leaves the rows of the steps that it took.
      pub tally-pauses : (rows' : List ℕ) → rows' ≡ rows_after r (due_row mem m) rows → (all : List Counted)
          → Tallied sheet question budget all rows₀ (memory_of store₀ run₀) first → r ≡ Err Waits → TalliesBy sheet question budget all mem' rows' m Waits
      tally-pauses rows' after all t is = tally-ends rows' after all t Waits is
