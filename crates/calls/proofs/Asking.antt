-- An accepted question is put to a checked store: its run, and what it brings.
use mathlib.Core.List.{List}
use mathlib.Core.Path.{◌≡◌, sym, ap, ◌∙◌}
use Prim.Native.Nat.{ℕ, ◌/◌}
use native.Mathlib.Omega.{arith}
use lib.ListN.{length, replicate}
use Rattle.saiga.specs.Limits.{tally_rows}
use Rattle.saiga.specs.declared.Value.TheVariants.{Unit as unit}
use Rattle.saiga.specs.declared.stops.Stop.{Stop}
use Rattle.saiga.specs.Stops.{stop_number}
use Rattle.saiga.specs.Caching.{Counted, Ending, Ended}
use Rattle.saiga.specs.Tally.{tally}
use Rattle.saiga.specs.Ask.{lent, asking, ended_answer, run_question, trace_question, ask}
use Rattle.saiga.proofs.Calls.{Passed, passed, ask-runs}
use Rattle.stores.specs.Keys.{Linked}
use Rattle.engine.specs.declared.Registers.{Registers}
use Rattle.engine.specs.Decode.{words_in, forms_in, opens_in}
use Rattle.engine.specs.Ready.{memory_of}
use Rattle.engine.specs.Loop.{Invariant, started, Final}
use Rattle.engine.proofs.RunMemory.{words-length, forms-length, opens-length}
use Rattle.opens.proofs.Opened.{opened-none}
use Rattle.engine.proofs.Tracking.{tracks-start}
use Rattle.engine.proofs.Loop.{question-short, invariant-start, final-outcome}
use Rattle.engine.specs.Tallied.{RowsWithin, Tallied}
use Rattle.engine.proofs.Tallying.{no_rows, tallied-start}
use Rattle.runs.specs.declared.RunEnd.{RunEnd}
use Rattle.engine.specs.declared.Halt.TheVariants as halt
use Rattle.runs.specs.Moves.{Running, RunsTo, TalliesTo}
use Rattle.calls.specs.declared.Answer.{Answer}
use Rattle.calls.specs.declared.Answer.TheVariants.{Value, Refused}
use Rattle.calls.specs.Answers.{answer_of}
use Rattle.calls.specs.Askable.{Askable}

module _ {sheet index notes question store links memory : List ℕ} {kept budget : ℕ}
    (a : Askable sheet index notes question store links memory kept budget) where
  found : Passed sheet (lent store kept) (asking question budget) a.call
  found = passed sheet (lent store kept) (asking question budget) a.accepts

  -- how the run ends
  abbrev whole : Ended
  whole = run_question a.call.sheet (length store / 12) budget a.call.entries a.call.question

  -- the steps that it counts
  abbrev taken : List Counted
  taken = trace_question a.call.sheet (length store / 12) budget a.call.entries a.call.question

  begins : Invariant sheet index question budget store kept whole (memory_of store memory) (started question kept unit)
  begins =
      invariant-start sheet index question budget store (words_in memory) (forms_in memory) kept unit a.call.sheet a.call.entries a.call.question
      found.sheet-is a.index_of found.entries-are found.question-is (words-length memory a.memory_length) (forms-length memory a.memory_length)

  begins-tallied : Tallied sheet question budget taken (replicate tally_rows 0) (memory_of store memory) (started question kept unit)
  begins-tallied =
      tallied-start sheet question budget store (words_in memory) (forms_in memory) kept unit a.call.sheet a.call.entries a.call.question found.sheet-is
      found.entries-are found.question-is

  module _ {first : Registers} (is : first ≡ started question kept unit) where
    begins-at : Invariant sheet index question budget store kept whole (memory_of store memory) first
    begins-at = rw is begins

    pub runs : Running sheet index notes question budget store links memory first
    runs =
        record {
          lent = store;
          kept = kept;
          whole = whole;
          invariant = begins-at;
          tracks = tracks-start sheet index notes (memory_of store memory) first (ap (λ m. m.forms) is) a.noted.pieces a.noted.size;
          permitted = found.permitted;
          linked = rw is a.linked;
          opened = rw is (opened-none (forms_in memory) (opens_in memory) (opens-length memory a.memory_length));
          short = question-short a.call.sheet question a.call.question found.question-is;
        }

    -- no step is counted yet
    pub rows-begin : {rows : List ℕ} → rows ≡ replicate tally_rows 0 → RowsWithin first.steps rows
    rows-begin zeros = rw zeros (no_rows first.steps)

    -- what the run's contract says of this call
    module _ {store' links' : List ℕ} (memory' : List ℕ) (r : RunEnd)
        (ran : (lent : List ℕ) (kept : ℕ) (whole : Ended) → Invariant sheet index question budget lent kept whole (memory_of store memory) first
        → RunsTo sheet index notes question budget budget lent kept whole first.steps (memory_of store' memory') r)
        (linked : Linked store' r.registers.kept links')
        {rows : List ℕ} (rows' : List ℕ) (zeros : rows ≡ replicate tally_rows 0)
        (counted : (all : List Counted) → Tallied sheet question budget all rows (memory_of store memory) first
        → TalliesTo sheet question budget all (memory_of store' memory') rows' r) where
      -- the answer, its tally and the bytes of the store, and the store's index
      abbrev Brings : Answer → Type 0
      Brings answer =
          (answer_of answer ≡ (ask sheet (lent store kept) (asking question budget)).answer)
          × ((rows' ≡ (ask sheet (lent store kept) (asking question budget)).tally)
          × ((store' ≡ (ask sheet (lent store kept) (asking question budget)).store) × Linked store' (answer_of answer).kept links'))

      tallied : TalliesTo sheet question budget taken (memory_of store' memory') rows' r
      tallied = counted taken (rw (zeros, is) begins-tallied)

      ended : {ending : Ending} {m : Registers} (answer : Answer) → Final store kept whole ending (memory_of store' memory') m
          → answer_of answer ≡ ended_answer whole → rows' ≡ tally taken → Linked store' (answer_of answer).kept links' → Brings answer
      ended answer final is-answer rows_are index =
          let brings = ask-runs sheet (lent store kept) (asking question budget) a.accepts ∙ final-outcome final taken in
          (is-answer ∙ sym (ap (λ o. o.answer) brings), (rows_are ∙ sym (ap (λ o. o.tally) brings), (sym (ap (λ o. o.store) brings), index)))

      pub finished : r.halt ≡ halt.Finishes → Brings (Value r.registers.value r.registers.steps r.registers.kept)
      unfolding answer_of ended_answer
      finished end =
          let final = rw end at (ran store kept whole begins-at) in
          ended (Value r.registers.value r.registers.steps r.registers.kept) final (rw (final.ending_is, final.steps_are, final.kept_are)) (rw end at tallied) linked

      pub stopped : {s : Stop} → r.halt ≡ halt.Stops s → {number : ℕ} → number ≡ stop_number s → Brings (Refused number 0 r.registers.steps r.registers.kept)
      unfolding answer_of ended_answer
      stopped end {number} number_is =
          let (reason, is_number, final) = rw end at (ran store kept whole begins-at) in
          ended (Refused number 0 r.registers.steps r.registers.kept) final (rw (number_is, final.ending_is, is_number, final.steps_are, final.kept_are)) (rw end at tallied) linked

      -- A run whose limit is its budget does not pause: it is spent there, or it ends.
      pub paused : r.halt ≡ halt.Waits → ⊥
      paused end = let pause = rw end at (ran store kept whole begins-at) in omega (arith, pause.reached, pause.left)
