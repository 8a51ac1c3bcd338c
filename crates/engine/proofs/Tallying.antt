-- The tally of a run, move by move: it starts at zeros, a step that is taken counts in its row, and when the moves end the rows are those of
-- the whole run.
use mathlib.Core.Bool.{Bool, true, false}
use Rattle.std.specs.Prelude.{Option, None as none, Some as some}
use mathlib.Core.List.{List, [], ◌∷◌}
use mathlib.Core.Path.{◌≡◌, refl, sym, ◌∙◌, subst}
use Prim.Native.Nat.{ℕ, zero, suc, ◌+◌, ◌/◌, ◌≤◌, ◌<◌}
use native.Mathlib.Omega.{arith}
use lib.Dec.{eqb}
use lib.ListN.{length, get_or, replicate, length-set}
use lib.Seq.{get_or-set_same, get_or-set_other}
use borrow.Author.Tests.{eqb-true, eqb-false}
use Rattle.saiga.specs.Limits.{tally_rows}
use Rattle.saiga.specs.Values.{base}
use Rattle.saiga.specs.declared.Value.{Value}
use Rattle.saiga.specs.Expressions.{Expr}
use Rattle.saiga.specs.Sheet.{Sheet, accepted, check_sheet}
use Rattle.saiga.specs.Caching.{Entry, Counted, Ended}
use Rattle.saiga.specs.Tally.{steps_in, tally}
use Rattle.saiga.specs.Store.{check_store}
use Rattle.saiga.specs.Ask.{check_question, trace_question}
use Rattle.saiga.proofs.Calls.{question-traces}
use Rattle.saiga.proofs.Tally.{row_of, HasRow, among-more, row_inside, one_more, no_more, is-tally}
use Rattle.expressions.specs.Noted.{WidthOf}
use Rattle.engine.specs.RunningPiece.{rest_of}
use Rattle.engine.specs.Machine.{Machine, Move, takes, move, Next, by_move, by_step, state_of}
use Rattle.engine.specs.Decode.{sheet_of, machine_of}
use Rattle.engine.specs.Steps.{Memory, goes, step_of}
use Rattle.engine.specs.Steps as Steps
use Rattle.engine.specs.declared.Registers.{Registers}
use Rattle.engine.specs.Represents.{machine_in, Represents, PacksIn}
use Rattle.engine.specs.Loop.{Invariant, started}
use Rattle.engine.specs.Tallied.{due_row, counted_in, RowsWithin, Tallied}
use Rattle.engine.proofs.Simulation.{Simulates, simulates, traces-on, counts-on}
use Rattle.engine.proofs.Start.{question-start}
use Rattle.engine.proofs.StepRows.{RowFits, due-row}
use Rattle.engine.proofs.Loop.{start-machine, sheet-is, is-due, typed, rules, matches, invariant-next, invariant-on}

-- ---- The start

zeros : (n i : ℕ) → get_or {A = ℕ} (replicate n 0) i 0 ≡ 0
zeros zero i = refl
zeros (suc n) zero = refl
zeros (suc n) (suc i) = zeros n i

pub no_rows : (bound : ℕ) → RowsWithin bound (replicate tally_rows 0)
no_rows bound = record { size = refl; few = λ i. omega (arith, zeros tally_rows i) }

pub tallied-start : (sheet question : List ℕ) (budget : ℕ) (store words forms : List ℕ) (kept : ℕ) (any : Value)
    (s : Sheet) (entries : List Entry) (e : Expr)
    → check_sheet sheet ≡ accepted s → check_store s store kept ≡ accepted entries → check_question s question ≡ accepted e
    → Tallied sheet question budget (trace_question s (length store / 12) budget entries e) (replicate tally_rows 0)
    record { store = store; words = words; forms = forms } (started question kept any)
tallied-start sheet question budget store words forms kept any s entries e accepts passes form =
    let same = sheet-is sheet s accepts in
    let machine = start-machine sheet question store words forms kept any entries (rw same at passes) in
    let state = (question-start (sheet_of sheet) question e (rw same at form) entries).1 in
    rw same record {
      rest = trace_question (sheet_of sheet) (length store / 12) budget entries e;
      traces = rw (machine, state) (question-traces (sheet_of sheet) (length store / 12) budget entries e);
      together = λ i h. omega (arith, zeros tally_rows i);
    }

-- ---- A row

-- One more in a row of them, and none in another.
counted-here : (rows : List ℕ) (i : ℕ) → i < length rows → get_or (counted_in (some i) rows) i 0 ≡ suc (get_or rows i 0)
unfolding counted_in
counted-here rows i h = get_or-set_same rows i _ 0 h ∙ omega arith

counted-there : (rows : List ℕ) (i j : ℕ) → (j ≡ i → ⊥) → get_or (counted_in (some i) rows) j 0 ≡ get_or rows j 0
unfolding counted_in
counted-there rows i j other = get_or-set_other rows i j _ 0 other

counted-size : (row : Option ℕ) (rows : List ℕ) → length (counted_in row rows) ≡ length rows
unfolding counted_in
counted-size none rows = refl
counted-size (some i) rows = length-set rows i _

-- ---- A move

module _ {sheet index question : List ℕ} {budget : ℕ} {first : List ℕ} {lent : ℕ} {whole : Ended} {mem : Memory} {m : Registers}
    (inv : Invariant sheet index question budget first lent whole mem m) where
  abbrev s : Sheet
  s = sheet_of sheet

  abbrev r : Represents sheet index question mem m
  r = inv.represents

  abbrev capacity : ℕ
  capacity = length mem.store / 12

  abbrev M : Machine
  M = machine_in sheet question mem m

  row_fits : {k : Move} → move s capacity budget M ≡ k → RowFits (due_row mem m) k
  row_fits e = subst (RowFits (due_row mem m)) e (due-row sheet question capacity budget mem m)

  -- the step that is taken has a row
  rule-row : {c : Counted} {M' : Machine} → move s capacity budget M ≡ takes c M' → HasRow c
  rule-row {c} e =
      let (u, d, _) = subst (Simulates s capacity budget (state_of s M)) e (simulates s capacity budget (rules inv) M r.good) in
      among-more r.index_of.described.attributes_bound c
      (is-due s sheet r.accepts capacity budget (base r.type) (state_of s M) (typed inv) d).0

  module _ (limit skip packed : ℕ) (width : WidthOf (rest_of sheet question m.forms m.at m.end) skip) (packs : PacksIn mem m packed) where
    module _ {m' : Registers} {mem' : Memory} (e : step_of sheet index question budget limit skip packed mem m ≡ goes m' mem') (rows : List ℕ) where
      -- the rows after it
      abbrev after : List ℕ
      after = counted_in (due_row mem m) rows

      abbrev M' : Machine
      M' = machine_in sheet question mem' m'

      next : Next s capacity budget M M'
      next = invariant-next inv limit skip packed width packs e

      same-room : length mem'.store ≡ length mem.store
      same-room = (invariant-on inv limit skip packed width packs e).room ∙ sym inv.room

      pub rows_on : RowsWithin m.steps rows → RowsWithin m'.steps after
      unfolding counted_in machine_of
      rows_on w = record { size = counted-size (due_row mem m) rows ∙ w.size; few = by_kind next }
        where
          by_kind : Next s capacity budget M M' → (i : ℕ) → get_or after i 0 ≤ m'.steps
          by_kind (by_move moved) i =
              rw (row_fits moved) (omega (arith, w.few i, counts-on s capacity budget (rules inv) M r.good moved))
          by_kind (by_step c taken) i =
              let count : m'.steps ≡ suc m.steps = counts-on s capacity budget (rules inv) M r.good taken in
              rw (row_fits taken) (go (eqb i (row_of c)) refl count)
            where
              go : (b : Bool) → eqb i (row_of c) ≡ b → m'.steps ≡ suc m.steps → get_or (counted_in (some (row_of c)) rows) i 0 ≤ m'.steps
              go true here count =
                  let same = eqb-true i (row_of c) here in
                  rw same (omega (arith, counted-here rows (row_of c) (rw w.size (row_inside c (rule-row taken))), w.few (row_of c)))
              go false there count = omega (arith, counted-there rows (row_of c) i (eqb-false i (row_of c) there), w.few i)

      pub tallied-on : RowsWithin m.steps rows → {all : List Counted} → Tallied sheet question budget all rows mem m → Tallied sheet question budget all after mem' m'
      unfolding counted_in
      tallied-on w {all} t = by_kind next
        where
          by_kind : Next s capacity budget M M' → Tallied sheet question budget all after mem' m'
          by_kind (by_move moved) =
              rw (row_fits moved) record {
                rest = t.rest;
                traces = rw same-room (traces-on s capacity budget (rules inv) M r.good moved t.traces);
                together = t.together;
              }
          by_kind (by_step c taken) =
              let (rest, is, traces) = traces-on s capacity budget (rules inv) M r.good taken t.traces in
              rw (row_fits taken) record {
                rest = rest;
                traces = rw same-room traces;
                together = λ i h. go rest is i (t.together i h) (eqb i (row_of c)) refl;
              }
            where
              go : (rest : List Counted) → t.rest ≡ c ∷ rest → (i : ℕ) → get_or rows i 0 + steps_in i t.rest ≡ steps_in i all → (b : Bool) → eqb i (row_of c) ≡ b
                  → get_or (counted_in (some (row_of c)) rows) i 0 + steps_in i rest ≡ steps_in i all
              go rest is i was true here =
                  let same = eqb-true i (row_of c) here in
                  let row = counted-here rows (row_of c) (rw w.size (row_inside c (rule-row taken))) in
                  let step = one_more c (rule-row taken) rest in
                  rw same (omega (arith, row, step, rw (same, is) at was))
              go rest is i was false there =
                  let other = eqb-false i (row_of c) there in
                  omega (arith, counted-there rows (row_of c) i other, no_more i c (rule-row taken) other rest, rw is at was)

    -- ---- The end

    module _ {all : List Counted} {rows : List ℕ} (w : RowsWithin m.steps rows) (t : Tallied sheet question budget all rows mem m) where
      ended : t.rest ≡ [] → rows ≡ tally all
      unfolding steps_in
      ended no-rest = is-tally rows all w.size (λ i h. let whole = rw no-rest at (t.together i h) in omega arith)

      pub tallied-finishes : step_of sheet index question budget limit skip packed mem m ≡ Steps.finishes → rows ≡ tally all
      tallied-finishes e = ended (traces-on s capacity budget (rules inv) M r.good (matches inv limit skip packed width packs e) t.traces)

      pub tallied-stops : {n : ℕ} → step_of sheet index question budget limit skip packed mem m ≡ Steps.stops n → rows ≡ tally all
      tallied-stops e =
          let (reason, stopped, _) = matches inv limit skip packed width packs e in
          ended (traces-on s capacity budget (rules inv) M r.good stopped t.traces)
