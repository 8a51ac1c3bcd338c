-- The run, move by move: it starts where a question is accepted, every move keeps the invariant and makes the measure fall, and when
-- the moves end, registers and memory have what the run leaves.
use mathlib.Core.Bool.{false≢true}
use mathlib.Core.List.{List, [], append-nil}
use mathlib.Core.Path.{◌≡◌, refl, sym, ◌∙◌, ap, subst}
use Prim.Native.Nat.{ℕ, suc, ◌/◌, ◌≤◌, ◌<◌}
use native.Mathlib.Nat.{sub-zero}
use native.Mathlib.Omega.{arith}
use lib.Dec.{ltb}
use lib.ListN.{length, take-append-drop}
use lib.Seq.{take-length, drop-length}
use Rattle.saiga.specs.Values.{Ty, base}
use Rattle.saiga.specs.declared.Value.{Value}
use Rattle.saiga.specs.declared.Value.TheVariants.{Unit as unit}
use Rattle.saiga.specs.Sheet.{Sheet, node_count, accepted, check_sheet, question_scope, context}
use Rattle.saiga.specs.Caching.{Entry, Counted, Due, State, Ending, with_value, Reason, by, Ended, due_at}
use Rattle.saiga.specs.Tally.{tally}
use Rattle.saiga.specs.Runs.{Runs}
use Rattle.saiga.specs.Store.{check_store, entries_bytes, left_store}
use Rattle.saiga.specs.Expressions.{Expr}
use Rattle.saiga.specs.Ask.{lent, check_question, asked, reason_number, ended_answer, outcome, run_question}
use Rattle.saiga.specs.Sound.{RunningIn, EntryIn, All}
use Rattle.saiga.proofs.Accepted.{accepted-sheet}
use Rattle.saiga.proofs.Entries.{store_in}
use Rattle.saiga.proofs.Preservation.{put_in, DueIn, due_in}
use Rattle.saiga.proofs.Calls.{question-runs, question-in}
use Rattle.sheets.specs.Scan.{Indexed}
use Rattle.expressions.specs.Noted.{WidthOf}
use Rattle.engine.specs.RunningPiece.{piece_in, rest_of}
use Rattle.engine.specs.Machine.{Machine, Next, by_move, by_step, open_forms, state_of}
use Rattle.engine.specs.Good.{Pieces, Good}
use Rattle.engine.specs.Cost.{measure}
use Rattle.engine.proofs.Apart.{apart-on}
use Rattle.engine.proofs.Bounds.{whole-short, move-falls, small-on, steps_on, represents-sized}
use Rattle.engine.proofs.Simulation.{Uncounted, same, written, Simulates, simulates, good-on, runs_on}
use Rattle.engine.proofs.Start.{whole-accepted, start, start_small, question-start, pieces}
use Rattle.engine.specs.Decode.{frame_limit, forms_size, sheet_in, sheet_of, entries_of, frames_in, mode_of, machine_of}
use Rattle.engine.specs.Steps.{Memory, Stepped, goes, waits, step_of}
use Rattle.engine.specs.Steps as Steps
use Rattle.engine.specs.declared.Registers.{Registers}
use Rattle.engine.specs.Represents.{machine_in, HoldsIn, Represents, Matches, PacksIn}
use Rattle.engine.specs.Loop.{Invariant, StepDue, started, Final}
use Rattle.engine.proofs.Whole.{step-whole}
use Rattle.engine.proofs.Left.{store-moves, left-on}

-- ---- The start

pub question-short : (s : Sheet) (q : List ℕ) (e : Expr) → check_question s q ≡ accepted e → length q ≤ 256
unfolding check_question
question-short s q e h = whole-short (question_scope s) q e (whole-accepted s _ e h)

module _ (sheet question store words forms : List ℕ) (kept : ℕ) (any : Value) (entries : List Entry) (passes : check_store (sheet_of sheet) store kept ≡ accepted entries) where
  abbrev lent-memory : Memory
  lent-memory = record { store = store; words = words; forms = forms }

  pub start-machine : machine_in sheet question lent-memory (started question kept any) ≡ start question entries
  unfolding machine_of mode_of frames_in rest_of piece_in entries_of
  start-machine = rw (passes, sub-zero, take-length)

  start-holds : length words ≡ frame_limit → length forms ≡ forms_size → HoldsIn sheet question lent-memory (started question kept any)
  unfolding frames_in open_forms piece_in
  start-holds words_size forms-size =
      record {
        words_size = words_size;
        forms-size = forms-size;
        few = omega arith;
        counted = refl;
        from = omega arith;
        to = omega arith;
        placed = λ k h. absurd (omega arith);
        entries = entries;
        stored = passes;
      }

-- what a call leaves that keeps nothing more
left-none : (store : List ℕ) (kept : ℕ) (entries : List Entry) → length entries ≡ kept → left_store store kept entries ≡ store
unfolding left_store entries_bytes
left-none store kept entries count = rw (← count, drop-length, append-nil, take-append-drop)

start-at : (sheet index question : List ℕ) (budget : ℕ) (store words forms : List ℕ) (kept : ℕ) (any : Value) (entries : List Entry) (e : Expr)
    → check_sheet sheet ≡ accepted (sheet_of sheet) → Indexed sheet (sheet_of sheet) index
    → check_store (sheet_of sheet) store kept ≡ accepted entries → check_question (sheet_of sheet) question ≡ accepted e
    → length words ≡ frame_limit → length forms ≡ forms_size
    → Invariant sheet index question budget store kept (run_question (sheet_of sheet) (length store / 12) budget entries e)
    record { store = store; words = words; forms = forms } (started question kept any)
unfolding asked question_scope
start-at sheet index question budget store words forms kept any entries e accepts index_of passes form words_size forms-size =
    let s = sheet_of sheet in
    let machine = start-machine sheet question store words forms kept any entries passes in
    let (good, state) = question-start s question e form entries in
    let (B, typed) = question-in sheet s accepts question e form in
    let count = (store_in s store kept entries passes).count in
    record {
      represents = record {
        accepts = accepts;
        index_of = index_of;
        holds = start-holds sheet question store words forms kept any entries passes words_size forms-size;
        good = rw machine good;
        apart = rw machine (unfold open_forms in tt);
        small = rw machine (start_small question entries (question-short s question e form));
        type = B;
        typed = rw (machine, state) (put_in 0 unit (λ n. absurd (false≢true n)) (λ n. absurd (false≢true n)) typed);
      };
      runs = rw (machine, state) (question-runs s (length store / 12) budget entries e);
      left = rw machine (sym (left-none store kept entries count));
      room = refl;
      lent_kept = omega arith;
      within = omega arith;
    }

pub sheet-is : (sheet : List ℕ) (s : Sheet) → check_sheet sheet ≡ accepted s → s ≡ sheet_of sheet
unfolding sheet_in
sheet-is sheet s ok = rw ok

pub invariant-start : (sheet index question : List ℕ) (budget : ℕ) (store words forms : List ℕ) (kept : ℕ) (any : Value)
    (s : Sheet) (entries : List Entry) (e : Expr)
    → check_sheet sheet ≡ accepted s → Indexed sheet s index → check_store s store kept ≡ accepted entries
    → check_question s question ≡ accepted e → length words ≡ frame_limit → length forms ≡ forms_size
    → Invariant sheet index question budget store kept (run_question s (length store / 12) budget entries e)
    record { store = store; words = words; forms = forms } (started question kept any)
invariant-start sheet index question budget store words forms kept any s entries e accepts index_of passes form words_size forms-size =
    let same = sheet-is sheet s accepts in
    rw same
    (start-at sheet index question budget store words forms kept any entries e (rw same at accepts) (rw same at index_of)
    (rw same at passes) (rw same at form) words_size forms-size)

-- ---- A move of the machine

module _ (s : Sheet) (bytes : List ℕ) (ok : check_sheet bytes ≡ accepted s) (capacity budget : ℕ) (T : Ty) where
  -- a state of a type, whose entries are of theirs
  abbrev Typed : State → Type 0
  Typed st = All (EntryIn (node_count s) s.attributes) st.entries × RunningIn (node_count s) s.attributes st.term T

  pub is-due : (st : State) → Typed st → {d : Due} → due_at (context s) capacity budget st ≡ d → DueIn (node_count s) s.attributes T d
  unfolding due_at
  is-due st (all, t) e =
      subst (DueIn (node_count s) s.attributes T) e
      (due_in (node_count s) s.attributes (context s) (accepted-sheet bytes s ok).context-in st.entries all (ltb st.steps budget) [] st.term T t)

  uncounted-in : (st st' : State) → Typed st → Uncounted s capacity budget st st' → RunningIn (node_count s) s.attributes st'.term T
  uncounted-in st st' t (same is) = rw is t.1
  uncounted-in st st' t (written e u d is) = rw is (is-due st t d).1

  next-in : (M M' : Machine) → Good s M → Typed (state_of s M) → Next s capacity budget M M' → RunningIn (node_count s) s.attributes (state_of s M').term T
  unfolding state_of
  next-in M M' good t (by_move e) = uncounted-in (state_of s M) (state_of s M') t (rw e at (simulates s capacity budget (pieces bytes s ok) M good))
  next-in M M' good t (by_step r e) =
      let (u, d, n) = rw e at (simulates s capacity budget (pieces bytes s ok) M good) in
      uncounted-in (record { term = u; entries = M.entries; steps = suc M.steps }) (state_of s M') (t.0, (is-due (state_of s M) t d).1) n

-- ---- A move of the code

entries-are : (sheet question : List ℕ) (mem : Memory) (m : Registers) (h : HoldsIn sheet question mem m) → (machine_in sheet question mem m).entries ≡ h.entries
unfolding machine_of entries_of
entries-are sheet question mem m h = rw h.stored

module _ {sheet index question : List ℕ} {budget : ℕ} {first : List ℕ} {lent : ℕ} {whole : Ended} {mem : Memory} {m : Registers}
    (inv : Invariant sheet index question budget first lent whole mem m) where
  abbrev s : Sheet
  s = sheet_of sheet

  abbrev M : Machine
  M = machine_in sheet question mem m

  abbrev capacity : ℕ
  capacity = length mem.store / 12

  abbrev r : Represents sheet index question mem m
  r = inv.represents

  abbrev pub rules : Pieces s
  rules = pieces sheet s r.accepts

  runs : Runs (context s) capacity budget (state_of s M) whole
  runs = rw inv.room inv.runs

  pub typed : Typed s sheet r.accepts capacity budget (base r.type) (state_of s M)
  unfolding state_of
  typed = (rw (entries-are sheet question mem m r.holds) (store_in s mem.store m.kept _ r.holds.stored).entries-in, r.typed)

  -- the run of a machine that is next, by either kind of move
  next-runs : {M' : Machine} → Next s capacity budget M M' → Runs (context s) capacity budget (state_of s M') whole
  next-runs (by_move e) = runs_on s capacity budget rules M r.good e runs
  next-runs (by_step c e) = runs_on s capacity budget rules M r.good e runs

  ended : (ending : Ending) → whole ≡ record { ending = ending; entries = M.entries; steps = M.steps } → Final first lent whole ending mem m
  unfolding machine_of
  ended ending is =
      record {
        ending_is = ap (λ w. w.ending) is;
        steps_are = ap (λ w. w.steps) is;
        kept_are = ap (λ w. length w.entries) is ∙ ap length (entries-are sheet question mem m r.holds) ∙ (store_in s mem.store m.kept _ r.holds.stored).count;
        store_is = rw is inv.left;
      }

  module _ (limit skip packed : ℕ) (width : WidthOf (rest_of sheet question m.forms m.at m.end) skip) (packs : PacksIn mem m packed) where
    abbrev step : Stepped
    step = step_of sheet index question budget limit skip packed mem m

    pub matches : {st : Stepped} → step ≡ st → Matches sheet question capacity budget limit m M st
    matches e = subst (Matches sheet question capacity budget limit m M) e (step-whole sheet index question budget limit skip packed mem m r width packs)

    module _ {m' : Registers} {mem' : Memory} (e : step ≡ goes m' mem') where
      pub invariant-on : Invariant sheet index question budget first lent whole mem' m'
      unfolding machine_of
      invariant-on =
          let (next, holds, size) = matches e in
          let M' = machine_in sheet question mem' m' in
          let changed = store-moves sheet index mem m question budget limit skip packed e in
          let was = rw (entries-are sheet question mem m r.holds) at inv.left in
          let (left, room, lent_kept) = left-on s first lent changed r.holds.stored holds.stored inv.room inv.lent_kept was in
          record {
            represents = record {
              accepts = r.accepts;
              index_of = r.index_of;
              holds = holds;
              good = good-on s capacity budget rules r.good next;
              apart = apart-on r.apart next;
              small = small-on rules r.good r.small next;
              type = r.type;
              typed = next-in s sheet r.accepts capacity budget (base r.type) M M' r.good typed next;
            };
            runs = rw (← size, room) at (next-runs next);
            left = rw (entries-are sheet question mem' m' holds) left;
            room = room;
            lent_kept = lent_kept;
            within = (steps_on next inv.within).1;
          }

      -- the machine's move, and what it costs
      pub invariant-next : Next s capacity budget M (machine_in sheet question mem' m')
      invariant-next = (matches e).0

      pub invariant-falls : measure budget (machine_in sheet question mem' m') < measure budget M
      unfolding machine_of
      invariant-falls = move-falls (represents-sized r) inv.within invariant-next

    pub invariant-waits : step ≡ waits → StepDue sheet question (length first / 12) budget mem m × (limit ≤ m.steps) × (m.steps < budget)
    invariant-waits e =
        let (rule, M', taken, reached, left) = matches e in
        let (next, due, _) = subst (Simulates s capacity budget (state_of s M)) taken (simulates s capacity budget rules M r.good) in
        (subst (λ size. StepDue sheet question (size / 12) budget mem m) inv.room (record { rule = rule; next = next; due = due }), reached, left)

    pub invariant-finishes : step ≡ Steps.finishes → Final first lent whole (with_value m.value) mem m
    invariant-finishes e = ended (with_value m.value) (runs_on s capacity budget rules M r.good (matches e) runs)

    pub invariant-stops : {n : ℕ} → step ≡ Steps.stops n → (c : Reason) × (reason_number c ≡ n) × Final first lent whole (by c) mem m
    invariant-stops e =
        let (c, stopped, number) = matches e in
        (c, number, ended (by c) (runs_on s capacity budget rules M r.good stopped runs))

-- ---- The answer

-- what the call brings: its store is the memory's at the end of its run
pub final-outcome : {first : List ℕ} {kept : ℕ} {whole : Ended} {ending : Ending} {mem : Memory} {m : Registers} → Final first kept whole ending mem m
    → (taken : List Counted) → outcome (lent first kept) whole taken ≡ record { answer = ended_answer whole; tally = tally taken; store = mem.store }
unfolding outcome
final-outcome f taken = rw f.store_is
