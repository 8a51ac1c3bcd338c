-- Question calls on an accepted sheet, by the parts of their definition.
use mathlib.Core.Bool.{Bool, true, false, false≢true}
use mathlib.Core.Bool as Bool
use mathlib.Core.List.{List, ◌++◌}
use Rattle.std.specs.Prelude.{Option, None as none, Some as some}
use mathlib.Core.Path.{◌≡◌, refl, sym, ◌∙◌, ap, ap₂}
use Prim.Native.Nat.{ℕ, suc, ◌*◌, ◌≤◌, ◌<◌, zero-le}
use native.Mathlib.Omega.{arith}
use borrow.Author.Tests.{le-leb, lt-leb, leb-true, leb-false}
use lib.Dec.{leb}
use lib.ListN.{length}
use Rattle.saiga.specs.Limits.{budget_limit}
use Rattle.saiga.specs.Values.{Base, Ty, base, ◌⇒◌, unit, unit_t}
use Rattle.saiga.specs.Expressions.{Expr, Whole, no_expression, expression, read_whole}
use Rattle.saiga.specs.Types.{infer}
use Rattle.saiga.specs.Sheet.{Sheet, Checked, refused◌at_place◌, accepted, check_sheet, context, question_scope, node_count}
use Rattle.saiga.specs.Plain.{plain_at}
use Rattle.saiga.specs.Caching.{Entry, Counted, spent, by, Ended, State}
use Rattle.saiga.specs.Store.{capacity, check_store, left_store}
use Rattle.saiga.specs.Ask.{Lent, Call, asking, refusal, of_base_type, check_type, check_question, asked, outcome, first, run_question, trace_question, ◌then_check◌, check_budget, AcceptedCall, check_call, answered, ask}
use Rattle.saiga.specs.Calls.{leaves}
use Rattle.saiga.specs.Sound.{ExprIn, EntryIn, All}
use Rattle.saiga.proofs.Reading.{read-in}
use Rattle.saiga.proofs.Accepted.{accepted-sheet}
use Rattle.saiga.proofs.Preservation.{put_in, EndedIn, run_in, all_right}
use Rattle.saiga.proofs.Entries.{Appended, run-appends, store_in, left-passes, left-length}
use Rattle.saiga.proofs.Erasure.{Right, faithful-put, erase-put}
use Rattle.saiga.specs.Runs.{Runs, Traces}
use Rattle.saiga.proofs.RunEnds.{measure, forms-put, run_ends, run_is, trace-ends, trace-is}
use Rattle.saiga.proofs.AgainstPlain.{Follows, follows, larger-budget, larger-trace}
use Rattle.saiga.proofs.Endings.{kept_field, spent-number}

-- ---- A question as it runs

module _ (s : Sheet) (cap budget : ℕ) (entries : List Entry) (e : Expr) where
  abbrev start : State
  start = first entries e

  -- the bound of its recursion is above its measure
  enough : measure (context s) cap budget start < suc (2 * budget)
  unfolding measure asked
  enough = omega (arith, forms-put 0 unit e)

  pub question-runs : Runs (context s) cap budget start (run_question s cap budget entries e)
  unfolding run_question
  question-runs = run_ends (context s) cap budget (suc (2 * budget)) start enough

  pub question-is : {end : Ended} → Runs (context s) cap budget start end → run_question s cap budget entries e ≡ end
  unfolding run_question
  question-is r = run_is (context s) cap budget r (suc (2 * budget)) enough

  pub question-traces : Traces (context s) cap budget start (trace_question s cap budget entries e)
  unfolding trace_question
  question-traces = trace-ends (context s) cap budget (suc (2 * budget)) start enough

  pub trace-question-is : {l : List Counted} → Traces (context s) cap budget start l → trace_question s cap budget entries e ≡ l
  unfolding trace_question
  trace-question-is r = trace-is (context s) cap budget r (suc (2 * budget)) enough

  -- what the question adds to the store
  pub question-appends : Appended cap entries (run_question s cap budget entries e).entries
  unfolding run_question
  question-appends = run-appends (context s) cap budget (suc (2 * budget)) start

  -- what plain Saiga makes of the question
  pub question-follows : Right (context s) entries
      → Follows (context s) budget (asked e) (run_question s cap budget entries e).steps (run_question s cap budget entries e).ending
  unfolding asked plain_at
  question-follows right =
      follows (context s) cap budget question-runs right (faithful-put (context s) 0 unit e) (asked e) 0
      (ap some (sym (erase-put (context s) 0 unit e))) zero-le

-- ---- The checks of a call

-- What the checks of an accepted call found.
pub record Passed (sheet : List ℕ) (m : Lent) (c : Call) (a : AcceptedCall) : Type 0 where
  pub sheet-is : check_sheet sheet ≡ accepted a.sheet
  pub entries-are : check_store a.sheet m.store m.kept ≡ accepted a.entries
  pub permitted : c.budget ≤ budget_limit
  pub question-is : check_question a.sheet c.question ≡ accepted a.question

-- a chain that accepts has an accepting first check, and goes on with what it found
then-accepted : {A B : Type 0} (C : Checked A) (next : A → Checked B) {y : B} → (C then_check next) ≡ accepted y
    → (x : A) × (C ≡ accepted x) × (next x ≡ accepted y)
unfolding ◌then_check◌
then-accepted (refused number at_place place) next e = absurd (let z : ◌≡◌ {A = ℕ} 0 1 = cc in omega arith)
then-accepted (accepted x) next e = (x, refl, e)

pub budget-permitted : (budget : ℕ) {u : Unit {0}} → check_budget budget ≡ accepted u → budget ≤ budget_limit
unfolding check_budget
budget-permitted budget = go (leb budget budget_limit) refl
  where
    go : (b : Bool) → leb budget budget_limit ≡ b → {u : Unit {0}} → Bool.cond b (accepted tt) (refused 11 at_place 0) ≡ accepted u → budget ≤ budget_limit
    go true h e = leb-true budget budget_limit h
    go false h e = absurd (let z : ◌≡◌ {A = ℕ} 0 1 = cc in omega arith)

pub passed : (sheet : List ℕ) (m : Lent) (c : Call) {a : AcceptedCall} → check_call sheet m c ≡ accepted a → Passed sheet m c a
unfolding check_call
passed sheet m c {a} e =
    let (s, is-sheet, after-sheet) = then-accepted (check_sheet sheet) _ e in
    let (entries, is_Is_store, after_store) = then-accepted (check_store s m.store m.kept) _ after-sheet in
    let (_, is-budget, after-budget) = then-accepted (check_budget c.budget) _ after_store in
    let (x, is-question, found) = then-accepted (check_question s c.question) _ after-budget in
    let call : AcceptedCall = record { sheet = s; entries = entries; question = x } in
    let same : call ≡ a = cc in
    let all : Passed sheet m c call =
    record { sheet-is = is-sheet; entries-are = is_Is_store; permitted = budget-permitted c.budget is-budget; question-is = is-question } in
    rw same at all

-- An accepted call is answered by its run.
pub ask-runs : (sheet : List ℕ) (m : Lent) (c : Call) {a : AcceptedCall} → check_call sheet m c ≡ accepted a
    → ask sheet m c
    ≡ outcome m (run_question a.sheet (capacity m.store) c.budget a.entries a.question)
    (trace_question a.sheet (capacity m.store) c.budget a.entries a.question)
unfolding ask answered
ask-runs sheet m c e = rw e

-- A refused one is a refusal.
pub ask-refuses : (sheet : List ℕ) (m : Lent) (c : Call) {number place : ℕ} → check_call sheet m c ≡ refused number at_place place
    → ask sheet m c ≡ refusal m number place
unfolding ask answered
ask-refuses sheet m c e = rw e

-- ---- Calls

module _ (sheet : List ℕ) (s : Sheet) (ok : check_sheet sheet ≡ accepted s) where
  pub call-answered : (m : Lent) (entries : List Entry) (q : List ℕ) (budget : ℕ) (e : Expr) → check_store s m.store m.kept ≡ accepted entries
      → budget ≤ budget_limit → check_question s q ≡ accepted e
      → ask sheet m (asking q budget)
      ≡ outcome m (run_question s (capacity m.store) budget entries e) (trace_question s (capacity m.store) budget entries e)
  unfolding ask check_call answered check_budget ◌then_check◌
  call-answered m entries q budget e pass permitted form = rw (ok, pass, le-leb budget budget_limit permitted, form)

  pub call-over : (m : Lent) (entries : List Entry) (q : List ℕ) (budget : ℕ) → check_store s m.store m.kept ≡ accepted entries
      → budget_limit < budget → ask sheet m (asking q budget) ≡ refusal m 11 0
  unfolding ask check_call answered check_budget ◌then_check◌
  call-over m entries q budget pass over = rw (ok, pass, lt-leb budget budget_limit over)

  pub call-malformed : (m : Lent) (entries : List Entry) (q : List ℕ) (budget number place : ℕ) → check_store s m.store m.kept ≡ accepted entries
      → budget ≤ budget_limit → check_question s q ≡ refused number at_place place
      → ask sheet m (asking q budget) ≡ refusal m number place
  unfolding ask check_call answered check_budget ◌then_check◌
  call-malformed m entries q budget number place pass permitted form = rw (ok, pass, le-leb budget budget_limit permitted, form)

  call-refused : (m : Lent) (q : List ℕ) (budget number place : ℕ) → check_store s m.store m.kept ≡ refused number at_place place
      → ask sheet m (asking q budget) ≡ refusal m number place
  unfolding ask check_call answered check_budget ◌then_check◌
  call-refused m q budget number place pass = rw (ok, pass)

  -- ---- Larger budgets

  module _ (m : Lent) (q : List ℕ) (b b' : ℕ) (more : b ≤ b') (permitted : b' ≤ budget_limit) where
    budget-run : (entries : List Entry) (e : Expr) → ((run_question s (capacity m.store) b entries e).ending ≡ by spent → ⊥)
        → run_question s (capacity m.store) b' entries e ≡ run_question s (capacity m.store) b entries e
    budget-run entries e n =
        question-is s (capacity m.store) b' entries e
        (larger-budget (context s) (capacity m.store) b b' more (question-runs s (capacity m.store) b entries e) n)

    budget-trace : (entries : List Entry) (e : Expr) → ((run_question s (capacity m.store) b entries e).ending ≡ by spent → ⊥)
        → trace_question s (capacity m.store) b' entries e ≡ trace_question s (capacity m.store) b entries e
    budget-trace entries e n =
        let k = capacity m.store in
        trace-question-is s k b' entries e (larger-trace (context s) k b b' more (question-traces s k b entries e) (question-runs s k b entries e) n)

    pub budgets-agree : ((ask sheet m (asking q b)).answer.number ≡ 15 → ⊥)
        → ask sheet m (asking q b') ≡ ask sheet m (asking q b)
    unfolding outcome
    budgets-agree n = stored (check_store s m.store m.kept) refl
      where
        asked_of : (entries : List Entry) → check_store s m.store m.kept ≡ accepted entries → (c : Checked Expr) → check_question s q ≡ c
            → ask sheet m (asking q b') ≡ ask sheet m (asking q b)
        asked_of entries pass (refused number at_place place) form =
            call-malformed m entries q b' number place pass permitted form ∙ sym (call-malformed m entries q b number place pass (omega (arith, more, permitted)) form)
        asked_of entries pass (accepted e) form =
            let small = call-answered m entries q b e pass (omega (arith, more, permitted)) form in
            let unspent : (run_question s (capacity m.store) b entries e).ending ≡ by spent → ⊥ =
            λ h. n (ap (λ o. o.answer.number) small ∙ spent-number _ h) in
            call-answered m entries q b' e pass permitted form
            ∙ ap₂ (outcome m) (budget-run entries e unspent) (budget-trace entries e unspent)
            ∙ sym small

        stored : (c : Checked (List Entry)) → check_store s m.store m.kept ≡ c
            → ask sheet m (asking q b') ≡ ask sheet m (asking q b)
        stored (refused number at_place place) pass = call-refused m q b' number place pass ∙ sym (call-refused m q b number place pass)
        stored (accepted entries) pass = asked_of entries pass (check_question s q) refl

  -- ---- Types

  -- An accepted question is an expression of a base type, and so is all that it keeps and ends with.
  pub question-in : (q : List ℕ) (e : Expr) → check_question s q ≡ accepted e → (B : Base) × ExprIn (question_scope s) s.attributes unit_t e (base B)
  unfolding check_question check_type of_base_type question_scope
  question-in q e h = whole (read_whole (question_scope s) q) refl h
    where
      typed : (f : Expr) → read_whole (question_scope s) q ≡ expression f → (T : Option Ty) → infer s.attributes unit_t f ≡ T → of_base_type T f ≡ accepted e
          → (B : Base) × ExprIn (question_scope s) s.attributes unit_t e (base B)
      typed f w none t h = absurd (let z : ◌≡◌ {A = ℕ} 0 1 = cc in omega arith)
      typed f w (some (base B)) t h =
          let same : f ≡ e = cc in
          (B, rw (← same) (read-in (question_scope s) s.attributes unit_t q f (base B) refl w t))
      typed f w (some (B ⇒ T)) t h = absurd (let z : ◌≡◌ {A = ℕ} 0 1 = cc in omega arith)

      whole : (w : Whole) → read_whole (question_scope s) q ≡ w → check_type s w ≡ accepted e → (B : Base) × ExprIn (question_scope s) s.attributes unit_t e (base B)
      whole no_expression w h = absurd (let z : ◌≡◌ {A = ℕ} 0 1 = cc in omega arith)
      whole (expression f) w h = typed f w (infer s.attributes unit_t f) refl h

  pub question-typed : (q : List ℕ) (cap budget : ℕ) (entries : List Entry) (e : Expr) → check_question s q ≡ accepted e
      → All (EntryIn (node_count s) s.attributes) entries
      → (B : Base) × EndedIn (node_count s) s.attributes (base B) (run_question s cap budget entries e)
  unfolding run_question asked question_scope
  question-typed q cap budget entries e h typed =
      let t = question-in q e h in
      (t.0, run_in (node_count s) s.attributes (context s) (accepted-sheet sheet s ok).context-in cap budget (base t.0) _ _ typed (put_in 0 unit (λ n. absurd (false≢true n)) (λ n. absurd (false≢true n)) t.1))

  -- ---- What a call leaves

  -- A store that passes the checks with these entries.
  abbrev pub Passes : Lent → List Entry → Type 0
  Passes m entries = check_store s m.store m.kept ≡ accepted entries

  left_in : (m : Lent) (entries after : List Entry) → Passes m entries → Appended (capacity m.store) entries after
      → All (EntryIn (node_count s) s.attributes) after
      → (check_store s (left_store m.store m.kept after) (length after) ≡ accepted after) × (length (left_store m.store m.kept after) ≡ length m.store)
  left_in m entries after pass a t =
      let p = store_in s m.store m.kept entries pass in
      let fits : length entries ≤ capacity m.store = rw p.count p.fits in
      let room : length (entries ++ a.new) ≤ capacity m.store = rw a.appended at (a.room fits) in
      rw a.appended
      (left-passes s (accepted-sheet sheet s ok).nodes_bound m.store m.kept entries a.new pass (all_right entries (rw a.appended at t)) a.fresh room, left-length m.store m.kept entries a.new p.count room)

  module _ (m : Lent) (entries : List Entry) (pass : Passes m entries) where
    -- what an accepted question leaves passes the checks of the next call, and has the same capacity
    pub question-leaves : (q : List ℕ) (budget : ℕ) (e : Expr) → budget ≤ budget_limit → check_question s q ≡ accepted e
        → let after = leaves (ask sheet m (asking q budget)) in
        Passes after (run_question s (capacity m.store) budget entries e).entries × (length after.store ≡ length m.store)
    question-leaves q budget e permitted form =
        let k = capacity m.store in
        let typed = (question-typed q k budget entries e form (store_in s m.store m.kept entries pass).entries-in).1.entries-in in
        let left = left_in m entries (run_question s k budget entries e).entries pass (question-appends s k budget entries e) typed in
        rw (call-answered m entries q budget e pass permitted form) (unfold leaves outcome in rw kept_field left)

    -- A call leaves the store as lent, or it is an accepted question with a permitted budget.
    pub call-cases : (P : Lent → Type 0) (c : Call) → P m
        → ((e : Expr) → c.budget ≤ budget_limit → check_question s c.question ≡ accepted e → P (leaves (ask sheet m c))) → P (leaves (ask sheet m c))
    call-cases P c lent answered = budgeted (leb c.budget budget_limit) refl
      where
        as_lent : (number place : ℕ) → ask sheet m c ≡ refusal m number place → P (leaves (ask sheet m c))
        as_lent number place e = rw e (unfold refusal leaves in lent)

        formed : c.budget ≤ budget_limit → (d : Checked Expr) → check_question s c.question ≡ d → P (leaves (ask sheet m c))
        formed permitted (refused number at_place place) form =
            as_lent number place (call-malformed m entries c.question c.budget number place pass permitted form)
        formed permitted (accepted e) form = answered e permitted form

        budgeted : (b : Bool) → leb c.budget budget_limit ≡ b → P (leaves (ask sheet m c))
        budgeted true p = formed (leb-true c.budget budget_limit p) (check_question s c.question) refl
        budgeted false p = as_lent 11 0 (call-over m entries c.question c.budget pass (leb-false c.budget budget_limit p))

    -- A store left by a call passes the checks of the next, whatever its values are.
    pub left-store-passes : (c : Call) → (after : List Entry) × Passes (leaves (ask sheet m c)) after
    left-store-passes c =
        call-cases (λ l. (after : List Entry) × Passes l after) c (entries, pass)
        (λ e permitted form. (_, (question-leaves c.question c.budget e permitted form).0))
