-- A question call on bytes (document 01, "Stops by origin" and "Contracts").
use Rattle.std.specs.Prelude.{cond, List, ℕ, suc, ◌*◌, leb, length, replicate, ℤ, pos}
use Rattle.std.specs.Prelude.{Option, None as none, Some as some}
use Rattle.saiga.specs.Limits.{budget_limit, tally_rows}
use Rattle.saiga.specs.Values.{unit_t, Ty, base, ◌⇒◌, unit, type_code, decimal}
use Rattle.saiga.specs.Expressions.{Expr, Whole, no_expression, expression, read_whole}
use Rattle.saiga.specs.Types.{infer}
use Rattle.saiga.specs.Sheet.{Sheet, Checked, refused◌at_place◌, accepted, check_sheet, question_scope, context}
use Rattle.saiga.specs.Terms.{Term, put}
use Rattle.saiga.specs.Plain.{on_null, by_overflow}
use Rattle.saiga.specs.Caching.{Entry, Counted, Reason, as_plain, circle, spent, depth, State, with_value, by, Ended, run}
use Rattle.saiga.specs.Tally.{trace, tally}
use Rattle.saiga.specs.Store.{capacity, check_store, left_store}

-- ---- What a call has, and what it brings

-- "The store is a lent run of entries of 12 bytes .. and a number kept": what a call is lent, and what it leaves for the next.
pub record Lent : Type 0 where
  pub store : List ℕ
  pub kept : ℕ

abbrev pub lent : List ℕ → ℕ → Lent
lent store kept = record { store = store; kept = kept }

-- A call has "any question bytes and any budget" (document 01, "Contracts").
pub record Call : Type 0 where
  pub question : List ℕ
  pub budget : ℕ

abbrev pub asking : List ℕ → ℕ → Call
asking question budget = record { question = question; budget = budget }

-- "An answer has number (0 for a value), place, type, value, steps, kept."
pub record Answer : Type 0 where
  pub number : ℕ
  pub place : ℕ
  pub type : ℕ
  pub value : ℤ
  pub steps : ℕ
  pub kept : ℕ

-- What a call brings: its answer, "a tally with each answer" (F-2 of document 02) and every byte of the store.
pub record Outcome : Type 0 where
  pub answer : Answer
  pub tally : List ℕ
  pub store : List ℕ

-- "Under 1 to 13 steps are 0 and kept and store are as lent"; "1 to 13 bring zeros" (F-2).
unfoldable pub refusal : Lent → ℕ → ℕ → Outcome
refusal m number place =
    record {
      answer = record { number = number; place = place; type = 0; value = pos 0; steps = 0; kept = m.kept };
      tally = replicate tally_rows 0;
      store = m.store;
    }

-- "12 question not of its form. 13 question not of base type."
unfoldable pub of_base_type : Option Ty → Expr → Checked Expr
of_base_type none e = refused 13 at_place 0
of_base_type (some (base B)) e = accepted e
of_base_type (some (B ⇒ T)) e = refused 13 at_place 0

unfoldable pub check_type : Sheet → Whole → Checked Expr
check_type s no_expression = refused 12 at_place 0
check_type s (expression e) = of_base_type (infer s.attributes unit_t e) e

unfoldable pub check_question : Sheet → List ℕ → Checked Expr
check_question s question = check_type s (read_whole (question_scope s) question)

-- The question as it runs. It has neither 0x30 nor 0x31, so what is put for them is never used.
unfoldable pub asked : {F : Type 0} → Expr → Term F
asked e = put 0 unit e

unfoldable pub reason_number : Reason → ℕ
reason_number (as_plain on_null) = 14
reason_number (as_plain by_overflow) = 17
reason_number circle = 20
reason_number spent = 15
reason_number depth = 16

-- "Under any stop type and value are 0."
unfoldable pub ended_answer : Ended → Answer
ended_answer end =
    let kept = length end.entries in
    elim end.ending [
      | with_value v ↦ record { number = 0; place = 0; type = type_code v; value = decimal v; steps = end.steps; kept = kept }
      | by reason ↦ record { number = reason_number reason; place = 0; type = 0; value = pos 0; steps = end.steps; kept = kept }
    ]

-- "Stops 14 to 16 bring the tally so far" (F-2), and 17 and 20 leave "store and tally as 14 does" (F-4, F-9): `taken` are the rules of the steps that
-- were counted.
unfoldable pub outcome : Lent → Ended → List Counted → Outcome
outcome m end taken =
    record { answer = ended_answer end; tally = tally taken; store = left_store m.store m.kept end.entries }

-- The run of a question, and the steps that it counts.
abbrev pub first : List Entry → Expr → State
first entries e = record { term = asked e; entries = entries; steps = 0 }

unfoldable pub run_question : Sheet → ℕ → ℕ → List Entry → Expr → Ended
run_question s capacity budget entries e = run (context s) capacity budget (suc (2 * budget)) (first entries e)

unfoldable pub trace_question : Sheet → ℕ → ℕ → List Entry → Expr → List Counted
trace_question s capacity budget entries e = trace (context s) capacity budget (suc (2 * budget)) (first entries e)

-- ---- The checks of a call

-- One check after another: the first that refuses is the call's.
infixr 20 ◌then_check◌
unfoldable pub ◌then_check◌ : {A B : Type 0} → Checked A → (A → Checked B) → Checked B
(refused number at_place place) then_check next = refused number at_place place
(accepted x) then_check next = next x

-- "11 budget above 1,000,000."
unfoldable pub check_budget : ℕ → Checked (Unit {0})
check_budget budget = cond (leb budget budget_limit) (accepted tt) (refused 11 at_place 0)

-- A call that no check refuses: what its sheet, its kept entries and its question say.
pub record AcceptedCall : Type 0 where
  pub sheet : Sheet
  pub entries : List Entry
  pub question : Expr

-- "Order: 1, then commands from the front and in each command 2 to 7, then 8 to 13." The sheet's check makes 1 to 8, the store's 9 and 10.
unfoldable pub check_call : List ℕ → Lent → Call → Checked AcceptedCall
check_call sheet m c =
    check_sheet sheet then_check λ s.
    check_store s m.store m.kept then_check λ entries.
    check_budget c.budget then_check λ _.
    check_question s c.question then_check λ e.
    accepted record { sheet = s; entries = entries; question = e }

-- ---- The call

-- A call that is refused, or that runs.
unfoldable pub answered : Lent → Call → Checked AcceptedCall → Outcome
answered m c (refused number at_place place) = refusal m number place
answered m c (accepted a) =
    outcome m (run_question a.sheet (capacity m.store) c.budget a.entries a.question)
    (trace_question a.sheet (capacity m.store) c.budget a.entries a.question)

-- A question call: the sheet's bytes, what is lent, and the question with its budget.
unfoldable pub ask : List ℕ → Lent → Call → Outcome
ask sheet m c = answered m c (check_call sheet m c)
