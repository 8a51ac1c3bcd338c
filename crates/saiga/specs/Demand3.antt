-- What is kept can never change an answer: the engine's calls against plain Saiga, over every list of questions
-- (document 01, "Contracts": "Demand 3 is a single claim over every list"; document 02, F-4: "three endings, value, null and overflow", and F-9 on
-- circles).
use Rattle.std.specs.Prelude.{List, ◌∷◌, ◌++◌, ◌⊎◌, ◌≡◌, ℕ, ◌*◌, ◌≤◌, length}
use Rattle.saiga.specs.Limits.{entry_width, entry_limit, budget_limit}
use Rattle.saiga.specs.Values.{Value, type_code, decimal}
use Rattle.saiga.specs.Expressions.{Expr}
use Rattle.saiga.specs.Sheet.{Sheet, accepted, check_sheet, context}
use Rattle.saiga.specs.Plain.{NoValue, on_null, by_overflow, EndsWithValue, EndsWithout, RunsForEver}
use Rattle.saiga.specs.Ask.{Lent, Call, asking, Answer, Outcome, asked, check_question, ask}
use Rattle.saiga.specs.Calls.{leaves, after_calls, answers}

-- "It ends with a value or on null, and n is the count then", or by overflow: the endings and the n of plain Saiga, on an accepted sheet and
-- question.
pub data PlainEnding : Type 0 where
  a_value : Value → PlainEnding
  no_value : NoValue → PlainEnding

unfoldable pub PlainEnds : Sheet → Expr → PlainEnding → ℕ → Type 0
PlainEnds s e (a_value v) n = EndsWithValue (context s) (asked e) v n
PlainEnds s e (no_value why) n = EndsWithout (context s) why (asked e) n

-- "The ending of a value is number 0 with that type and value, that on null is number 14"; that by overflow is 17.
unfoldable pub Brings : Answer → PlainEnding → Type 0
Brings r (a_value v) = (r.number ≡ 0) × (r.type ≡ type_code v) × (r.value ≡ decimal v)
Brings r (no_value on_null) = r.number ≡ 14
Brings r (no_value by_overflow) = r.number ≡ 17

-- an answer with one of these endings
unfoldable pub HasEnding : Answer → Type 0
HasEnding r = (r.number ≡ 0) ⊎ (r.number ≡ 14) ⊎ (r.number ≡ 17)

-- "The first is lent a store of any capacity from 0 to 1,024, any bytes, kept 0".
pub record First (capacity : ℕ) (m : Lent) : Type 0 where
  pub within : capacity ≤ entry_limit
  pub size : length m.store ≡ entry_width * capacity
  pub none_kept : m.kept ≡ 0

-- A place in a list of calls is what stands before it. The outcome there of a question with a budget:
abbrev pub outcome_at : List ℕ → Lent → List Call → List ℕ → ℕ → Outcome
outcome_at sheet first before question budget = ask sheet (after_calls sheet first before) (asking question budget)

-- What is claimed of the bytes of an accepted sheet s. The list is any list of calls, with any question bytes and any budgets.
pub record OfSheet (sheet : List ℕ) (s : Sheet) : Type 0 where
  -- Places: the answers of a whole list are those of the calls before a place, then the one that `outcome_at` gives, then those of the
  -- calls after it, which begin with the store that it left.
  pub places :
      (first : Lent) (before : List Call) (question : List ℕ) (budget : ℕ) (after : List Call) →
      let o = outcome_at sheet first before question budget in
      answers sheet first (before ++ asking question budget ∷ after)
      ≡ answers sheet first before ++ o.answer ∷ answers sheet (leaves o) after
  -- Complete: if plain Saiga ends with a value, on null or by overflow in n steps, every permitted budget of n or more, put there, brings
  -- that ending in at most n steps, or stop 16.
  pub complete :
      (capacity : ℕ) (first : Lent) → First capacity first → (before : List Call) (question : List ℕ) (e : Expr) →
      check_question s question ≡ accepted e → (ending : PlainEnding) (n : ℕ) → PlainEnds s e ending n →
      (budget : ℕ) → n ≤ budget → budget ≤ budget_limit →
      let r = (outcome_at sheet first before question budget).answer in
      (Brings r ending × (r.steps ≤ n)) ⊎ (r.number ≡ 16)
  -- Sound: whatever the budget, such an ending is reported only if plain Saiga comes to the same in no fewer steps.
  pub sound :
      (capacity : ℕ) (first : Lent) → First capacity first → (before : List Call) (question : List ℕ) (e : Expr) →
      check_question s question ≡ accepted e → (budget : ℕ) →
      let r = (outcome_at sheet first before question budget).answer in
      HasEnding r → (ending : PlainEnding) × (n : ℕ) × PlainEnds s e ending n × Brings r ending × (r.steps ≤ n)
  -- So never if plain Saiga runs for ever.
  pub never :
      (capacity : ℕ) (first : Lent) → First capacity first → (before : List Call) (question : List ℕ) (e : Expr) →
      check_question s question ≡ accepted e → RunsForEver (context s) (asked e) → (budget : ℕ) →
      HasEnding (outcome_at sheet first before question budget).answer → ⊥
  -- Circles: "a question gets this stop only if plain Saiga runs for ever on it, and one on which plain Saiga does so gets this stop, 15 or 16
  -- under every permitted budget" (F-9). Of plain Saiga itself PlainCircles.antt says when it does so.
  pub circles :
      (capacity : ℕ) (first : Lent) → First capacity first → (before : List Call) (question : List ℕ) (e : Expr) →
      check_question s question ≡ accepted e → (budget : ℕ) →
      (outcome_at sheet first before question budget).answer.number ≡ 20 → RunsForEver (context s) (asked e)
  pub for_ever :
      (capacity : ℕ) (first : Lent) → First capacity first → (before : List Call) (question : List ℕ) (e : Expr) →
      check_question s question ≡ accepted e → RunsForEver (context s) (asked e) → (budget : ℕ) → budget ≤ budget_limit →
      let number = (outcome_at sheet first before question budget).answer.number in
      (number ≡ 20) ⊎ (number ≡ 15) ⊎ (number ≡ 16)
  -- Larger stores: where the list brings such an ending, any larger store, given the same list and budgets, brings the same one there
  -- in no more steps.
  pub larger-stores :
      (capacity capacity' : ℕ) → capacity ≤ capacity' → (first first' : Lent) → First capacity first → First capacity' first' →
      (before : List Call) (question : List ℕ) (e : Expr) → check_question s question ≡ accepted e → (budget : ℕ) →
      let r = (outcome_at sheet first before question budget).answer in
      let r' = (outcome_at sheet first' before question budget).answer in
      HasEnding r → (r'.number ≡ r.number) × (r'.type ≡ r.type) × (r'.value ≡ r.value) × (r'.steps ≤ r.steps)
  -- Larger budgets: from any one store, right or wrong in its values, reached by a list or not, every larger permitted budget gives the
  -- same answer, all fields, and leaves the same store, every byte, unless the smaller budget's was 15.
  pub larger-budgets :
      (m : Lent) (question : List ℕ) (budget budget' : ℕ) → budget ≤ budget' → budget' ≤ budget_limit →
      let small = ask sheet m (asking question budget) in
      (small.answer.number ≡ 15 → ⊥) → ask sheet m (asking question budget') ≡ small

-- Demand 3: the claims hold of every sheet that the check accepts.
abbrev pub Demand3 : Type 0
Demand3 = (sheet : List ℕ) (s : Sheet) → check_sheet sheet ≡ accepted s → OfSheet sheet s
