-- Runs as relations, step by step.
use Rattle.std.specs.Prelude.{List, [], ◌∷◌, ◌≡◌, ℕ, suc}
use Rattle.saiga.specs.Values.{Value}
use Rattle.saiga.specs.Expressions.{Expr}
use Rattle.saiga.specs.Caching.{Entry, Running, write, finished, counts, writes, halts, Counted, Reason, State, with_value, by, Ended, due_at}

-- The states that a run comes to, from the first.
pub data Reaches (context : ℕ → ℕ → Expr) (capacity budget : ℕ) (first : State) : State → Type 0 where
  at_first : Reaches context capacity budget first first
  by_counted : {st : State} {r : Counted} {t : Running} → Reaches context capacity budget first st → due_at context capacity budget st ≡ counts r t
      → Reaches context capacity budget first (record { term = t; entries = st.entries; steps = suc st.steps })
  by_writing : {st : State} {n : Entry} {t : Running} → Reaches context capacity budget first st → due_at context capacity budget st ≡ writes n t
      → Reaches context capacity budget first (record { term = t; entries = write capacity st.entries n; steps = st.steps })

-- A finished run, in which only the outcomes of the steps end it. The run of a call is one (RunEnds.antt).
pub data Runs (context : ℕ → ℕ → Expr) (capacity budget : ℕ) : State → Ended → Type 0 where
  ends_value : {st : State} {v : Value} → due_at context capacity budget st ≡ finished v
      → Runs context capacity budget st (record { ending = with_value v; entries = st.entries; steps = st.steps })
  ends_by : {st : State} {r : Reason} → due_at context capacity budget st ≡ halts r
      → Runs context capacity budget st (record { ending = by r; entries = st.entries; steps = st.steps })
  goes_counted : {st : State} {r : Counted} {t : Running} {e : Ended} → due_at context capacity budget st ≡ counts r t
      → Runs context capacity budget (record { term = t; entries = st.entries; steps = suc st.steps }) e → Runs context capacity budget st e
  goes_writing : {st : State} {n : Entry} {t : Running} {e : Ended} → due_at context capacity budget st ≡ writes n t
      → Runs context capacity budget (record { term = t; entries = write capacity st.entries n; steps = st.steps }) e
      → Runs context capacity budget st e

-- The rules of the steps that such a run counts. The trace of a call is one (RunEnds.antt).
pub data Traces (context : ℕ → ℕ → Expr) (capacity budget : ℕ) : State → List Counted → Type 0 where
  none_value : {st : State} {v : Value} → due_at context capacity budget st ≡ finished v → Traces context capacity budget st []
  none_by : {st : State} {r : Reason} → due_at context capacity budget st ≡ halts r → Traces context capacity budget st []
  one_counted : {st : State} {r : Counted} {t : Running} {l : List Counted} → due_at context capacity budget st ≡ counts r t
      → Traces context capacity budget (record { term = t; entries = st.entries; steps = suc st.steps }) l
      → Traces context capacity budget st (r ∷ l)
  past_writing : {st : State} {n : Entry} {t : Running} {l : List Counted} → due_at context capacity budget st ≡ writes n t
      → Traces context capacity budget (record { term = t; entries = write capacity st.entries n; steps = st.steps }) l
      → Traces context capacity budget st l
