-- The run of a call ends by its own stops: the number that bounds `run` is never reached.
use mathlib.Core.Bool.{Bool, true, false}
use mathlib.Core.Bool as Bool
use Rattle.std.specs.Prelude.{Option, None as none, Some as some}
use mathlib.Core.List.{List, [], ◌∷◌}
use mathlib.Core.Path.{◌≡◌, refl, sym, ap, ◌∙◌}
use Prim.Native.Nat.{ℕ, zero, suc, ◌+◌, ◌*◌, ◌-◌, ◌≤◌, ◌<◌, zero-le}
use native.Mathlib.Nat.{le_of_eq}
use native.Mathlib.Numerals.{add-one}
use native.Mathlib.Omega.{arith}
use borrow.Author.Tests.{ltb-true, ltb-false}
use lib.Dec.{ltb, eqb}
use Rattle.saiga.specs.Values.{Value, null, truth, apply}
use Rattle.saiga.specs.Expressions.{Expr, literal, if, application, attribute, this, parameter}
use Rattle.saiga.specs.Terms.{Occurrence, val, cond, app, attr, form, put}
use Rattle.saiga.specs.Plain.{on_null, by_overflow}
use Rattle.saiga.specs.Caching.{Entry, Running, kept, kept_or, write, Due, finished, counts, writes, halts, Counted, AppApp, AttrApp, Reason, as_plain, circle, spent, depth, due_part, count, app_app, circular, too_deep, attr_app, due, State, with_value, by, Ended, due_at, run}
use Rattle.saiga.specs.Tally.{trace}
use Rattle.saiga.specs.Runs.{Runs, ends_value, ends_by, goes_counted, goes_writing, Traces, none_value, none_by, one_counted, past_writing}

-- ---- What falls

-- how many forms an expression has
unfoldable pub forms : Running → ℕ
forms (val v) = 0
forms (cond c t e) = forms c + (forms t + forms e)
forms (app f x) = forms f + forms x
forms (attr n a x) = forms n + forms x
forms (form o e) = suc (forms e)

-- The run stops for its budget only where none is left.
abbrev Spends : Bool → Reason → Type 0
Spends b (as_plain why) = Unit {0}
Spends b circle = Unit {0}
Spends b spent = b ≡ false
Spends b depth = Unit {0}

-- Of what is due at an expression with n forms: a counted step needs budget and adds one form at most; CacheWrite takes one away.
data Falls (b : Bool) (n : ℕ) : Due → Type 0 where
  falls-finished : {v : Value} → Falls b n (finished v)
  falls-counts : {r : Counted} {t : Running} → b ≡ true → forms t ≤ suc n → Falls b n (counts r t)
  falls-writes : {e : Entry} {t : Running} → suc (forms t) ≤ n → Falls b n (writes e t)
  falls-halts : {r : Reason} → Spends b r → Falls b n (halts r)

falls-mono : {b : Bool} {m n : ℕ} {d : Due} → m ≤ n → Falls b m d → Falls b n d
falls-mono h falls-finished = falls-finished
falls-mono h (falls-counts {t = t} e l) = falls-counts {t = t} e (omega arith)
falls-mono h (falls-writes {t = t} l) = falls-writes {t = t} (omega arith)
falls-mono h (falls-halts s) = falls-halts s

falls-part : {b : Bool} {n : ℕ} (k : ℕ) (inside : Running → Running) (after : Value → Due)
    → ((t : Running) → forms (inside t) ≡ forms t + k) → {d : Due} → Falls b n d → ((v : Value) → Falls b (n + k) (after v))
    → Falls b (n + k) (due_part inside after d)
unfolding due_part
falls-part k inside after e (falls-finished {v}) g = g v
falls-part k inside after e (falls-counts {t = t} h l) g = falls-counts {t = inside t} h (omega (arith, e t))
falls-part k inside after e (falls-writes {t = t} l) g = falls-writes {t = inside t} (omega (arith, e t))
falls-part k inside after e (falls-halts s) g = falls-halts s

falls-count : (b : Bool) {n : ℕ} (r : Counted) (t : Running) → forms t ≤ suc n → Falls b n (count b r t)
unfolding count
falls-count true r t h = falls-counts refl h
falls-count false r t h = falls-halts {r = spent} refl

falls-app : (b : Bool) {n : ℕ} (a : Option Value) → Falls b n (app_app b a)
unfolding app_app forms
falls-app b (some v) = falls-count b AppApp (val v) zero-le
falls-app b none = falls-halts {r = as_plain by_overflow} tt

-- what a sheet writes has no form
pub forms-put : (n : ℕ) (v : Value) (e : Expr) → forms (put n v e) ≡ 0
unfolding forms put
forms-put n v (literal w) = refl
forms-put n v (if c t e) = omega (arith, forms-put n v c, forms-put n v t, forms-put n v e)
forms-put n v (application f x) = omega (arith, forms-put n v f, forms-put n v x)
forms-put n v (attribute m a x) = omega (arith, forms-put n v m, forms-put n v x)
forms-put n v this = refl
forms-put n v parameter = refl

forms-kept : (k : Option Value) (t : Running) → forms t ≡ 0 → forms (kept_or k t) ≡ 0
unfolding kept_or forms
forms-kept none t e = e
forms-kept (some v) t e = refl

forms-branch : (b : Bool) (n : ℕ) (t e : Running) → forms (Bool.cond b t e) ≤ suc (n + (forms t + forms e))
forms-branch true n t e = omega arith
forms-branch false n t e = omega arith

left-part : (m n : ℕ) → n + 0 ≤ m + n
left-part m n = omega arith

no_more : (n : ℕ) → 0 + n ≡ n + 0
no_more n = omega arith

one_left : (n : ℕ) → 1 ≤ n + 1
one_left n = omega arith

module _ (context : ℕ → ℕ → Expr) (s : List Entry) (b : Bool) where
  falls-attr : (os : List Occurrence) (o : Occurrence) (n : ℕ) → Falls b n (attr_app context s b os o)
  unfolding attr_app forms
  falls-attr os o n = go (eqb o.node null) (circular s os o) b refl (too_deep s os o)
    where
      t : Running
      t = form o (kept_or (kept s o) (put o.node o.parameter (context o.node o.attribute)))

      go : (z around c : Bool) → b ≡ c → (d : Bool)
          → Falls b n
          (Bool.cond z (halts (as_plain on_null))
          (Bool.cond around (halts circle) (Bool.cond c (Bool.cond d (halts depth) (counts (AttrApp o.attribute) t)) (halts spent))))
      go true around c e d = falls-halts {r = as_plain on_null} tt
      go false true c e d = falls-halts {r = circle} tt
      go false false true e true = falls-halts {r = depth} tt
      go false false true e false =
          let p = forms-kept (kept s o) (put o.node o.parameter (context o.node o.attribute)) (forms-put o.node o.parameter (context o.node o.attribute)) in
          falls-counts {t = t} e (omega arith)
      go false false false e d = falls-halts {r = spent} e

  falls : (os : List Occurrence) (t : Running) → Falls b (forms t) (due context s b os t)
  unfolding due forms
  falls os (val v) = falls-finished
  falls os (cond c t e) =
      falls-part (forms t + forms e) (λ c'. cond c' t e) _ (λ c'. refl) (falls os c)
      (λ v. falls-count b _ _ (forms-branch (truth v) (forms c) t e))
  falls os (app f x) =
      falls-part (forms x) (λ f'. app f' x) _ (λ f'. refl) (falls os f)
      (λ v. falls-mono (left-part (forms f) (forms x))
      (falls-part 0 (λ x'. app (val v) x') _ (λ x'. no_more (forms x')) (falls os x) (λ w. falls-app b (apply v w))))
  falls os (attr n a x) =
      falls-part (forms x) (λ n'. attr n' a x) _ (λ n'. refl) (falls os n)
      (λ v. falls-mono (left-part (forms n) (forms x))
      (falls-part 0 (λ x'. attr (val v) a x') _ (λ x'. no_more (forms x')) (falls os x) (λ w. falls-attr os _ _)))
  falls os (form o e) =
      falls-mono (le_of_eq (add-one _)) (falls-part 1 (λ e'. form o e') _ (λ e'. sym (add-one _)) (falls (o ∷ os) e) (λ v. falls-writes (one_left (forms e))))

module _ (context : ℕ → ℕ → Expr) (capacity budget : ℕ) where
  -- what falls with each step of the run
  unfoldable pub measure : State → ℕ
  measure st = 2 * (budget - st.steps) + forms st.term

  falls_at : (st : State) → Falls (ltb st.steps budget) (forms st.term) (due_at context capacity budget st)
  unfolding due_at
  falls_at st = falls context st.entries (ltb st.steps budget) [] st.term

  counted-falls : (st : State) (t : Running) (r : Counted) → Falls (ltb st.steps budget) (forms st.term) (counts r t)
      → measure record { term = t; entries = st.entries; steps = suc st.steps } < measure st
  unfolding measure
  counted-falls st t r (falls-counts h l) = let m = ltb-true st.steps budget h in omega arith

  writing-falls : (st : State) (t : Running) (n : Entry) (s : List Entry) → Falls (ltb st.steps budget) (forms st.term) (writes n t)
      → measure record { term = t; entries = s; steps = st.steps } < measure st
  unfolding measure
  writing-falls st t n s (falls-writes l) = omega arith

  -- A counted step is taken only with budget left, and 15 is given only where the whole budget is used.
  pub counted-within : (st : State) (t : Running) (r : Counted) → due_at context capacity budget st ≡ counts r t → st.steps < budget
  counted-within st t r e = go (rw e at (falls_at st))
    where
      go : Falls (ltb st.steps budget) (forms st.term) (counts r t) → st.steps < budget
      go (falls-counts h l) = ltb-true st.steps budget h

  pub spent-used : (st : State) → due_at context capacity budget st ≡ halts spent → budget ≤ st.steps
  spent-used st e = go (rw e at (falls_at st))
    where
      go : Falls (ltb st.steps budget) (forms st.term) (halts spent) → budget ≤ st.steps
      go (falls-halts h) = ltb-false st.steps budget h

  -- ---- What follows what is due

  -- an ended run, and its trace, after what is due at its state
  abbrev pub After : State → Ended → Due → Type 0
  After st end (finished v) = end ≡ record { ending = with_value v; entries = st.entries; steps = st.steps }
  After st end (counts r t) = Runs context capacity budget (record { term = t; entries = st.entries; steps = suc st.steps }) end
  After st end (writes n t) = Runs context capacity budget (record { term = t; entries = write capacity st.entries n; steps = st.steps }) end
  After st end (halts r) = end ≡ record { ending = by r; entries = st.entries; steps = st.steps }

  pub after : {st : State} {end : Ended} {d : Due} → Runs context capacity budget st end → due_at context capacity budget st ≡ d → After st end d
  after run e = rw e at (go run)
    where
      go : {st : State} {end : Ended} → Runs context capacity budget st end → After st end (due_at context capacity budget st)
      go (ends_value d) = rw d
      go (ends_by d) = rw d
      go (goes_counted d rest) = rw d rest
      go (goes_writing d rest) = rw d rest

  abbrev pub TracesAfter : State → List Counted → Due → Type 0
  TracesAfter st l (finished v) = l ≡ []
  TracesAfter st l (counts r t) =
      (rest : List Counted) × (l ≡ r ∷ rest) × Traces context capacity budget (record { term = t; entries = st.entries; steps = suc st.steps }) rest
  TracesAfter st l (writes n t) = Traces context capacity budget (record { term = t; entries = write capacity st.entries n; steps = st.steps }) l
  TracesAfter st l (halts r) = l ≡ []

  pub traces-after : {st : State} {l : List Counted} {d : Due} → Traces context capacity budget st l → due_at context capacity budget st ≡ d
      → TracesAfter st l d
  traces-after run e = rw e at (go run)
    where
      go : {st : State} {l : List Counted} → Traces context capacity budget st l → TracesAfter st l (due_at context capacity budget st)
      go (none_value d) = rw d
      go (none_by d) = rw d
      go (one_counted d rest) = rw d (_, refl, rest)
      go (past_writing d rest) = rw d rest

  -- ---- Fuel

  -- Along the run: what holds of fuel and a state if it holds, with one less, of the state that follows what is due.
  abbrev Following : (ℕ → State → Type 0) → ℕ → State → Due → Type 0
  Following P k st (finished v) = Unit {0}
  Following P k st (counts r t) = P k record { term = t; entries = st.entries; steps = suc st.steps }
  Following P k st (writes n t) = P k record { term = t; entries = write capacity st.entries n; steps = st.steps }
  Following P k st (halts r) = Unit {0}

  -- More fuel than the measure suffices.
  along : (P : ℕ → State → Type 0)
      → ((k : ℕ) (st : State) (d : Due) → due_at context capacity budget st ≡ d → Following P k st d → P (suc k) st)
      → (k : ℕ) (st : State) → measure st < k → P k st
  along P step zero st h = absurd (omega arith)
  along P step (suc k) st h = step k st (due_at context capacity budget st) refl (go (due_at context capacity budget st) (falls_at st) (along P step k))
    where
      go : (d : Due) → Falls (ltb st.steps budget) (forms st.term) d → ((st' : State) → measure st' < k → P k st') → Following P k st d
      go (finished v) f rest = tt
      go (counts r t) f rest = rest _ (omega (arith, h, counted-falls st t r f))
      go (writes n t) f rest = rest _ (omega (arith, h, writing-falls st t n (write capacity st.entries n) f))
      go (halts r) f rest = tt

  -- With it the run is a finished one, and the finished run is that one.
  pub run_ends : (k : ℕ) (st : State) → measure st < k → Runs context capacity budget st (run context capacity budget k st)
  unfolding run
  run_ends = along Ends step
    where
      Ends : ℕ → State → Type 0
      Ends k st = Runs context capacity budget st (run context capacity budget k st)

      step : (k : ℕ) (st : State) (d : Due) → due_at context capacity budget st ≡ d → Following Ends k st d → Ends (suc k) st
      step k st (finished v) e next = rw (e, run) (ends_value e)
      step k st (counts r t) e next = rw (e, run) (goes_counted e next)
      step k st (writes n t) e next = rw (e, run) (goes_writing e next)
      step k st (halts r) e next = rw (e, run) (ends_by e)

  pub run_is : {st : State} {end : Ended} → Runs context capacity budget st end → (k : ℕ) → measure st < k → run context capacity budget k st ≡ end
  unfolding run
  run_is {st} {end} r k h = along Is step k st h end r
    where
      Is : ℕ → State → Type 0
      Is k st = (end : Ended) → Runs context capacity budget st end → run context capacity budget k st ≡ end

      step : (k : ℕ) (st : State) (d : Due) → due_at context capacity budget st ≡ d → Following Is k st d → Is (suc k) st
      step k st (finished v) e next end r = rw (e, run) (sym (after r e))
      step k st (counts c t) e next end r = rw (e, run) (next end (after r e))
      step k st (writes n t) e next end r = rw (e, run) (next end (after r e))
      step k st (halts c) e next end r = rw (e, run) (sym (after r e))

  -- So it is with the trace.
  pub trace-ends : (k : ℕ) (st : State) → measure st < k → Traces context capacity budget st (trace context capacity budget k st)
  unfolding trace
  trace-ends = along Ends step
    where
      Ends : ℕ → State → Type 0
      Ends k st = Traces context capacity budget st (trace context capacity budget k st)

      step : (k : ℕ) (st : State) (d : Due) → due_at context capacity budget st ≡ d → Following Ends k st d → Ends (suc k) st
      step k st (finished v) e next = rw (e, trace) (none_value e)
      step k st (counts r t) e next = rw (e, trace) (one_counted e next)
      step k st (writes n t) e next = rw (e, trace) (past_writing e next)
      step k st (halts r) e next = rw (e, trace) (none_by e)

  pub trace-is : {st : State} {l : List Counted} → Traces context capacity budget st l → (k : ℕ) → measure st < k → trace context capacity budget k st ≡ l
  unfolding trace
  trace-is {st} {l} r k h = along Is step k st h l r
    where
      Is : ℕ → State → Type 0
      Is k st = (l : List Counted) → Traces context capacity budget st l → trace context capacity budget k st ≡ l

      step : (k : ℕ) (st : State) (d : Due) → due_at context capacity budget st ≡ d → Following Is k st d → Is (suc k) st
      step k st (finished v) e next l r = rw (e, trace) (sym (traces-after r e))
      step k st (counts c t) e next l r = let (rest, is, on) = traces-after r e in rw (e, trace) (ap (λ l. c ∷ l) (next rest on) ∙ sym is)
      step k st (writes n t) e next l r = rw (e, trace) (next l (traces-after r e))
      step k st (halts c) e next l r = rw (e, trace) (sym (traces-after r e))
