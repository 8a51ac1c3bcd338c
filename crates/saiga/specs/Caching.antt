-- Saiga's caching steps (001, figures 6, 8 and 10) with the limits of document 01, "The steps".
use Rattle.std.specs.Prelude.{Bool, true, false, ◌&&◌, ◌||◌, List, [], ◌∷◌, ◌++◌, ℕ, zero, suc, eqb, ltb, leb, length}
use Rattle.std.proofs.Math.Bool as Bool
use Rattle.std.specs.Prelude.{Option, None as none, Some as some}
use Rattle.saiga.specs.Limits.{depth_limit}
use Rattle.saiga.specs.Values.{Value, null, truth, node_of, apply, same_value}
use Rattle.saiga.specs.Expressions.{Expr}
use Rattle.saiga.specs.Terms.{Occurrence, Term, val, cond, app, attr, form, put}
use Rattle.saiga.specs.Plain.{NoValue, on_null, by_overflow}

-- ---- The store

-- An entry keeps the value of an occurrence.
pub record Entry : Type 0 where
  pub occurrence : Occurrence
  pub value : Value

unfoldable pub same_occurrence : Occurrence → Occurrence → Bool
same_occurrence o p =
    eqb o.node p.node && eqb o.attribute p.attribute && same_value o.parameter p.parameter

-- the kept value of an occurrence
unfoldable pub kept : List Entry → Occurrence → Option Value
kept [] o = none
kept (e ∷ l) o = Bool.cond (same_occurrence e.occurrence o) (some e.value) (kept l o)

unfoldable pub is_kept : Option Value → Bool
is_kept none = false
is_kept (some v) = true

-- "CacheWrite appends its occurrence if it is not kept and the store is not full; otherwise it changes nothing."
unfoldable pub write : ℕ → List Entry → Entry → List Entry
write capacity s e = Bool.cond (is_kept (kept s e.occurrence) || leb capacity (length s)) s (s ++ e ∷ [])

-- ---- The steps

abbrev pub Running : Type 0
Running = Term Occurrence

-- "Each of CondTrue, CondFalse, AppApp and AttrApp counts one."
pub data Counted : Type 0 where
  CondTrue CondFalse AppApp : Counted
  AttrApp : ℕ → Counted

-- The stops of the run: where plain Saiga ends too, 14 on null and 17 by overflow; 20 circle, where it runs for ever; and 15 spent, 16 depth, which
-- are the limits'.
pub data Reason : Type 0 where
  as_plain : NoValue → Reason
  circle spent depth : Reason

-- What is due at an expression: it is a value; a counted step, by its rule, leads to another; CacheWrite of an entry, not counted,
-- leads to another; or the run stops.
pub data Due : Type 0 where
  finished : Value → Due
  counts : Counted → Running → Due
  writes : Entry → Running → Due
  halts : Reason → Due

-- A part is stepped in its place `inside`, to a value; then `after` follows (CondLeft, AppLeft, AppRight, AttrLeft, AttrRight, CacheLeft).
unfoldable pub due_part : (Running → Running) → (Value → Due) → Due → Due
due_part inside after (finished v) = after v
due_part inside after (counts r t) = counts r (inside t)
due_part inside after (writes e t) = writes e (inside t)
due_part inside after (halts s) = halts s

-- "15 spent: a counted step due with the whole budget used."
unfoldable pub count : Bool → Counted → Running → Due
count has-budget r t = Bool.cond has-budget (counts r t) (halts spent)

unfoldable pub cond_rule : Bool → Counted
cond_rule true = CondTrue
cond_rule false = CondFalse

-- AppApp: 17, then 15. 17 overflow is "tested like 14 before 15" (F-4 of document 02), also with the whole budget used.
unfoldable pub app_app : Bool → Option Value → Due
app_app has-budget (some v) = count has-budget AppApp (val v)
app_app has-budget none = halts (as_plain by_overflow)

-- "AttrApp takes a kept value before σ."
unfoldable pub kept_or : Option Value → Running → Running
kept_or none t = t
kept_or (some v) t = val v

-- whether a form of an occurrence is open
unfoldable pub is_open : List Occurrence → Occurrence → Bool
is_open [] o = false
is_open (p ∷ open-forms) o = same_occurrence p o || is_open open-forms o

-- 20 circle: "AttrApp is due on an occurrence that is open and not kept" (F-9 of document 02).
-- `open-forms` are the forms that stand around the part where AttrApp is due.
unfoldable pub circular : List Entry → List Occurrence → Occurrence → Bool
circular s open-forms o = Bool.not (is_kept (kept s o)) && is_open open-forms o

-- "16 depth: AttrApp due inside 64 open forms, repeats counted", as F-8 of document 02 changes it: "only when the occurrence due is not kept".
unfoldable pub too_deep : List Entry → List Occurrence → Occurrence → Bool
too_deep s open-forms o = Bool.not (is_kept (kept s o)) && leb depth_limit (length open-forms)

module _ (context : ℕ → ℕ → Expr) (s : List Entry) (has-budget : Bool) where
  -- AttrApp: 14, then 20, then 15, then 16. "Where several of 14 to 16 are due, the smallest", and 20 is "tested after 14 and before 15" (F-9). A
  -- kept value has its form too, the 65th inside 64 open ones; CacheWrite is due there at once and ends it.
  unfoldable pub attr_app : List Occurrence → Occurrence → Due
  attr_app open-forms o =
      Bool.cond (eqb o.node null) (halts (as_plain on_null))
      (Bool.cond (circular s open-forms o) (halts circle)
      (Bool.cond has-budget
      (Bool.cond (too_deep s open-forms o) (halts depth)
      (counts (AttrApp o.attribute) (form o (kept_or (kept s o) (put o.node o.parameter (context o.node o.attribute))))))
      (halts spent)))

  -- "Left part before right part, IF by condition only."
  unfoldable pub due : List Occurrence → Running → Due
  due os (val v) = finished v
  due os (cond c t e) =
      due_part (λ c'. cond c' t e) (λ v. count has-budget (cond_rule (truth v)) (Bool.cond (truth v) t e)) (due os c)
  due os (app f x) =
      due_part (λ f'. app f' x)
      (λ v. due_part (λ x'. app (val v) x') (λ w. app_app has-budget (apply v w)) (due os x))
      (due os f)
  due os (attr n a x) =
      due_part (λ n'. attr n' a x)
      (λ v. due_part (λ x'. attr (val v) a x') (λ w. attr_app os record { node = node_of v; attribute = a; parameter = w }) (due os x))
      (due os n)
  due os (form o e) =
      due_part (λ e'. form o e') (λ v. writes record { occurrence = o; value = v } (val v)) (due (o ∷ os) e)

-- ---- The run

-- A state: the running expression, what is kept, and the steps counted.
pub record State : Type 0 where
  pub term : Running
  pub entries : List Entry
  pub steps : ℕ

pub data Ending : Type 0 where
  with_value : Value → Ending
  by : Reason → Ending

pub record Ended : Type 0 where
  pub ending : Ending
  pub entries : List Entry
  pub steps : ℕ

module _ (context : ℕ → ℕ → Expr) (capacity budget : ℕ) where
  unfoldable pub due_at : State → Due
  due_at st = due context st.entries (ltb st.steps budget) [] st.term

  -- The first number bounds the steps; twice the budget and one more always suffices (RunEnds.antt).
  unfoldable pub run : ℕ → State → Ended
  run zero st = record { ending = by spent; entries = st.entries; steps = st.steps }
  run (suc k) st =
      elim (due_at st) [
        | finished v ↦ record { ending = with_value v; entries = st.entries; steps = st.steps }
        | counts r t ↦ run k record { term = t; entries = st.entries; steps = suc st.steps }
        | writes e t ↦ run k record { term = t; entries = write capacity st.entries e; steps = st.steps }
        | halts reason ↦ record { ending = by reason; entries = st.entries; steps = st.steps }
      ]
