-- A run against plain Saiga: what it ends with is what plain Saiga comes to, in no fewer steps; and a run that is not stopped for its
-- budget is the same under every larger one.
use mathlib.Core.Bool.{Bool, true, false, false≢true}
use mathlib.Core.Bool as Bool
use mathlib.Core.Logic.{◌⊎◌, inl, inr}
use Rattle.std.specs.Prelude.{Some as some, Option, None as none}
use mathlib.Core.List.{List, [], ◌∷◌}
use mathlib.Core.Path.{◌≡◌, refl, sym, ◌∙◌, ap}
use Prim.Native.Nat.{ℕ, suc, ◌+◌, ◌≤◌}
use native.Mathlib.Omega.{arith}
use native.Mathlib.Numerals.{add-one}
use borrow.Author.Tests.{ltb-true, lt-ltb}
use lib.Dec.{eqb, ltb}
use Rattle.saiga.specs.Values.{Value, null, apply}
use Rattle.saiga.specs.Expressions.{Expr}
use Rattle.saiga.specs.Terms.{Occurrence, val, cond, app, attr, form}
use Rattle.saiga.specs.Plain.{Plain, on_null, ends_without, plain_step, plain_at, RunsForEver}
use Rattle.saiga.specs.Caching.{Entry, Running, Counted, Due, finished, counts, writes, halts, Reason, as_plain, circle, spent, depth, due_part, count, app_app, is_open, circular, attr_app, due, State, Ending, with_value, by, Ended, due_at}
use Rattle.saiga.specs.Runs.{Runs, ends_value, ends_by, goes_counted, goes_writing, Traces, none_value, none_by, one_counted, past_writing}
use Rattle.saiga.proofs.Erasure.{erase, Right, Faithful, Seen}
use Rattle.saiga.proofs.Places.{comes-on, step-first, for-ever-before}
use Rattle.saiga.proofs.RunEnds.{spent-used, after}
use Rattle.saiga.proofs.Keeping.{seen_at, right-write}

module _ (context : ℕ → ℕ → Expr) where
  -- ---- What a run ends with

  -- how plain Saiga, asked q, stands to a run that ended so after so many steps
  abbrev pub Follows : ℕ → Plain → ℕ → Ending → Type 0
  Follows budget q steps (with_value v) = (m : ℕ) × (plain_at context m q ≡ some (val v)) × (steps ≤ m)
  Follows budget q steps (by (as_plain why)) =
      (m : ℕ) × (t : Plain) × (plain_at context m q ≡ some t) × (plain_step context t ≡ ends_without why) × (steps ≤ m)
  Follows budget q steps (by circle) = RunsForEver context q
  Follows budget q steps (by spent) =
      (m : ℕ) × (t : Plain) × (plain_at context (suc m) q ≡ some t) × (budget ≤ steps) × (steps ≤ m)
  Follows budget q steps (by depth) = Unit {0}

  module _ (capacity budget : ℕ) where
    follows-halt : (st : State) (r : Reason) → due_at context capacity budget st ≡ halts r → Seen context [] st.term (halts r)
        → (q : Plain) (n : ℕ) → plain_at context n q ≡ some (erase st.term) → st.steps ≤ n → Follows budget q st.steps (by r)
    unfolding plain_at is_open
    follows-halt st (as_plain why) e s q n h l = (n, erase st.term, h, s, l)
    follows-halt st circle e (inl on) q n h l = for-ever-before context n q (erase st.term) h on
    follows-halt st circle e (inr (o, among, d)) q n h l = absurd (false≢true among)
    follows-halt st spent e s q n h l = (n, s.0, one_more, spent-used context capacity budget st e, l)
      where
        one_more : plain_at context (suc n) q ≡ some s.0
        one_more = rw (← add-one n) (comes-on context n 1 q (erase st.term) s.0 h (step-first context 0 (erase st.term) s.0 s.0 s.1 refl))
    follows-halt st depth e s q n h l = tt

    pub follows : {st : State} {end : Ended} → Runs context capacity budget st end → Right context st.entries → Faithful context st.term
        → (q : Plain) (n : ℕ) → plain_at context n q ≡ some (erase st.term) → st.steps ≤ n → Follows budget q end.steps end.ending
    follows {st} (ends_value {v} d) r f q n h l =
        let s = rw d at (seen_at context capacity budget st r f) in (n, h ∙ ap some s, l)
    follows {st} (ends_by {r = reason} d) r f q n h l = follows-halt st reason d (rw d at (seen_at context capacity budget st r f)) q n h l
    follows {st} (goes_counted {t} d rest) r f q n h l =
        let s = rw d at (seen_at context capacity budget st r f) in
        follows rest r s.1 q (n + suc s.0.more) (comes-on context n (suc s.0.more) q (erase st.term) (erase t) h s.0.reached) (omega arith)
    follows {st} (goes_writing {n = e} {t} d rest) r f q n h l =
        let s = rw d at (seen_at context capacity budget st r f) in
        follows rest (right-write context capacity st.entries e r s.2) s.1 q n (h ∙ ap some s.0) l

-- ---- Larger budgets

-- What is due without budget is what is due with it, or the stop for the budget.
abbrev Agree : Due → Due → Type 0
Agree d e = (d ≡ halts spent) ⊎ (d ≡ e)

agree-part : (inside : Running → Running) (after after' : Value → Due) (d e : Due) → Agree d e → ((v : Value) → Agree (after v) (after' v))
    → Agree (due_part inside after d) (due_part inside after' e)
unfolding due_part
agree-part inside after after' d e (inl s) g = inl (ap (due_part inside after) s)
agree-part inside after after' (finished v) e (inr s) g = rw (← s) (g v)
agree-part inside after after' (counts r t) e (inr s) g = inr (ap (due_part inside after') s)
agree-part inside after after' (writes n t) e (inr s) g = inr (ap (due_part inside after') s)
agree-part inside after after' (halts r) e (inr s) g = inr (ap (due_part inside after') s)

module _ (context : ℕ → ℕ → Expr) (s : List Entry) where
  agree-attr : (os : List Occurrence) (o : Occurrence) → Agree (attr_app context s false os o) (attr_app context s true os o)
  unfolding attr_app
  agree-attr os o = go (eqb o.node null) (circular s os o) _
    where
      go : (z c : Bool) (d : Due)
          → Agree (Bool.cond z (halts (as_plain on_null)) (Bool.cond c (halts circle) (halts spent))) (Bool.cond z (halts (as_plain on_null)) (Bool.cond c (halts circle) d))
      go true c d = inr refl
      go false true d = inr refl
      go false false d = inl refl

  agree-app : (a : Option Value) → Agree (app_app false a) (app_app true a)
  unfolding app_app count
  agree-app (some v) = inl refl
  agree-app none = inr refl

  agree : (os : List Occurrence) (t : Running) → Agree (due context s false os t) (due context s true os t)
  unfolding due count
  agree os (val v) = inr refl
  agree os (cond c t e) = agree-part (λ c'. cond c' t e) _ _ (due context s false os c) (due context s true os c) (agree os c) (λ v. inl refl)
  agree os (app f x) =
      agree-part (λ f'. app f' x) _ _ (due context s false os f) (due context s true os f) (agree os f)
      (λ v. agree-part (λ x'. app (val v) x') _ _ (due context s false os x) (due context s true os x) (agree os x) (λ w. agree-app (apply v w)))
  agree os (attr n a x) =
      agree-part (λ n'. attr n' a x) _ _ (due context s false os n) (due context s true os n) (agree os n)
      (λ v. agree-part (λ x'. attr (val v) a x') _ _ (due context s false os x) (due context s true os x) (agree os x) (λ w. agree-attr os _))
  agree os (form o e) =
      agree-part (λ e'. form o e') _ _ (due context s false (o ∷ os) e) (due context s true (o ∷ os) e) (agree (o ∷ os) e) (λ v. inr refl)

module _ (context : ℕ → ℕ → Expr) (capacity b b' : ℕ) (more : b ≤ b') where
  same-due : (st : State) (d : Due) → due_at context capacity b st ≡ d → (d ≡ halts spent → ⊥) → due_at context capacity b' st ≡ d
  unfolding due_at
  same-due st d e n = go (ltb st.steps b) refl (ltb st.steps b') refl e
    where
      go : (x : Bool) → ltb st.steps b ≡ x → (y : Bool) → ltb st.steps b' ≡ y → due context st.entries x [] st.term ≡ d
          → due context st.entries y [] st.term ≡ d
      go true p true q e = e
      go true p false q e = absurd (false≢true (sym q ∙ lt-ltb st.steps b' (let l = ltb-true st.steps b p in omega (arith, more))))
      go false p false q e = e
      go false p true q e = pick (agree context st.entries [] st.term)
        where
          pick : Agree (due context st.entries false [] st.term) (due context st.entries true [] st.term) → due context st.entries true [] st.term ≡ d
          pick (inl a) = absurd (n (sym e ∙ a))
          pick (inr a) = sym a ∙ e

  -- A run that is not stopped for its budget is the run under the larger one.
  pub larger-budget : {st : State} {end : Ended} → Runs context capacity b st end → (end.ending ≡ by spent → ⊥) → Runs context capacity b' st end
  larger-budget {st} (ends_value {v} d) n = ends_value (same-due st (finished v) d (λ e. let z : ◌≡◌ {A = ℕ} 0 1 = cc in omega arith))
  larger-budget {st} (ends_by {r} d) n = ends_by (same-due st (halts r) d (λ e. n (let s : r ≡ spent = cc in ap by s)))
  larger-budget {st} (goes_counted {r} {t} d rest) n =
      goes_counted (same-due st (counts r t) d (λ e. let z : ◌≡◌ {A = ℕ} 0 1 = cc in omega arith)) (larger-budget rest n)
  larger-budget {st} (goes_writing {n = e} {t} d rest) n =
      goes_writing (same-due st (writes e t) d (λ e. let z : ◌≡◌ {A = ℕ} 0 1 = cc in omega arith)) (larger-budget rest n)

  -- So is its trace.
  pub larger-trace : {st : State} {l : List Counted} {end : Ended} → Traces context capacity b st l → Runs context capacity b st end
      → (end.ending ≡ by spent → ⊥) → Traces context capacity b' st l
  larger-trace {st} (none_value {v} d) run n = none_value (same-due st (finished v) d (λ e. let z : ◌≡◌ {A = ℕ} 0 1 = cc in omega arith))
  larger-trace {st} (none_by {r} d) run n =
      none_by (same-due st (halts r) d (λ e. n (let s : r ≡ spent = cc in ap (λ w. w.ending) (after context capacity b run d) ∙ ap by s)))
  larger-trace {st} (one_counted {r} {t} d rest) run n =
      one_counted (same-due st (counts r t) d (λ e. let z : ◌≡◌ {A = ℕ} 0 1 = cc in omega arith)) (larger-trace rest (after context capacity b run d) n)
  larger-trace {st} (past_writing {n = e} {t} d rest) run n =
      past_writing (same-due st (writes e t) d (λ e. let z : ◌≡◌ {A = ℕ} 0 1 = cc in omega arith)) (larger-trace rest (after context capacity b run d) n)
