-- Type preservation (001, theorem 4.3): a step from an expression of a type leads to one of that type, in plain Saiga and in the caching
-- steps, and what a run keeps and ends with is of its type too.
use mathlib.Core.Bool.{Bool, true, false, ◌||◌}
use mathlib.Core.Bool as Bool
use Rattle.std.specs.Prelude.{Option, None as none, Some as some}
use mathlib.Core.List.{List, [], ◌∷◌, ◌++◌}
use mathlib.Core.Path.{◌≡◌, refl, sym, ◌∙◌, ap, subst}
use Prim.Native.Nat.{ℕ, zero, suc, ◌<◌}
use lib.Dec.{eqb, ltb, leb}
use lib.IntN.{ℤ}
use lib.ListN.{length}
use native.Mathlib.Omega.{arith}
use borrow.Author.Tests.{ltb-true, lt-ltb}
use Rattle.saiga.specs.Values.{Base, int_t, node_t, Ty, base, ◌⇒◌, Value, unit, bool, int, node, function, holding, Function, le, equal_int, equal_node, negation, add, subtract, Holding, le_of, equal_int_of, equal_node_of, add_to, subtract_from, function_type, holding_type, type_of, null, truth, node_of, exact, apply_function, summed, apply_holding, apply, is_word, of_word, to_word}
use Rattle.saiga.specs.Expressions.{Expr, Scope}
use Rattle.saiga.specs.Types.{Attribute, attribute_at}
use Rattle.saiga.specs.Terms.{Occurrence, put}
use Rattle.saiga.specs.Plain.{Plain, PlainStep, is_value, steps_to, ends_without, on_null, step_part, plain_application, plain_attribute, plain_step, plain_at}
use Rattle.saiga.specs.Caching.{Entry, same_occurrence, kept, is_kept, write, Running, Counted, AppApp, Reason, as_plain, circle, spent, depth, Due, finished, counts, writes, halts, due_part, count, cond_rule, app_app, kept_or, circular, too_deep, attr_app, due, State, with_value, by, Ended, due_at, run}
use Rattle.saiga.specs.Runs.{Reaches, at_first, by_counted, by_writing, Traces, none_value, none_by, one_counted, past_writing}
use Rattle.saiga.specs.Sound.{IsA, ValueIn, ExprIn, literal∈, if∈, application∈, attribute∈, this∈, parameter∈, OccurrenceIn, EntryIn, All, all_none, all_cons, TermIn, PlainIn, RunningIn, val∈, cond∈, app∈, attr∈, form∈, ContextIn}
use Rattle.saiga.proofs.FourBytes.{by-ends, int-in, bool-in}
use Rattle.saiga.proofs.Equality.{same-occurrence}
use Rattle.saiga.proofs.PlainFacts.{stepped}
use Rattle.saiga.proofs.Tally.{AmongFirst}

-- ---- Values

result-of : {B C : Base} {T U : Ty} → (B ⇒ T) ≡ (C ⇒ U) → T ≡ U
result-of e = cc

pub no-function {ℓ} : {A : Type ℓ} {B C : Base} {T : Ty} → base B ≡ (C ⇒ T) → A
no-function e = absurd (let z : ◌≡◌ {A = ℕ} 0 1 = cc in omega arith)

-- what a function gives, of a type
abbrev pub AppliedIn : ℕ → Ty → Option Value → Type 0
AppliedIn nodes T (some v) = ValueIn nodes T v
AppliedIn nodes T none = Unit {0}

summed-in : (nodes : ℕ) (z : ℤ) → AppliedIn nodes (base int_t) (summed (exact z))
summed-in nodes z = by-ends (AppliedIn nodes (base int_t)) z (λ i. int-in nodes z i) (λ _. tt)

module _ (nodes : ℕ) {B : Base} {T : Ty} (x : Value) where
  function-in : (f : Function) → function_type f ≡ (B ⇒ T) → ValueIn nodes T (apply_function f x)
  unfolding function_type holding_type type_of apply_function
  function-in le e = rw (← result-of e) refl
  function-in equal_int e = rw (← result-of e) refl
  function-in equal_node e = rw (← result-of e) refl
  function-in negation e = rw (← result-of e) (bool-in nodes _)
  function-in add e = rw (← result-of e) refl
  function-in subtract e = rw (← result-of e) refl

  holding-in : (h : Holding) → holding_type h ≡ (B ⇒ T) → AppliedIn nodes T (apply_holding h x)
  unfolding holding_type apply_holding
  holding-in (le_of y) e = rw (← result-of e) (bool-in nodes _)
  holding-in (equal_int_of y) e = rw (← result-of e) (bool-in nodes _)
  holding-in (equal_node_of y) e = rw (← result-of e) (bool-in nodes _)
  holding-in (add_to y) e = rw (← result-of e) (summed-in nodes _)
  holding-in (subtract_from y) e = rw (← result-of e) (summed-in nodes _)

pub apply-in : (nodes : ℕ) (B : Base) (T : Ty) (f x : Value) → ValueIn nodes (B ⇒ T) f → IsA nodes B x → AppliedIn nodes T (apply f x)
unfolding type_of apply
apply-in nodes B T unit x e h = no-function e
apply-in nodes B T (bool b) x e h = no-function e
apply-in nodes B T (int z) x e h = no-function e
apply-in nodes B T (node n) x e h = no-function e
apply-in nodes B T (function f) x e h = function-in nodes x f e
apply-in nodes B T (holding f) x e h = holding-in nodes x f e

node_in : (nodes n : ℕ) → n < nodes → IsA nodes node_t (node n)
unfolding is_word of_word to_word
node_in nodes n h = record { is-word = rw (lt-ltb n nodes h) refl; round_trip = refl }

-- ---- Expressions

-- both sides of a test
pub either : {A : Type 0} (P : A → Type 0) (b : Bool) {x y : A} → (b ≡ true → P x) → (b ≡ false → P y) → P (Bool.cond b x y)
either P true h k = h refl
either P false h k = k refl

pub put_in : {F : Type 0} {FormIn : F → Base → Type 0} {sc : Scope} {sig : List Attribute} {p : Base} {e : Expr} {T : Ty} (n : ℕ) (v : Value)
    → (sc.has-this ≡ true → n < sc.nodes) → (sc.has-parameter ≡ true → IsA sc.nodes p v)
    → ExprIn sc sig p e T → TermIn FormIn sc.nodes sig (put n v e) T
unfolding put
put_in n v hn hv (literal∈ w) = val∈ w
put_in n v hn hv (if∈ c t e) = cond∈ (put_in n v hn hv c) (put_in n v hn hv t) (put_in n v hn hv e)
put_in n v hn hv (application∈ f x) = app∈ (put_in n v hn hv f) (put_in n v hn hv x)
put_in n v hn hv (attribute∈ a m x) = attr∈ a (put_in n v hn hv m) (put_in n v hn hv x)
put_in {sc = sc} n v hn hv (this∈ e) = val∈ (node_in sc.nodes n (hn e))
put_in n v hn hv (parameter∈ e) = val∈ (hv e)

-- a Node value that is not null is declared
pub declared : {nodes : ℕ} {v : Value} → IsA nodes node_t v → eqb (node_of v) null ≡ false → node_of v < nodes
unfolding is_word of_word node_of
declared {nodes} {v} h q = ltb-true _ _ (left (ltb (node_of v) nodes) (rw (ap node_of h.round_trip) at h.is-word) q)
  where
    left : (a : Bool) {b : Bool} → (a || b) ≡ true → b ≡ false → a ≡ true
    left true e f = refl
    left false e f = sym f ∙ e

module _ (nodes : ℕ) (sig : List Attribute) where
  -- the occurrence that AttrApp is due for, if not on null
  pub due-occurrence : (v : Value) (a : ℕ) (x : Value) → a < length sig → IsA nodes node_t v → IsA nodes (attribute_at sig a).parameter-type x
      → eqb (node_of v) null ≡ false → OccurrenceIn nodes sig record { node = node_of v; attribute = a; parameter = x }
  due-occurrence v a x ha hv hx q = record { node_declared = declared hv q; attribute_declared = ha; parameter-in = hx }

  -- σ of an occurrence has its attribute's type
  pub σ-in : {F : Type 0} {FormIn : F → Base → Type 0} (context : ℕ → ℕ → Expr) → ContextIn nodes sig context → (o : Occurrence) → OccurrenceIn nodes sig o
      → TermIn FormIn nodes sig (put o.node o.parameter (context o.node o.attribute)) (base (attribute_at sig o.attribute).result)
  σ-in {F} {FormIn} context c o h =
      rw c.same_nodes at
      (put_in {F = F} {FormIn = FormIn} o.node o.parameter (λ _. rw c.same_nodes h.node_declared) (λ _. rw c.same_nodes h.parameter-in)
      (c.defines o.node o.attribute h.node_declared h.attribute_declared))

-- ---- What is kept

pub all_append : {A : Type 0} {P : A → Type 0} {l m : List A} → All P l → All P m → All P (l ++ m)
all_append all_none n = n
all_append (all_cons h t) n = all_cons h (all_append t n)

pub all_right : {A : Type 0} {P : A → Type 0} (l : List A) {m : List A} → All P (l ++ m) → All P m
all_right [] h = h
all_right (x ∷ l) (all_cons h t) = all_right l t

-- A kept value is of its attribute's type, since its entry is one of that attribute.
pub kept-in : {nodes : ℕ} {sig : List Attribute} {s : List Entry} (o : Occurrence) {v : Value} → All (EntryIn nodes sig) s → kept s o ≡ some v
    → IsA nodes (attribute_at sig o.attribute).result v
unfolding kept
kept-in o all_none q = absurd (let z : ◌≡◌ {A = ℕ} 0 1 = cc in omega arith)
kept-in {nodes} {sig} o {v} (all_cons {x = e} {l = l} h t) q = go (same_occurrence e.occurrence o) refl q (λ k. kept-in o t k)
  where
    go : (b : Bool) → same_occurrence e.occurrence o ≡ b → Bool.cond b (some e.value) (kept l o) ≡ some v
        → (kept l o ≡ some v → IsA nodes (attribute_at sig o.attribute).result v) → IsA nodes (attribute_at sig o.attribute).result v
    go true same q rest =
        let value : e.value ≡ v = cc in
        rw (ap (λ p. p.attribute) (same-occurrence e.occurrence o same), value) at h.value-in
    go false same q rest = rest q

write-in : {P : Entry → Type 0} (capacity : ℕ) {s : List Entry} {e : Entry} → All P s → P e → All P (write capacity s e)
unfolding write
write-in {P} capacity {s} {e} h n =
    either (All P) (is_kept (kept s e.occurrence) || leb capacity (length s)) (λ _. h) (λ _. all_append h (all_cons n all_none))

-- ---- Plain Saiga

abbrev PlainStepIn : ℕ → List Attribute → Ty → PlainStep → Type 0
PlainStepIn nodes sig T (is_value v) = ValueIn nodes T v
PlainStepIn nodes sig T (steps_to t) = PlainIn nodes sig t T
PlainStepIn nodes sig T (ends_without why) = Unit {0}

module _ (nodes : ℕ) (sig : List Attribute) where
  plain-part-in : {S T : Ty} (inside : Plain → Plain) (after : Value → PlainStep) (d : PlainStep) → PlainStepIn nodes sig S d
      → ((t : Plain) → PlainIn nodes sig t S → PlainIn nodes sig (inside t) T) → ((v : Value) → ValueIn nodes S v → PlainStepIn nodes sig T (after v))
      → PlainStepIn nodes sig T (step_part inside after d)
  unfolding step_part
  plain-part-in inside after (is_value v) h f g = g v h
  plain-part-in inside after (steps_to t) h f g = f t h
  plain-part-in inside after (ends_without why) h f g = tt

  plain-application-in : (T : Ty) (a : Option Value) → AppliedIn nodes T a → PlainStepIn nodes sig T (plain_application a)
  unfolding plain_application
  plain-application-in T (some v) h = val∈ h
  plain-application-in T none h = tt

  module _ (context : ℕ → ℕ → Expr) (c : ContextIn nodes sig context) where
    plain-attribute-in : (v : Value) (a : ℕ) (x : Value) → a < length sig → IsA nodes node_t v → IsA nodes (attribute_at sig a).parameter-type x
        → PlainStepIn nodes sig (base (attribute_at sig a).result) (plain_attribute context (node_of v) a x)
    unfolding plain_attribute
    plain-attribute-in v a x ha hv hx =
        either (PlainStepIn nodes sig (base (attribute_at sig a).result)) (eqb (node_of v) null) {x = ends_without on_null} (λ _. tt)
        (λ q. σ-in nodes sig context c _ (due-occurrence nodes sig v a x ha hv hx q))

    pub plain-step-in : (t : Plain) (T : Ty) → PlainIn nodes sig t T → PlainStepIn nodes sig T (plain_step context t)
    unfolding plain_step
    plain-step-in _ T (val∈ h) = h
    plain-step-in _ T (cond∈ {c = c} {t = t} {e = e} hc ht he) =
        plain-part-in _ _ (plain_step context c) (plain-step-in _ _ hc) (λ _ h. cond∈ h ht he)
        (λ v h. either (λ u. PlainIn nodes sig u T) (truth v) (λ _. ht) (λ _. he))
    plain-step-in _ T (app∈ {f = f} {x = x} {B = B} hf hx) =
        plain-part-in _ _ (plain_step context f) (plain-step-in _ _ hf) (λ _ h. app∈ h hx)
        (λ v hv. plain-part-in _ _ (plain_step context x) (plain-step-in _ _ hx) (λ _ h. app∈ (val∈ hv) h)
        (λ w hw. plain-application-in T (apply v w) (apply-in nodes B T v w hv hw)))
    plain-step-in _ _ (attr∈ {n = n} {x = x} {a = a} ha hn hx) =
        plain-part-in _ _ (plain_step context n) (plain-step-in _ _ hn) (λ _ h. attr∈ ha h hx)
        (λ v hv. plain-part-in _ _ (plain_step context x) (plain-step-in _ _ hx) (λ _ h. attr∈ ha (val∈ hv) h)
        (λ w hw. plain-attribute-in v a w ha hv hw))
    plain-step-in _ _ (form∈ {o = o} ho he) = absurd o

    pub plain-at-in : (n : ℕ) (t t' : Plain) (T : Ty) → plain_at context n t ≡ some t' → PlainIn nodes sig t T → PlainIn nodes sig t' T
    unfolding plain_at
    plain-at-in zero t t' T e h = let same : t ≡ t' = cc in rw same at h
    plain-at-in (suc n) t t' T e h =
        let (u, step, rest) = stepped context n t t' e in
        plain-at-in n u t' T rest (rw step at (plain-step-in t T h))

-- ---- What is due

-- the rule of a counted step: AttrApp is of a declared attribute
abbrev pub RuleIn : List Attribute → Counted → Type 0
RuleIn sig r = AmongFirst (length sig) r

abbrev pub DueIn : ℕ → List Attribute → Ty → Due → Type 0
DueIn nodes sig T (finished v) = ValueIn nodes T v
DueIn nodes sig T (counts r t) = RuleIn sig r × RunningIn nodes sig t T
DueIn nodes sig T (writes e t) = EntryIn nodes sig e × RunningIn nodes sig t T
DueIn nodes sig T (halts r) = Unit {0}

module _ (nodes : ℕ) (sig : List Attribute) where
  part_in : {S T : Ty} (inside : Running → Running) (after : Value → Due) (d : Due) → DueIn nodes sig S d
      → ((t : Running) → RunningIn nodes sig t S → RunningIn nodes sig (inside t) T) → ((v : Value) → ValueIn nodes S v → DueIn nodes sig T (after v))
      → DueIn nodes sig T (due_part inside after d)
  unfolding due_part
  part_in inside after (finished v) h f g = g v h
  part_in inside after (counts r t) h f g = (h.0, f t h.1)
  part_in inside after (writes e t) h f g = (h.0, f t h.1)
  part_in inside after (halts r) h f g = tt

  count-in : {T : Ty} {t : Running} (b : Bool) (r : Counted) → RuleIn sig r → RunningIn nodes sig t T → DueIn nodes sig T (count b r t)
  unfolding count
  count-in {T} {t} b r rule h = either (DueIn nodes sig T) b {x = counts r t} {y = halts spent} (λ _. (rule, h)) (λ _. tt)

  app_app-in : (T : Ty) (b : Bool) (a : Option Value) → AppliedIn nodes T a → DueIn nodes sig T (app_app b a)
  unfolding app_app
  app_app-in T b (some v) h = count-in b AppApp tt (val∈ h)
  app_app-in T b none h = tt

  cond-rule-in : (b : Bool) → RuleIn sig (cond_rule b)
  unfolding cond_rule
  cond-rule-in true = tt
  cond-rule-in false = tt

  module _ (context : ℕ → ℕ → Expr) (c : ContextIn nodes sig context) (s : List Entry) (all : All (EntryIn nodes sig) s) (b : Bool) where
    -- what AttrApp puts into a form, a kept value or σ
    kept_or-in : (o : Occurrence) → OccurrenceIn nodes sig o → (k : Option Value) → kept s o ≡ k
        → RunningIn nodes sig (kept_or k (put o.node o.parameter (context o.node o.attribute))) (base (attribute_at sig o.attribute).result)
    unfolding kept_or
    kept_or-in o h none e = σ-in nodes sig context c o h
    kept_or-in o h (some v) e = val∈ (kept-in o all e)

    attr_app-in : (os : List Occurrence) (v : Value) (a : ℕ) (x : Value) → a < length sig → IsA nodes node_t v
        → IsA nodes (attribute_at sig a).parameter-type x
        → DueIn nodes sig (base (attribute_at sig a).result) (attr_app context s b os record { node = node_of v; attribute = a; parameter = x })
    unfolding attr_app
    attr_app-in os v a x ha hv hx =
        either D (eqb (node_of v) null) {x = halts (as_plain on_null)} (λ _. tt)
        (λ q. either D (circular s os _) {x = halts circle} (λ _. tt)
        (λ _. either D b {y = halts spent}
        (λ _. either D (too_deep s os _) {x = halts depth} (λ _. tt)
        (λ _. let o = due-occurrence nodes sig v a x ha hv hx q in (ha, form∈ (o, refl) (kept_or-in _ o _ refl))))
        (λ _. tt)))
      where
        D : Due → Type 0
        D d = DueIn nodes sig (base (attribute_at sig a).result) d

    pub due_in : (os : List Occurrence) (t : Running) (T : Ty) → RunningIn nodes sig t T → DueIn nodes sig T (due context s b os t)
    unfolding due
    due_in os _ T (val∈ h) = h
    due_in os _ T (cond∈ {c = c} {t = t} {e = e} hc ht he) =
        part_in _ _ (due context s b os c) (due_in os _ _ hc) (λ _ h. cond∈ h ht he)
        (λ v h. count-in b _ (cond-rule-in (truth v)) (either (λ u. RunningIn nodes sig u T) (truth v) (λ _. ht) (λ _. he)))
    due_in os _ T (app∈ {f = f} {x = x} {B = B} hf hx) =
        part_in _ _ (due context s b os f) (due_in os _ _ hf) (λ _ h. app∈ h hx)
        (λ v hv. part_in _ _ (due context s b os x) (due_in os _ _ hx) (λ _ h. app∈ (val∈ hv) h)
        (λ w hw. app_app-in T b (apply v w) (apply-in nodes B T v w hv hw)))
    due_in os _ _ (attr∈ {n = n} {x = x} {a = a} ha hn hx) =
        part_in _ _ (due context s b os n) (due_in os _ _ hn) (λ _ h. attr∈ ha h hx)
        (λ v hv. part_in _ _ (due context s b os x) (due_in os _ _ hx) (λ _ h. attr∈ ha (val∈ hv) h)
        (λ w hw. attr_app-in os v a w ha hv hw))
    due_in os _ _ (form∈ {o = o} {e = e} ho he) =
        part_in _ _ (due context s b (o ∷ os) e) (due_in (o ∷ os) _ _ he) (λ _ h. form∈ ho h)
        (λ v hv. (record { occurrence_in = ho.0; value-in = rw ho.1 at hv }, val∈ hv))

-- ---- The run

module _ (context : ℕ → ℕ → Expr) (capacity budget : ℕ) where
  -- A run of one more step goes by what is due.
  pub run-case : (P : Ended → Type 0) (k : ℕ) (st : State)
      → ((v : Value) → due_at context capacity budget st ≡ finished v → P record { ending = with_value v; entries = st.entries; steps = st.steps })
      → ((r : Counted) (t : Running) → due_at context capacity budget st ≡ counts r t
      → P (run context capacity budget k record { term = t; entries = st.entries; steps = suc st.steps }))
      → ((e : Entry) (t : Running) → due_at context capacity budget st ≡ writes e t
      → P (run context capacity budget k record { term = t; entries = write capacity st.entries e; steps = st.steps }))
      → ((r : Reason) → due_at context capacity budget st ≡ halts r → P record { ending = by r; entries = st.entries; steps = st.steps })
      → P (run context capacity budget (suc k) st)
  unfolding run
  run-case P k st f g h i = go (due_at context capacity budget st) refl
    where
      go : (d : Due) → due_at context capacity budget st ≡ d → P (run context capacity budget (suc k) st)
      go (finished v) e = rw (e, run) (f v e)
      go (counts r t) e = rw (e, run) (g r t e)
      go (writes w t) e = rw (e, run) (h w t e)
      go (halts r) e = rw (e, run) (i r e)

-- A state whose entries and expression are of their types, and an end whose entries and value are.
pub record StateIn (nodes : ℕ) (sig : List Attribute) (T : Ty) (st : State) : Type 0 where
  pub entries-in : All (EntryIn nodes sig) st.entries
  pub term_in : RunningIn nodes sig st.term T

pub record EndedIn (nodes : ℕ) (sig : List Attribute) (T : Ty) (end : Ended) : Type 0 where
  pub entries-in : All (EntryIn nodes sig) end.entries
  pub value-in : (v : Value) → end.ending ≡ with_value v → ValueIn nodes T v

module _ (nodes : ℕ) (sig : List Attribute) (context : ℕ → ℕ → Expr) (c : ContextIn nodes sig context) (capacity budget : ℕ) (T : Ty) where
  due-at-in : (st : State) → StateIn nodes sig T st → {d : Due} → due_at context capacity budget st ≡ d → DueIn nodes sig T d
  unfolding due_at
  due-at-in st h e =
      subst (DueIn nodes sig T) e (due_in nodes sig context c st.entries h.entries-in (ltb st.steps budget) [] st.term T h.term_in)

  counted-in : (st : State) → StateIn nodes sig T st → {r : Counted} {t : Running} → due_at context capacity budget st ≡ counts r t
      → StateIn nodes sig T record { term = t; entries = st.entries; steps = suc st.steps }
  counted-in st h e = record { entries-in = h.entries-in; term_in = (due-at-in st h e).1 }

  writing-in : (st : State) → StateIn nodes sig T st → {n : Entry} {t : Running} → due_at context capacity budget st ≡ writes n t
      → StateIn nodes sig T record { term = t; entries = write capacity st.entries n; steps = st.steps }
  writing-in st h e = record { entries-in = write-in capacity h.entries-in (due-at-in st h e).0; term_in = (due-at-in st h e).1 }

  -- The rules of the steps that it counts.
  pub traces-in : {st : State} {l : List Counted} → Traces context capacity budget st l → StateIn nodes sig T st → All (RuleIn sig) l
  traces-in (none_value e) h = all_none
  traces-in (none_by e) h = all_none
  traces-in (one_counted {st} e rest) h = all_cons (due-at-in st h e).0 (traces-in rest (counted-in st h e))
  traces-in (past_writing {st} e rest) h = traces-in rest (writing-in st h e)

  -- every state that a run comes to
  pub reaches-in : {first st : State} → Reaches context capacity budget first st → StateIn nodes sig T first → StateIn nodes sig T st
  reaches-in at_first h = h
  reaches-in (by_counted {st} before e) h = counted-in st (reaches-in before h) e
  reaches-in (by_writing {st} before e) h = writing-in st (reaches-in before h) e

  stopped-in : (r : Reason) (s : List Entry) (n : ℕ) → All (EntryIn nodes sig) s
      → EndedIn nodes sig T record { ending = by r; entries = s; steps = n }
  stopped-in r s n h = record { entries-in = h; value-in = λ v e. absurd (let z : ◌≡◌ {A = ℕ} 0 1 = cc in omega arith) }

  -- and its end
  pub run_in : (k : ℕ) (st : State) → All (EntryIn nodes sig) st.entries → RunningIn nodes sig st.term T
      → EndedIn nodes sig T (run context capacity budget k st)
  unfolding run
  run_in zero st hs ht = stopped-in spent st.entries st.steps hs
  run_in (suc k) st hs ht =
      run-case context capacity budget (EndedIn nodes sig T) k st
      (λ v e. record { entries-in = hs; value-in = λ w q. let same : v ≡ w = cc in subst (ValueIn nodes T) same (due-at-in st h e) })
      (λ r t e. let n = counted-in st h e in run_in k _ n.entries-in n.term_in)
      (λ w t e. let n = writing-in st h e in run_in k _ n.entries-in n.term_in)
      (λ r e. stopped-in r st.entries st.steps hs)
    where
      h : StateIn nodes sig T st
      h = record { entries-in = hs; term_in = ht }
