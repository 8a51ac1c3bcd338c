-- A larger store brings the same ending in no more steps (document 01, demand 3, part (c)).
use mathlib.Core.Bool.{Bool, true, false, ◌&&◌}
use mathlib.Core.Bool as Bool
use mathlib.Core.Logic.{◌⊎◌, inl, inr}
use Rattle.std.specs.Prelude.{Option, None as none, Some as some}
use mathlib.Core.List.{List, [], ◌∷◌}
use mathlib.Core.Path.{◌≡◌, refl, ◌∙◌, ap}
use Prim.Native.Nat.{ℕ, suc, ◌≤◌}
use native.Mathlib.Omega.{arith}
use lib.Dec.{leb, ltb, eqb}
use lib.ListN.{length}
use borrow.Author.Tests.{leb-true, leb-false, ltb-true, lt-ltb}
use Rattle.saiga.specs.Limits.{depth_limit}
use Rattle.saiga.specs.Values.{Value, null, node_of, apply}
use Rattle.saiga.specs.Expressions.{Expr}
use Rattle.saiga.specs.Terms.{Occurrence, val, cond, app, attr, form, put}
use Rattle.saiga.specs.Plain.{plain_step, is_value, on_null, ends_without}
use Rattle.saiga.specs.Caching.{Entry, Running, kept, is_kept, write, Counted, AppApp, AttrApp, as_plain, circle, spent, depth, Due, finished, counts, writes, halts, due_part, count, app_app, kept_or, is_open, circular, too_deep, attr_app, due, State, Ending, with_value, by, Ended, due_at}
use Rattle.saiga.specs.Runs.{Runs, ends_value, ends_by, goes_counted, goes_writing}
use Rattle.saiga.proofs.Erasure.{erase, Yields, Right, Faithful, Seen, seen}
use Rattle.saiga.proofs.PlainFacts.{final_value, final-without, one_end, one_value}
use Rattle.saiga.proofs.RunEnds.{after}
use Rattle.saiga.proofs.Depth.{not-circular-kept, not-circular-closed, not-deep-kept, not-deep-few}
use Rattle.saiga.proofs.Keeping.{write_kept, write-full, write-alike, kept-write, kept_run, right-write, seen_at}

-- ---- The relations

-- What one store keeps the other keeps too.
abbrev pub Contained : List Entry → List Entry → Type 0
Contained s S = (o : Occurrence) (v : Value) → kept s o ≡ some v → kept S o ≡ some v

-- The stores of one list of questions at two capacities, C the smaller: one store until the smaller is full, and then, while that
-- one stands still, more and more in the larger.
pub data Nested (C : ℕ) (s S : List Entry) : Type 0 where
  alike : s ≡ S → Nested C s S
  frozen : C ≤ length s → Contained s S → Nested C s S

-- Where the smaller store has AttrApp go on, so has the larger inside the same forms: what is kept in the one is kept in the other.
module _ (s S : List Entry) (within : Contained s S) (os : List Occurrence) (o : Occurrence) where
  not-circular : circular s os o ≡ false → circular S os o ≡ false
  unfolding circular is_kept
  not-circular = go (kept s o) refl
    where
      go : (k : Option Value) → kept s o ≡ k → (Bool.not (is_kept k) && is_open os o) ≡ false → circular S os o ≡ false
      go none k closed = not-circular-closed S os o closed
      go (some v) k closed = not-circular-kept S os o (within o v k)

  not-deeper : too_deep s os o ≡ false → too_deep S os o ≡ false
  unfolding too_deep is_kept
  not-deeper = go (kept s o) refl
    where
      go : (k : Option Value) → kept s o ≡ k → (Bool.not (is_kept k) && leb depth_limit (length os)) ≡ false → too_deep S os o ≡ false
      go none k shallow = not-deep-few S os o (omega (arith, leb-false depth_limit (length os) shallow))
      go (some v) k shallow = not-deep-kept S os o (within o v k)

-- The second ending is the first's, with no more steps, where the first is one that plain Saiga has.
abbrev pub BringsIn : Ending → ℕ → Ended → Type 0
BringsIn (with_value v) c large = (large.ending ≡ with_value v) × (large.steps ≤ c)
BringsIn (by (as_plain why)) c large = (large.ending ≡ by (as_plain why)) × (large.steps ≤ c)
BringsIn (by circle) c large = Unit {0}
BringsIn (by spent) c large = Unit {0}
BringsIn (by depth) c large = Unit {0}

abbrev pub Brings : Ended → Ended → Type 0
Brings small large = BringsIn small.ending small.steps large

-- Two endings that are one.
one-ending : (C : ℕ) {end end' : Ended} → end' ≡ end → Nested C end.entries end'.entries × Brings end end'
one-ending C {end} same = rw same (alike refl, go end.ending refl)
  where
    go : (e : Ending) → end.ending ≡ e → BringsIn e end.steps end
    go (with_value v) is = (is, omega arith)
    go (by (as_plain why)) is = (is, omega arith)
    go (by circle) is = tt
    go (by spent) is = tt
    go (by depth) is = tt

-- The second expression is the first, but that some open forms of the first are in the second the values kept in S already.
data Ahead (S : List Entry) : Running → Running → Type 0 where
  same-val : {v : Value} → Ahead S (val v) (val v)
  in-cond : {c c' t e : Running} → Ahead S c c' → Ahead S (cond c t e) (cond c' t e)
  in_app : {f f' x x' : Running} → Ahead S f f' → Ahead S x x' → Ahead S (app f x) (app f' x')
  in-attr : {n n' x x' : Running} {a : ℕ} → Ahead S n n' → Ahead S x x' → Ahead S (attr n a x) (attr n' a x')
  in-form : {o : Occurrence} {e e' : Running} → Ahead S e e' → Ahead S (form o e) (form o e')
  done : {o : Occurrence} {e : Running} {v : Value} → kept S o ≡ some v → Ahead S (form o e) (val v)

ahead-refl : (S : List Entry) (t : Running) → Ahead S t t
ahead-refl S (val v) = same-val
ahead-refl S (cond c t e) = in-cond (ahead-refl S c)
ahead-refl S (app f x) = in_app (ahead-refl S f) (ahead-refl S x)
ahead-refl S (attr n a x) = in-attr (ahead-refl S n) (ahead-refl S x)
ahead-refl S (form o e) = in-form (ahead-refl S e)

-- What is ahead stays ahead when more is kept.
ahead_more : {S S' : List Entry} {t t' : Running} → Contained S S' → Ahead S t t' → Ahead S' t t'
ahead_more c same-val = same-val
ahead_more c (in-cond h) = in-cond (ahead_more c h)
ahead_more c (in_app h k) = in_app (ahead_more c h) (ahead_more c k)
ahead_more c (in-attr h k) = in-attr (ahead_more c h) (ahead_more c k)
ahead_more c (in-form h) = in-form (ahead_more c h)
ahead_more c (done {o} {v} k) = done (c o v k)

-- ---- One due step

module _ (context : ℕ → ℕ → Expr) (S : List Entry) where
  -- The second expression is ahead of the first, at once or after a CacheWrite of what is kept: AttrApp that finds a kept value
  -- leaves n.a(v) := w, and the write due there is not counted.
  data Lands (os : List Occurrence) (t t' : Running) : Type 0 where
    at_once : Ahead S t t' → Lands os t t'
    by-write : (n : Entry) {t'' : Running} → kept S n.occurrence ≡ some n.value
        → ((has-budget : Bool) → due context S has-budget os t' ≡ writes n t'') → Ahead S t t'' → Lands os t t'

  -- What the larger run does at the expression t' where the smaller does what is given: it stays ahead, or does the same.
  abbrev Follows : Bool → List Occurrence → Running → Due → Type 0
  Follows B os t' (finished v) = t' ≡ val v
  Follows B os t' (counts r t) = Ahead S t t' ⊎ ((t'' : Running) × (due context S B os t' ≡ counts r t'') × Lands os t t'')
  Follows B os t' (writes n t) = Ahead S t t' ⊎ ((t'' : Running) × (due context S B os t' ≡ writes n t'') × Ahead S t t'')
  Follows B os t' (halts (as_plain why)) = due context S B os t' ≡ halts (as_plain why)
  Follows B os t' (halts circle) = Unit {0}
  Follows B os t' (halts spent) = Unit {0}
  Follows B os t' (halts depth) = Unit {0}

  -- A part is followed in its place: `inside` around the smaller run's part, `inside'` around the larger's.
  module _ (os os' : List Occurrence) (inside inside' : Running → Running) (after : Bool → Value → Due)
      (place : (t t' : Running) → Ahead S t t' → Ahead S (inside t) (inside' t'))
      (at_part : (B : Bool) (t' : Running) → due context S B os (inside' t') ≡ due_part inside' (after B) (due context S B os' t')) where
    lands-part : {t t' : Running} → Lands os' t t' → Lands os (inside t) (inside' t')
    unfolding due_part
    lands-part {t} {t'} (at_once h) = at_once (place t t' h)
    lands-part {t} {t'} (by-write n {t''} k e h) =
        by-write n k (λ B. at_part B t' ∙ ap (due_part inside' (after B)) (e B)) (place t t'' h)

    follows-part : (B : Bool) (t' : Running) (after_small : Value → Due) (d : Due) → Follows B os' t' d
        → ((v : Value) → t' ≡ val v → Follows B os (inside' t') (after_small v)) → Follows B os (inside' t') (due_part inside after_small d)
    unfolding due_part
    follows-part B t' after_small (finished v) h k = k v h
    follows-part B t' after_small (counts r t) (inl h) k = inl (place t t' h)
    follows-part B t' after_small (counts r t) (inr h) k =
        inr (inside' h.0, at_part B t' ∙ ap (due_part inside' (after B)) h.1, lands-part h.2)
    follows-part B t' after_small (writes n t) (inl h) k = inl (place t t' h)
    follows-part B t' after_small (writes n t) (inr h) k =
        inr (inside' h.0, at_part B t' ∙ ap (due_part inside' (after B)) h.1, place t h.0 h.2)
    follows-part B t' after_small (halts (as_plain why)) h k = at_part B t' ∙ ap (due_part inside' (after B)) h
    follows-part B t' after_small (halts circle) h k = tt
    follows-part B t' after_small (halts spent) h k = tt
    follows-part B t' after_small (halts depth) h k = tt

  -- a counted step, where the larger run has budget if the smaller has
  follows-count : (b B : Bool) → (b ≡ true → B ≡ true) → (os' : List Occurrence) (r : Counted) (t t' : Running)
      → due context S B os' t' ≡ count B r t → Follows B os' t' (count b r t)
  unfolding count
  follows-count true B budgets os' r t t' e = inr (t, e ∙ ap (λ B. count B r t) (budgets refl), at_once (ahead-refl S t))
  follows-count false B budgets os' r t t' e = tt

  -- AppApp
  follows-app : (b B : Bool) → (b ≡ true → B ≡ true) → (os' : List Occurrence) (t' : Running) (a : Option Value)
      → due context S B os' t' ≡ app_app B a → Follows B os' t' (app_app b a)
  unfolding app_app
  follows-app b B budgets os' t' (some v) e = follows-count b B budgets os' AppApp (val v) t' e
  follows-app b B budgets os' t' none e = e

module _ (context : ℕ → ℕ → Expr) (s S : List Entry) (within : Contained s S) (r : Right context s) (R : Right context S)
    (b B : Bool) (budgets : b ≡ true → B ≡ true) where
  -- Inside a form that the larger run has done: plain Saiga makes of σ what is kept, so the smaller comes to that and to no other end.
  follows-done : (os : List Occurrence) (o : Occurrence) (e : Running) (v : Value) → kept S o ≡ some v → Faithful context (form o e)
      → Follows context S B os (val v) (due context s b os (form o e))
  unfolding due due_part plain_step
  follows-done os o e v k f = go (due context s b (o ∷ os) e) (seen context s b (o ∷ os) e r f.1)
    where
      y : Yields context o v
      y = R.right o v k

      go : (d : Due) → Seen context (o ∷ os) e d
          → Follows context S B os (val v) (due_part (λ e. form o e) (λ v. writes (record { occurrence = o; value = v }) (val v)) d)
      go (finished w) h =
          let same = one_value context y.count f.0.count _ v w y.reached (rw h at f.0.reached) in
          inl (rw same.0 same-val)
      go (counts c t) h = inl (done k)
      go (writes n t) h = inl (done k)
      go (halts (as_plain why)) h =
          let same = one_end context y.count f.0.count _ (val v) (erase e) y.reached f.0.reached
          (final_value context v) (final-without context why (erase e) h) in
          let step : is_value v ≡ ends_without why = ap (plain_step context) same.0 ∙ h in
          cc
      go (halts circle) h = tt
      go (halts spent) h = tt
      go (halts depth) h = tt

  -- AttrApp, which may find a value in the larger store alone.
  follows-attr : (os : List Occurrence) (n w : Value) (a : ℕ)
      → Follows context S B os (attr (val n) a (val w)) (attr_app context s b os (record { node = node_of n; attribute = a; parameter = w }))
  unfolding attr_app due due_part kept_or
  follows-attr os n w a = by-null (eqb (node_of n) null) refl
    where
      o : Occurrence
      o = record { node = node_of n; attribute = a; parameter = w }

      given : Running
      given = put (node_of n) w (context (node_of n) a)

      -- σ or the kept value, by what a store keeps
      opened : List Entry → Running
      opened l = form o (kept_or (kept l o) given)

      found : (k : Option Value) → kept S o ≡ k → Lands context S os (form o given) (opened S)
      found none e = rw e (at_once (ahead-refl S (form o given)))
      found (some v) e = rw e (by-write (record { occurrence = o; value = v }) e (λ B. refl) (done e))

      lands : (k : Option Value) → kept s o ≡ k → Lands context S os (opened s) (opened S)
      lands none e = rw e (found (kept S o) refl)
      lands (some v) e = rw (e, within o v e) (at_once (ahead-refl S (form o (val v))))

      -- the tests of attr_app, one after the other
      by-depth : (d : Bool) → too_deep s os o ≡ d → eqb (node_of n) null ≡ false → circular s os o ≡ false → B ≡ true
          → Follows context S B os (attr (val n) a (val w)) (Bool.cond d (halts depth) (counts (AttrApp a) (opened s)))
      by-depth true e no_null no-circle budget = tt
      by-depth false e no_null no-circle budget =
          inr (opened S, rw (no_null, not-circular s S within os o no-circle, budget, not-deeper s S within os o e), lands (kept s o) refl)

      deep : Due
      deep = Bool.cond (too_deep s os o) (halts depth) (counts (AttrApp a) (opened s))

      by_budget : (c : Bool) → b ≡ c → eqb (node_of n) null ≡ false → circular s os o ≡ false
          → Follows context S B os (attr (val n) a (val w)) (Bool.cond c deep (halts spent))
      by_budget true e no_null no-circle = by-depth (too_deep s os o) refl no_null no-circle (budgets e)
      by_budget false e no_null no-circle = tt

      by-circle : (c : Bool) → circular s os o ≡ c → eqb (node_of n) null ≡ false
          → Follows context S B os (attr (val n) a (val w)) (Bool.cond c (halts circle) (Bool.cond b deep (halts spent)))
      by-circle true e no_null = tt
      by-circle false e no_null = by_budget b refl no_null e

      by-null : (z : Bool) → eqb (node_of n) null ≡ z
          → Follows context S B os (attr (val n) a (val w))
          (Bool.cond z (halts (as_plain on_null)) (Bool.cond (circular s os o) (halts circle) (Bool.cond b deep (halts spent))))
      by-null true e = rw e
      by-null false e = by-circle (circular s os o) refl e

  -- Whatever the smaller run does, the larger follows.
  follows : (os : List Occurrence) {t t' : Running} → Ahead S t t' → Faithful context t → Follows context S B os t' (due context s b os t)
  unfolding due due_part
  follows os same-val f = refl
  follows os (in-cond {c} {c'} {t} {e} h) f =
      follows-part context S os os (λ c. cond c t e) (λ c. cond c t e) _ (λ u u' h. in-cond h) (λ B u. refl)
      B c' _ (due context s b os c) (follows os h f.0)
      λ v is. follows-count context S b B budgets os _ _ (cond c' t e) (ap (λ u. due context S B os (cond u t e)) is)
  follows os (in_app {f = g} {f' = g'} {x} {x'} h k) f =
      follows-part context S os os (λ g. app g x) (λ g. app g x') _ (λ u u' h. in_app h k) (λ B u. refl)
      B g' _ (due context s b os g) (follows os h f.0)
      λ v is. rw is (
      follows-part context S os os (λ x. app (val v) x) (λ x. app (val v) x) _ (λ u u' h. in_app same-val h) (λ B u. refl)
      B x' _ (due context s b os x) (follows os k f.1)
      λ w is. follows-app context S b B budgets os (app (val v) x') (apply v w) (ap (λ u. due context S B os (app (val v) u)) is))
  follows os (in-attr {n} {n'} {x} {x'} {a} h k) f =
      follows-part context S os os (λ n. attr n a x) (λ n. attr n a x') _ (λ u u' h. in-attr h k) (λ B u. refl)
      B n' _ (due context s b os n) (follows os h f.0)
      λ v is. rw is (
      follows-part context S os os (λ x. attr (val v) a x) (λ x. attr (val v) a x) _ (λ u u' h. in-attr same-val h) (λ B u. refl)
      B x' _ (due context s b os x) (follows os k f.1)
      λ w is. rw is (follows-attr os v w a))
  follows os (in-form {o} {e} {e'} h) f =
      follows-part context S os (o ∷ os) (λ e. form o e) (λ e. form o e) _ (λ u u' h. in-form h) (λ B u. refl)
      B e' _ (due context s b (o ∷ os) e) (follows (o ∷ os) h f.1)
      λ v is. inr (val v, ap (λ u. due context S B os (form o u)) is, same-val)
  follows os (done {o} {e} {v} k) f = follows-done os o e v k f

-- ---- Runs

module _ (context : ℕ → ℕ → Expr) (C budget : ℕ) where
  -- A full store stands still.
  stands : {st : State} {end : Ended} → Runs context C budget st end → C ≤ length st.entries → end.entries ≡ st.entries
  stands (ends_value d) full = refl
  stands (ends_by d) full = refl
  stands (goes_counted d rest) full = stands rest full
  stands (goes_writing {st} {n} d rest) full =
      let still = write-full C st.entries n full in stands rest (rw still full) ∙ still

-- The smaller run, its store full, is behind the larger.
record Behind (context : ℕ → ℕ → Expr) (C : ℕ) (st st' : State) : Type 0 where
  full : C ≤ length st.entries
  within : Contained st.entries st'.entries
  right-small : Right context st.entries
  right-large : Right context st'.entries
  faithful : Faithful context st.term
  ahead : Ahead st'.entries st.term st'.term
  no_more : st'.steps ≤ st.steps

module _ (context : ℕ → ℕ → Expr) (C C' budget : ℕ) where
  -- What the larger run does at its state, where the smaller does what is due.
  followed : (st st' : State) → Behind context C st st'
      → Follows context st'.entries (ltb st'.steps budget) [] st'.term (due_at context C budget st)
  unfolding due_at
  followed st st' h =
      follows context st.entries st'.entries h.within h.right-small h.right-large (ltb st.steps budget) (ltb st'.steps budget)
      (λ e. lt-ltb st'.steps budget (omega (arith, ltb-true st.steps budget e, h.no_more))) [] h.ahead h.faithful

  -- Both go on with their stores as they are.
  onward : {st st' : State} → Behind context C st st' → {t t' : Running} → Faithful context t → Ahead st'.entries t t' → {k k' : ℕ} → k' ≤ k
      → Behind context C (record { term = t; entries = st.entries; steps = k }) (record { term = t'; entries = st'.entries; steps = k' })
  onward h f a le = record {
    full = h.full;
    within = h.within;
    right-small = h.right-small;
    right-large = h.right-large;
    faithful = f;
    ahead = a;
    no_more = le;
  }

  -- one expression, at a full store and at one that holds it
  start : (s S : List Entry) → C ≤ length s → Contained s S → Right context s → Right context S → (t : Running) → Faithful context t → (k : ℕ)
      → Behind context C (record { term = t; entries = s; steps = k }) (record { term = t; entries = S; steps = k })
  start s S full within r R t f k = record {
    full = full;
    within = within;
    right-small = r;
    right-large = R;
    faithful = f;
    ahead = ahead-refl S t;
    no_more = omega arith;
  }

  -- The larger run from any state ahead of this one brings the ending.
  abbrev Caught : State → Ended → Type 0
  Caught st small = (st' : State) → Behind context C st st' → (large : Ended) → Runs context C' budget st' large → Brings small large

  -- After a counted step of both the larger makes the write that may be due of what is kept.
  landed : {st st' : State} → Behind context C st st' → {t t' : Running} → Faithful context t → Lands context st'.entries [] t t'
      → (small : Ended) {large : Ended}
      → Caught (record { term = t; entries = st.entries; steps = suc st.steps }) small
      → Runs context C' budget (record { term = t'; entries = st'.entries; steps = suc st'.steps }) large → Brings small large
  unfolding due_at
  landed h f (at_once a) small rest run = rest _ (onward h f a (omega (arith, h.no_more))) _ run
  landed {st} {st'} h f (by-write n k e a) small rest run =
      rest _ (onward h f a (omega (arith, h.no_more))) _ (rw (write_kept C' st'.entries n k) at (after context C' budget run (e _)))

  -- A counted step and a CacheWrite of the smaller run.
  counted : {st st' : State} → Behind context C st st' → {r : Counted} {t : Running} → Faithful context t
      → Follows context st'.entries (ltb st'.steps budget) [] st'.term (counts r t) → (small : Ended) {large : Ended}
      → Caught (record { term = t; entries = st.entries; steps = suc st.steps }) small → Runs context C' budget st' large → Brings small large
  unfolding due_at
  counted {st'} h f (inl a) small rest run = rest st' (onward h f a (omega (arith, h.no_more))) _ run
  counted h f (inr go) small rest run = landed h f go.2 small rest (after context C' budget run go.1)

  written : {st st' : State} → Behind context C st st' → {n : Entry} {t : Running} → Faithful context t → Yields context n.occurrence n.value
      → Follows context st'.entries (ltb st'.steps budget) [] st'.term (writes n t) → (small : Ended) {large : Ended}
      → Caught (record { term = t; entries = st.entries; steps = st.steps }) small → Runs context C' budget st' large → Brings small large
  unfolding due_at
  written {st'} h f y (inl a) small rest run = rest st' (onward h f a h.no_more) _ run
  written {st} {st'} h {n} f y (inr go) small rest run =
      let more : Contained st'.entries (write C' st'.entries n) = λ o v k. kept-write C' st'.entries n o v k in
      rest _ (record {
        full = h.full;
        within = λ o v k. more o v (h.within o v k);
        right-small = h.right-small;
        right-large = right-write context C' st'.entries n h.right-large y;
        faithful = f;
        ahead = ahead_more more go.2;
        no_more = h.no_more;
      }) _ (after context C' budget run go.1)

  -- The larger run brings the ending of the smaller one behind it.
  catches : {st : State} {small : Ended} → Runs context C budget st small → Caught st small
  unfolding due_at due
  catches (ends_value {st} {v} d) st' h large run =
      let is : st'.term ≡ val v = rw d at (followed st st' h) in
      let end = after context C' budget run (ap (λ t. due context st'.entries (ltb st'.steps budget) [] t) is) in
      rw end (refl, h.no_more)
  catches (ends_by {st} {r = as_plain why} d) st' h large run =
      let end = after context C' budget run (rw d at (followed st st' h)) in
      rw end (refl, h.no_more)
  catches (ends_by {r = circle} d) st' h large run = tt
  catches (ends_by {r = spent} d) st' h large run = tt
  catches (ends_by {r = depth} d) st' h large run = tt
  catches (goes_counted {st} {e} d rest) st' h large run =
      let step = rw d at (seen_at context C budget st h.right-small h.faithful) in
      counted h step.1 (rw d at (followed st st' h)) e (λ u b l run. catches rest u b l run) run
  catches (goes_writing {st} {n} {e} d rest) st' h large run =
      let step = rw d at (seen_at context C budget st h.right-small h.faithful) in
      let still = write-full C st.entries n h.full in
      written h step.1 step.2 (rw d at (followed st st' h)) e (λ u b l run. catches rest u (rw still b) l run) run

  -- from a full store on
  beyond : {st : State} {small : Ended} → Runs context C budget st small → {st' : State} → Behind context C st st'
      → {large : Ended} → Runs context C' budget st' large → Nested C small.entries large.entries × Brings small large
  beyond {st} {small} first {st'} h {large} second =
      let still = stands context C budget first h.full in
      (frozen (rw still h.full) (λ o v k. kept_run second o v (h.within o v (rw still at k))), catches first st' h large second)

  -- as long as there is one store
  together : C ≤ C' → {st : State} {small : Ended} → Runs context C budget st small → Right context st.entries → Faithful context st.term
      → {large : Ended} → Runs context C' budget st large → Nested C small.entries large.entries × Brings small large
  unfolding due_at write
  together le (ends_value d) r f second = one-ending C (after context C' budget second d)
  together le (ends_by d) r f second = one-ending C (after context C' budget second d)
  together le (goes_counted {st} d rest) r f second =
      let step = rw d at (seen_at context C budget st r f) in together le rest r step.1 (after context C' budget second d)
  together le (goes_writing {st} {n} {t} {e} d rest) r f {large} second =
      let step = rw d at (seen_at context C budget st r f) in
      by-room (leb C (length st.entries)) refl
      (λ written. together le rest (right-write context C st.entries n r step.2) step.1 written)
    where
      by-room : (b : Bool) → leb C (length st.entries) ≡ b
          → (Runs context C' budget (record { term = t; entries = write C st.entries n; steps = st.steps }) large
          → Nested C e.entries large.entries × Brings e large)
          → Nested C e.entries large.entries × Brings e large
      by-room true full go =
          beyond (goes_writing d rest)
          (start st.entries st.entries (leb-true C (length st.entries) full) (λ o v k. k) r r st.term f st.steps) second
      by-room false room go = go (rw (write-alike C C' st.entries n le room) (after context C' budget second d))

-- A larger store brings the same ending in no more steps, and stays the larger store.
pub larger : (context : ℕ → ℕ → Expr) (C C' budget : ℕ) → C ≤ C' → (s S : List Entry) → Nested C s S → Right context s → Right context S
    → (t : Running) → Faithful context t → {small large : Ended}
    → Runs context C budget (record { term = t; entries = s; steps = 0 }) small → Runs context C' budget (record { term = t; entries = S; steps = 0 }) large
    → Nested C small.entries large.entries × Brings small large
larger context C C' budget le s S (alike same) r R t f first second = together context C C' budget le first r f (rw same second)
larger context C C' budget le s S (frozen full within) r R t f first second =
    beyond context C C' budget first (start context C C' budget s S full within r R t f 0) second
