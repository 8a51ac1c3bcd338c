-- The machine's moves are the caching steps.
use mathlib.Core.Bool.{Bool, true, false}
use mathlib.Core.Bool as Bool
use Rattle.std.specs.Prelude.{Option, None as none, Some as some}
use mathlib.Core.List.{List, [], ◌∷◌}
use mathlib.Core.Path.{◌≡◌, refl, ap, ◌∙◌}
use Prim.Native.Nat.{ℕ, suc}
use lib.Dec.{ltb, eqb}
use Rattle.saiga.specs.Values.{null, truth, node_of, apply}
use Rattle.saiga.specs.declared.Value.{Value}
use Rattle.saiga.specs.declared.Value.TheVariants.{Unit as unit}
use Rattle.saiga.specs.Expressions.{Expr, Head, base_literal, function_literal, if_head, application_head, attribute_head, this_head, parameter_head, no_head, head_of}
use Rattle.saiga.specs.Sheet.{Sheet, rule_scope, Definition, undefined, figure, piece_of, forward_of, definition, whole_expr, definition_expr, context}
use Rattle.saiga.specs.Terms.{Occurrence, val, app, attr, form, put}
use Rattle.saiga.specs.Plain.{on_null, by_overflow}
use Rattle.saiga.specs.Caching.{Entry, Running, kept, write, Counted, CondTrue, CondFalse, AppApp, AttrApp, as_plain, circle, spent, depth, Due, finished, counts, writes, halts, due_part, count, cond_rule, app_app, kept_or, circular, too_deep, attr_app, due, State, with_value, by, Ended, due_at}
use Rattle.saiga.specs.Runs.{Runs, Traces}
use Rattle.saiga.proofs.RunEnds.{after, traces-after}
use Rattle.saiga.proofs.Keeping.{write_kept}
use Rattle.engine.specs.Machine.{Frame, on_if, on_left, on_skip, on_right, on_node, on_parameter, on_forward, on_form, Mode, evaluating, returning, Machine, open_forms, innermost, scope_in, plug, term_of, state_of, Move, finishes, moves, takes, stops, read_head, within, branch, application_due, defined, applied, attribute_due, give, read_next, move_of, move, Next, by_move, by_step}
use Rattle.engine.specs.Good.{Pieces, Ready, Good}
use Rattle.engine.proofs.Plugged.{Unfinished, carried, in_whole}
use Rattle.engine.proofs.Heads.{Inside, head-inside, none_inside, whole-parses, whole-over}

-- a machine that goes on is good
abbrev GoodAfter : Sheet → Move → Type 0
GoodAfter s (finishes v) = Unit {0}
GoodAfter s (moves m) = Good s m
GoodAfter s (takes r m) = Good s m
GoodAfter s (stops r) = Unit {0}

abbrev machine : Mode → List ℕ → List Frame → List Entry → ℕ → Machine
machine mode rest frames entries steps = record { mode = mode; rest = rest; frames = frames; entries = entries; steps = steps }

module _ (s : Sheet) (capacity budget : ℕ) where
  -- The second state is the first, or CacheWrite, which is not counted, leads to it.
  pub data Uncounted (st st' : State) : Type 0 where
    same : st' ≡ st → Uncounted st st'
    written : (e : Entry) (t : Running) → due_at (context s) capacity budget st ≡ writes e t
        → st' ≡ record { term = t; entries = write capacity st.entries e; steps = st.steps } → Uncounted st st'

  -- What is due at a state, where a machine that stands for it makes a move.
  abbrev pub Simulates : State → Move → Type 0
  Simulates st (finishes v) = due_at (context s) capacity budget st ≡ finished v
  Simulates st (moves m) = Uncounted st (state_of s m)
  Simulates st (takes r m) =
      (t : Running) × (due_at (context s) capacity budget st ≡ counts r t)
      × Uncounted (record { term = t; entries = st.entries; steps = suc st.steps }) (state_of s m)
  Simulates st (stops r) = due_at (context s) capacity budget st ≡ halts r

  -- a move that stands for what is due, and leads to a good machine
  abbrev Does : State → Move → Type 0
  Does st k = Simulates st k × GoodAfter s k

  module _ (fs : List Frame) (l : List ℕ) where
    -- the state in which some frames stand around a part
    abbrev around : Running → List Entry → ℕ → State
    around t entries steps = record { term = plug s fs t l; entries = entries; steps = steps }

    part-due : (t : Running) (entries : List Entry) (steps : ℕ) (d : Due) → Unfinished d
        → due (context s) entries (ltb steps budget) (open_forms fs) t ≡ d
        → due_at (context s) capacity budget (around t entries steps) ≡ carried (λ u. plug s fs u l) d
    unfolding due_at
    part-due t entries steps d = in_whole s (context s) entries (ltb steps budget) fs l t d

    -- CacheWrite of a form's value
    form-written : (o : Occurrence) (v : Value) (entries : List Entry) (steps : ℕ)
        → Uncounted (around (form o (val v)) entries steps) (around (val v) (write capacity entries record { occurrence = o; value = v }) steps)
    unfolding due due_part
    form-written o v entries steps =
        written (record { occurrence = o; value = v }) _ (part-due (form o (val v)) entries steps (writes record { occurrence = o; value = v } (val v)) tt refl) refl

    -- A counted step, if there is budget.
    counting : (t u : Running) (entries : List Entry) (steps : ℕ) (r : Counted) (next : Machine)
        → ((b : Bool) → due (context s) entries b (open_forms fs) t ≡ count b r u) → state_of s next ≡ around u entries (suc steps) → Good s next
        → Does (around t entries steps) (Bool.cond (ltb steps budget) (takes r next) (stops spent))
    unfolding due_part count
    counting t u entries steps r next is leads good = go (ltb steps budget) refl
      where
        go : (b : Bool) → ltb steps budget ≡ b → Does (around t entries steps) (Bool.cond b (takes r next) (stops spent))
        go true e = ((plug s fs u l, part-due t entries steps (counts r u) tt (is _ ∙ rw e), same leads), good)
        go false e = (part-due t entries steps (halts spent) tt (is _ ∙ rw e), tt)

  -- ---- Reading

  -- A head is read: what it stands for has the place of the expression.
  read-head : (m : Machine) (h : Head) (l : List ℕ) (e : Expr) (r : List ℕ) → Inside (scope_in s (open_forms m.frames)) l h e r → Ready s m.frames r
      → let next = read_head s capacity budget m h l in
      (state_of s next
      ≡ record {
        term = plug s m.frames (put (innermost (open_forms m.frames)).node (innermost (open_forms m.frames)).parameter e) r;
        entries = m.entries;
        steps = m.steps;
      }) × Good s next
  unfolding read_head state_of term_of open_forms plug put
  read-head m (base_literal t) l e r i ready = (rw (i.0, i.1), rw i.1 at ready)
  read-head m function_literal l e r i ready = (rw (i.0, i.1), rw i.1 at ready)
  read-head m if_head l e r i ready = (rw (i.3, i.4), (i.0, (i.1, i.2, rw i.4 at ready)))
  read-head m application_head l e r i ready = (rw (i.2, i.3), (i.0, (i.1, rw i.3 at ready)))
  read-head m attribute_head l e r i ready = (rw (i.2, i.3), (i.0, (i.1, rw i.3 at ready)))
  read-head m this_head l e r i ready = (rw (i.0, i.1), rw i.1 at ready)
  read-head m parameter_head l e r i ready = (rw (i.0, i.1), rw i.1 at ready)
  read-head m no_head l e r i ready = absurd i

  -- ---- A value given back

  branch-does : (v : Value) (fs : List Frame) (l : List ℕ) (entries : List Entry) (steps : ℕ) → Ready s (on_if ∷ fs) l → (b : Bool) → truth v ≡ b
      → let m = machine (returning v) l (on_if ∷ fs) entries steps in Does (state_of s m) (branch s capacity budget m b fs)
  unfolding state_of term_of open_forms plug branch within due due_part cond_rule
  branch-does v fs l entries steps ready true e = counting fs _ _ _ entries steps CondTrue _ (λ b. rw e) refl (ready.0, (ready.1, ready.2))
  branch-does v fs l entries steps ready false e = counting fs _ _ _ entries steps CondFalse _ (λ b. rw e) refl (ready.1, ready.2)

  application-does : (fs : List Frame) (l : List ℕ) (entries : List Entry) (steps : ℕ) → Ready s fs l → (f v : Value) (a : Option Value) → apply f v ≡ a
      → Does (around fs l (app (val f) (val v)) entries steps)
      (application_due s capacity budget (machine (returning v) l (on_right f ∷ fs) entries steps) fs a)
  unfolding state_of term_of application_due within due due_part app_app
  application-does fs l entries steps ready f v (some w) e = counting fs l _ (val w) entries steps AppApp _ (λ b. rw e) refl ready
  application-does fs l entries steps ready f v none e =
      (part-due fs l (app (val f) (val v)) entries steps (halts (as_plain by_overflow)) tt (rw e), tt)

  module _ (pieces : Pieces s) (m : Machine) (o : Occurrence) (fs : List Frame) (ready : Ready s fs m.rest) where
    -- AttrApp has opened the form of `t`, and the machine goes on from there.
    abbrev Opened : Running → Machine → Type 0
    Opened t next = Uncounted (around fs m.rest (form o t) m.entries (suc m.steps)) (state_of s next) × Good s next

    defined-opened : (d : Definition) → definition s o.node o.attribute ≡ d
        → Opened (put o.node o.parameter (definition_expr s o.attribute d)) (defined s capacity budget m o fs d)
    unfolding state_of term_of open_forms plug defined put definition_expr innermost scope_in whole_expr
    defined-opened undefined e = (form-written fs m.rest o unit m.entries (suc m.steps), ready)
    defined-opened (figure v) e = (form-written fs m.rest o v m.entries (suc m.steps), ready)
    defined-opened (piece_of p) e =
        let (x, r) = pieces.whole o.node o.attribute p e in
        let (parses, is) = whole-parses r in
        (same (rw (is, r, whole_expr)), (parses, ready))
    defined-opened (forward_of p) e =
        let (x, own, r) = pieces.forward o.node o.attribute p e in
        let (parses, is) = whole-parses r in
        (same (rw (is, own, whole_expr)), (parses, (whole-over (rule_scope s) p r, (o, m.rest, fs, refl), ready)))

    applied-opened : (k : Option Value) → kept m.entries o ≡ k
        → Opened (kept_or k (put o.node o.parameter (context s o.node o.attribute))) (applied s capacity budget m o fs k)
    unfolding state_of term_of kept_or applied context
    applied-opened none e = defined-opened (definition s o.node o.attribute) refl
    applied-opened (some v) e =
        (rw (write_kept capacity m.entries record { occurrence = o; value = v } e) at (form-written fs m.rest o v m.entries (suc m.steps)), ready)

    attribute-does : (t : Running)
        → ((b : Bool) → due (context s) m.entries b (open_forms fs) t ≡ attr_app (context s) m.entries b (open_forms fs) o)
        → Does (around fs m.rest t m.entries m.steps) (attribute_due s capacity budget m o fs)
    unfolding attribute_due attr_app due_part
    attribute-does t is = by-null (eqb o.node null) refl
      where
        st : State
        st = around fs m.rest t m.entries m.steps

        opened : Running
        opened = form o (kept_or (kept m.entries o) (put o.node o.parameter (context s o.node o.attribute)))

        next : Move
        next = takes (AttrApp o.attribute) (applied s capacity budget m o fs (kept m.entries o))

        due-here : (d : Due) → Unfinished d → attr_app (context s) m.entries (ltb m.steps budget) (open_forms fs) o ≡ d
            → due_at (context s) capacity budget st ≡ carried (λ u. plug s fs u m.rest) d
        due-here d u e = part-due fs m.rest t m.entries m.steps d u (is _ ∙ e)

        by-depth : (c : Bool) → too_deep m.entries (open_forms fs) o ≡ c → eqb o.node null ≡ false → circular m.entries (open_forms fs) o ≡ false
            → ltb m.steps budget ≡ true → Does st (Bool.cond c (stops depth) next)
        by-depth true e no_null no-circle left = (due-here (halts depth) tt (rw (no_null, no-circle, left, e)), tt)
        by-depth false e no_null no-circle left =
            let (u, g) = applied-opened (kept m.entries o) refl in
            ((_, due-here (counts (AttrApp o.attribute) opened) tt (rw (no_null, no-circle, left, e)), u), g)

        deep : Move
        deep = Bool.cond (too_deep m.entries (open_forms fs) o) (stops depth) next

        by_budget : (c : Bool) → ltb m.steps budget ≡ c → eqb o.node null ≡ false → circular m.entries (open_forms fs) o ≡ false
            → Does st (Bool.cond c deep (stops spent))
        by_budget true e no_null no-circle = by-depth (too_deep m.entries (open_forms fs) o) refl no_null no-circle e
        by_budget false e no_null no-circle = (due-here (halts spent) tt (rw (no_null, no-circle, e)), tt)

        by-circle : (c : Bool) → circular m.entries (open_forms fs) o ≡ c → eqb o.node null ≡ false
            → Does st (Bool.cond c (stops circle) (Bool.cond (ltb m.steps budget) deep (stops spent)))
        by-circle true e no_null = (due-here (halts circle) tt (rw (no_null, e)), tt)
        by-circle false e no_null = by_budget (ltb m.steps budget) refl no_null e

        by-null : (c : Bool) → eqb o.node null ≡ c
            → Does st (Bool.cond c (stops (as_plain on_null))
            (Bool.cond (circular m.entries (open_forms fs) o) (stops circle) (Bool.cond (ltb m.steps budget) deep (stops spent))))
        by-null true e = (due-here (halts (as_plain on_null)) tt (rw e), tt)
        by-null false e = by-circle (circular m.entries (open_forms fs) o) refl e

  give-does : Pieces s → (v : Value) (fs : List Frame) (l : List ℕ) (entries : List Entry) (steps : ℕ) → Ready s fs l
      → let m = machine (returning v) l fs entries steps in Does (state_of s m) (give s capacity budget m v fs)
  unfolding state_of term_of open_forms plug give within due_at due due_part
  give-does pieces v [] l entries steps ready = (refl, tt)
  give-does pieces v (on_if ∷ fs) l entries steps ready = branch-does v fs l entries steps ready (truth v) refl
  give-does pieces v (on_left ∷ fs) l entries steps ready = (same refl, (ready.0, ready.1))
  give-does pieces v (on_skip ∷ fs) l entries steps ready = (same refl, ready.1)
  give-does pieces v (on_right f ∷ fs) l entries steps ready =
      application-does fs l entries steps ready f v (apply f v) refl
  give-does pieces v (on_node a ∷ fs) l entries steps ready = (same refl, (ready.0, ready.1))
  give-does pieces v (on_parameter n a ∷ fs) l entries steps ready =
      attribute-does pieces (machine (returning v) l (on_parameter n a ∷ fs) entries steps)
      (record { node = node_of n; attribute = a; parameter = v }) fs ready (attr (val n) a (val v)) (λ b. refl)
  give-does pieces v (on_forward a ∷ fs) l entries steps ready = (same refl, ready.2)
  give-does pieces v (on_form o outer ∷ fs) l entries steps ready = (form-written fs outer o v entries steps, ready)

  -- ---- The moves

  evaluate-does : (l : List ℕ) (fs : List Frame) (entries : List Entry) (steps : ℕ)
      → let m = machine evaluating l fs entries steps in Good s m → Does (state_of s m) (moves (read_next s capacity budget m l))
  unfolding state_of term_of read_next
  evaluate-does [] fs entries steps good = none_inside good.0
  evaluate-does (c ∷ l) fs entries steps good =
      let (is, next) = read-head (machine evaluating (c ∷ l) fs entries steps) (head_of c) l _ _ (head-inside good.0) good.1 in
      (same is, next)

  does : Pieces s → (m : Machine) → Good s m → Does (state_of s m) (move s capacity budget m)
  unfolding move move_of
  does pieces m good = go m.mode good
    where
      go : (mode : Mode) → let n = machine mode m.rest m.frames m.entries m.steps in
          Good s n → Does (state_of s n) (move_of s capacity budget n mode)
      go evaluating good = evaluate-does m.rest m.frames m.entries m.steps good
      go (returning v) good = give-does pieces v m.frames m.rest m.entries m.steps good

  pub simulates : Pieces s → (m : Machine) → Good s m → Simulates (state_of s m) (move s capacity budget m)
  simulates pieces m good = (does pieces m good).0

  pub good-on : Pieces s → {m m' : Machine} → Good s m → Next s capacity budget m m' → Good s m'
  good-on pieces {m} good (by_move e) = rw e at (does pieces m good).1
  good-on pieces {m} good (by_step r e) = rw e at (does pieces m good).1

  -- ---- Runs

  uncounted : {st st' : State} {end : Ended} → Runs (context s) capacity budget st end → Uncounted st st' → Runs (context s) capacity budget st' end
  uncounted run (same is) = rw is run
  uncounted run (written e t d is) = rw is (after (context s) capacity budget run d)

  traces-uncounted : {st st' : State} {l : List Counted} → Traces (context s) capacity budget st l → Uncounted st st'
      → Traces (context s) capacity budget st' l
  traces-uncounted trace (same is) = rw is trace
  traces-uncounted trace (written e t d is) = rw is (traces-after (context s) capacity budget trace d)

  steps-uncounted : {st st' : State} → Uncounted st st' → st'.steps ≡ st.steps
  steps-uncounted (same is) = ap (λ st. st.steps) is
  steps-uncounted (written e t d is) = ap (λ st. st.steps) is

  -- an ended run after a move of the machine
  abbrev pub RunsOn : Machine → Ended → Move → Type 0
  RunsOn m end (finishes v) = end ≡ record { ending = with_value v; entries = m.entries; steps = m.steps }
  RunsOn m end (moves next) = Runs (context s) capacity budget (state_of s next) end
  RunsOn m end (takes r next) = Runs (context s) capacity budget (state_of s next) end
  RunsOn m end (stops r) = end ≡ record { ending = by r; entries = m.entries; steps = m.steps }

  pub runs_on : Pieces s → (m : Machine) → Good s m → {k : Move} → move s capacity budget m ≡ k
      → {end : Ended} → Runs (context s) capacity budget (state_of s m) end → RunsOn m end k
  unfolding state_of
  runs_on pieces m good {k} e {end} run = go k (rw e at (simulates pieces m good))
    where
      go : (k : Move) → Simulates (state_of s m) k → RunsOn m end k
      go (finishes v) d = after (context s) capacity budget run d
      go (moves next) u = uncounted run u
      go (takes r next) d = uncounted (after (context s) capacity budget run d.1) d.2
      go (stops r) d = after (context s) capacity budget run d

  -- its trace
  abbrev pub TracesOn : List Counted → Move → Type 0
  TracesOn l (finishes v) = l ≡ []
  TracesOn l (moves next) = Traces (context s) capacity budget (state_of s next) l
  TracesOn l (takes r next) = (rest : List Counted) × (l ≡ r ∷ rest) × Traces (context s) capacity budget (state_of s next) rest
  TracesOn l (stops r) = l ≡ []

  pub traces-on : Pieces s → (m : Machine) → Good s m → {k : Move} → move s capacity budget m ≡ k
      → {l : List Counted} → Traces (context s) capacity budget (state_of s m) l → TracesOn l k
  traces-on pieces m good {k} e {l} trace = go k (rw e at (simulates pieces m good))
    where
      go : (k : Move) → Simulates (state_of s m) k → TracesOn l k
      go (finishes v) d = traces-after (context s) capacity budget trace d
      go (moves next) u = traces-uncounted trace u
      go (takes r next) d =
          let (rest, is, on) = traces-after (context s) capacity budget trace d.1 in
          (rest, is, traces-uncounted on d.2)
      go (stops r) d = traces-after (context s) capacity budget trace d

  -- the count of its steps
  abbrev pub StepsOn : Machine → Move → Type 0
  StepsOn m (finishes v) = Unit {0}
  StepsOn m (moves next) = next.steps ≡ m.steps
  StepsOn m (takes r next) = next.steps ≡ suc m.steps
  StepsOn m (stops r) = Unit {0}

  pub counts-on : Pieces s → (m : Machine) → Good s m → {k : Move} → move s capacity budget m ≡ k → StepsOn m k
  unfolding state_of
  counts-on pieces m good {k} e = go k (rw e at (simulates pieces m good))
    where
      go : (k : Move) → Simulates (state_of s m) k → StepsOn m k
      go (finishes v) d = tt
      go (moves next) u = steps-uncounted u
      go (takes r next) d = steps-uncounted d.2
      go (stops r) d = tt
