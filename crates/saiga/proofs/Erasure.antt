-- The caching steps against plain Saiga: a running expression with its forms removed is one that plain Saiga comes to.
use mathlib.Core.Bool.{Bool, true, false, ◌&&◌, ◌||◌}
use mathlib.Core.Bool as Bool
use mathlib.Core.Logic.{◌⊎◌, inl, inr}
use Rattle.std.specs.Prelude.{Option, None as none, Some as some}
use mathlib.Core.List.{List, ◌∷◌}
use mathlib.Core.Path.{◌≡◌, refl, sym, ◌∙◌, ap}
use Prim.Native.Nat.{ℕ, suc, ◌+◌}
use lib.Dec.{eqb}
use borrow.Author.Tests.{eqb-false}
use Rattle.saiga.specs.Values.{Value, null, truth, node_of, apply}
use Rattle.saiga.specs.Expressions.{Expr, literal, if, application, attribute, this, parameter}
use Rattle.saiga.specs.Terms.{Occurrence, val, cond, app, attr, form, put}
use Rattle.saiga.specs.Plain.{Plain, steps_to, on_null, ends_without, step_part, plain_application, plain_attribute, plain_step, plain_at, RunsForEver}
use Rattle.saiga.specs.Caching.{Entry, Running, kept, is_kept, Due, finished, counts, writes, halts, Counted, AppApp, AttrApp, as_plain, circle, spent, depth, due_part, count, app_app, same_occurrence, is_open, circular, too_deep, attr_app, kept_or, due}
use Rattle.saiga.specs.PlainCircles.{Around, whole, in_condition, in_function, in_argument, in_node, in_parameter, fill, DueOn, σ}
use Rattle.saiga.proofs.Equality.{same-occurrence}
use Rattle.saiga.proofs.Places.{due_inside, fill-steps, fill-ends, fill-comes, step-first, comes-on, for-ever-after, for-ever-inside, circle-again}

-- the forms removed
unfoldable pub erase : Running → Plain
erase (val v) = val v
erase (cond c t e) = cond (erase c) (erase t) (erase e)
erase (app f x) = app (erase f) (erase x)
erase (attr n a x) = attr (erase n) a (erase x)
erase (form o e) = erase e

module _ (context : ℕ → ℕ → Expr) where
  -- plain Saiga comes from one expression to another, by some steps
  pub record Comes (t t' : Plain) : Type 0 where
    pub count : ℕ
    pub reached : plain_at context count t ≡ some t'

  -- the same by one step or more
  pub record Advances (t t' : Plain) : Type 0 where
    pub more : ℕ
    pub reached : plain_at context (suc more) t ≡ some t'

  -- The value of an occurrence is what plain Saiga makes of σ.
  abbrev pub Yields : Occurrence → Value → Type 0
  Yields o v = Comes (σ context o) (val v)

  -- Each kept value is right.
  pub record Right (s : List Entry) : Type 0 where
    pub right : (o : Occurrence) (v : Value) → kept s o ≡ some v → Yields o v

  -- Inside each open form n.a(v) := e plain Saiga comes from σ(n, a, v) to e.
  abbrev pub Faithful : Running → Type 0
  Faithful (val v) = Unit {0}
  Faithful (cond c t e) = Faithful c × Faithful t × Faithful e
  Faithful (app f x) = Faithful f × Faithful x
  Faithful (attr n a x) = Faithful n × Faithful x
  Faithful (form o e) = Comes (σ context o) (erase e) × Faithful e

  -- Where the run stops for a circle, plain Saiga runs for ever, or an occurrence is due there whose form is one of those around.
  abbrev pub Circles : List Occurrence → Plain → Type 0
  Circles os p = RunsForEver context p ⊎ ((o : Occurrence) × (is_open os o ≡ true) × DueOn o p)

  -- What is due inside some forms, seen by plain Saiga at the expression p: a counted step is one or more plain steps, CacheWrite is none, and where
  -- the run stops for its budget a plain step is due.
  abbrev pub SeenAs : List Occurrence → Plain → Due → Type 0
  SeenAs os p (finished v) = p ≡ val v
  SeenAs os p (counts r t) = Advances p (erase t) × Faithful t
  SeenAs os p (writes e t) = (p ≡ erase t) × Faithful t × Yields e.occurrence e.value
  SeenAs os p (halts (as_plain why)) = plain_step context p ≡ ends_without why
  SeenAs os p (halts circle) = Circles os p
  SeenAs os p (halts spent) = (t : Plain) × (plain_step context p ≡ steps_to t)
  SeenAs os p (halts depth) = Unit {0}

  abbrev pub Seen : List Occurrence → Running → Due → Type 0
  Seen os t d = SeenAs os (erase t) d

  -- ---- What a sheet writes

  pub erase-put : (n : ℕ) (v : Value) (e : Expr) → erase (put n v e) ≡ put n v e
  unfolding erase put
  erase-put n v (literal w) = refl
  erase-put n v (if c t e) = λ i. cond (erase-put n v c i) (erase-put n v t i) (erase-put n v e i)
  erase-put n v (application f x) = λ i. app (erase-put n v f i) (erase-put n v x i)
  erase-put n v (attribute m a x) = λ i. attr (erase-put n v m i) a (erase-put n v x i)
  erase-put n v this = refl
  erase-put n v parameter = refl

  pub faithful-put : (n : ℕ) (v : Value) (e : Expr) → Faithful (put n v e)
  unfolding put
  faithful-put n v (literal w) = tt
  faithful-put n v (if c t e) = (faithful-put n v c, faithful-put n v t, faithful-put n v e)
  faithful-put n v (application f x) = (faithful-put n v f, faithful-put n v x)
  faithful-put n v (attribute m a x) = (faithful-put n v m, faithful-put n v x)
  faithful-put n v this = tt
  faithful-put n v parameter = tt

  -- ---- A part in its place

  circles-part : (os : List Occurrence) (around : Around) (p : Plain) → Circles os p → Circles os (fill around p)
  circles-part os around p (inl on) = inl (for-ever-inside context around p on)
  circles-part os around p (inr (o, among, d)) = inr (o, among, due_inside around d)

  seen-part : (os : List Occurrence) (within : Running → Running) (around : Around) → ((t : Running) → erase (within t) ≡ fill around (erase t))
      → ((t : Running) → Faithful t → Faithful (within t)) → (after : Value → Due) (p : Plain) (d : Due) → SeenAs os p d
      → ((v : Value) → p ≡ val v → SeenAs os (fill around p) (after v)) → SeenAs os (fill around p) (due_part within after d)
  unfolding due_part
  seen-part os within around same faithful after p (finished v) s g = g v s
  seen-part os within around same faithful after p (counts r t) s g =
      (record { more = s.0.more; reached = fill-comes context around _ p (erase t) s.0.reached ∙ ap some (sym (same t)) }, faithful t s.1)
  seen-part os within around same faithful after p (writes e t) s g = (ap (fill around) s.0 ∙ sym (same t), faithful t s.1, s.2)
  seen-part os within around same faithful after p (halts (as_plain why)) s g = fill-ends context around why p s
  seen-part os within around same faithful after p (halts circle) s g = circles-part os around p s
  seen-part os within around same faithful after p (halts spent) s g = (fill around s.0, fill-steps context around p s.0 s.1)
  seen-part os within around same faithful after p (halts depth) s g = tt

  -- ---- Comings put together

  pub then : {t t' t'' : Plain} → Comes t t' → Comes t' t'' → Comes t t''
  then {t} {t'} {t''} c d = record { count = c.count + d.count; reached = comes-on context _ _ t t' t'' c.reached d.reached }

  pub advances : {t t' t'' : Plain} → Comes t t' → Advances t' t'' → Comes t t''
  advances {t} {t'} {t''} c d = record { count = c.count + suc d.more; reached = comes-on context _ _ t t' t'' c.reached d.reached }

  here : (t : Plain) → Comes t t
  unfolding plain_at
  here t = record { count = 0; reached = refl }

  -- ---- The steps

  -- An occurrence that is due inside its own form: plain Saiga comes to it from its σ, and so runs for ever.
  circles-form : (os : List Occurrence) (o : Occurrence) (p : Plain) → Comes (σ context o) p → Circles (o ∷ os) p → Circles os p
  unfolding is_open
  circles-form os o p c (inl on) = inl on
  circles-form os o p c (inr (u, among, d)) = by-same (same_occurrence o u) refl among
    where
      by-same : (b : Bool) → same_occurrence o u ≡ b → (b || is_open os u) ≡ true → Circles os p
      by-same true same among =
          let own = same-occurrence o u same in
          inl (for-ever-after context c.count (σ context o) p c.reached
          (circle-again context o record { count = c.count; there = p; comes = c.reached; due = rw own d }))
      by-same false other among = inr (u, among, d)

  seen-form : (os : List Occurrence) (o : Occurrence) (p : Plain) → Comes (σ context o) p → (d : Due) → SeenAs (o ∷ os) p d
      → SeenAs os p (due_part (λ e. form o e) (λ v. writes record { occurrence = o; value = v } (val v)) d)
  unfolding due_part erase
  seen-form os o p c (finished v) s = (s, tt, rw s at c)
  seen-form os o p c (counts r t) s = (s.0, (advances c s.0, s.1))
  seen-form os o p c (writes e t) s = (s.0, (rw s.0 at c, s.1), s.2)
  seen-form os o p c (halts (as_plain why)) s = s
  seen-form os o p c (halts circle) s = circles-form os o p c s
  seen-form os o p c (halts spent) s = s
  seen-form os o p c (halts depth) s = tt

  module _ (s : List Entry) (right : Right s) (b : Bool) where
    -- AttrApp: the form holds the kept value, to which plain Saiga comes, or σ.
    seen-kept : (o : Occurrence) (k : Option Value) → kept s o ≡ k
        → Comes (σ context o) (erase (kept_or k (σ context o))) × Faithful (kept_or k (σ context o))
    unfolding kept_or erase
    seen-kept o none e = (
      rw (erase-put o.node o.parameter (context o.node o.attribute)) (here (σ context o)),
      faithful-put o.node o.parameter (context o.node o.attribute),
    )
    seen-kept o (some v) e = (right.right o v e, tt)

    seen-attr : (os : List Occurrence) (v : Value) (a : ℕ) (w : Value)
        → SeenAs os (attr (val v) a (val w)) (attr_app context s b os record { node = node_of v; attribute = a; parameter = w })
    unfolding attr_app plain_step step_part plain_attribute erase circular fill
    seen-attr os v a w = by-null (eqb (node_of v) null) refl
      where
        o : Occurrence
        o = record { node = node_of v; attribute = a; parameter = w }

        t : Running
        t = form o (kept_or (kept s o) (σ context o))

        p : Plain
        p = attr (val v) a (val w)

        -- the tests of attr_app, one after the other
        limits : Bool → Bool → Due
        limits c d = Bool.cond c (Bool.cond d (halts depth) (counts (AttrApp a) t)) (halts spent)

        steps : eqb (node_of v) null ≡ false → plain_step context p ≡ steps_to (σ context o)
        steps no_null = ap (λ z. Bool.cond z (ends_without on_null) (steps_to (σ context o))) no_null

        by-limits : eqb (node_of v) null ≡ false → (c d : Bool) → SeenAs os p (limits c d)
        by-limits no_null true true = tt
        by-limits no_null true false =
            let k = seen-kept o (kept s o) refl in
            (record { more = k.0.count; reached = step-first context _ _ (σ context o) _ (steps no_null) k.0.reached }, (k.0, k.1))
        by-limits no_null false d = (σ context o, steps no_null)

        due-here : eqb (node_of v) null ≡ false → DueOn o p
        due-here no_null = record { around = whole; on = v; node-of = refl; no_null = eqb-false (node_of v) null no_null; stands = refl }

        by-circle : eqb (node_of v) null ≡ false → (k among : Bool) → is_open os o ≡ among
            → SeenAs os p (Bool.cond (Bool.not k && among) (halts circle) (limits b (too_deep s os o)))
        by-circle no_null true among e = by-limits no_null b (too_deep s os o)
        by-circle no_null false true e = inr (o, e, due-here no_null)
        by-circle no_null false false e = by-limits no_null b (too_deep s os o)

        by-null : (z : Bool) → eqb (node_of v) null ≡ z
            → SeenAs os p (Bool.cond z (halts (as_plain on_null)) (Bool.cond (circular s os o) (halts circle) (limits b (too_deep s os o))))
        by-null true e = ap (λ z. Bool.cond z (ends_without on_null) (steps_to (σ context o))) e
        by-null false e = by-circle e (is_kept (kept s o)) (is_open os o) refl

    seen-count : (os : List Occurrence) (p : Plain) (r : Counted) (t : Running) → plain_step context p ≡ steps_to (erase t) → Faithful t
        → SeenAs os p (count b r t)
    unfolding count plain_at
    seen-count os p r t e f = go b
      where
        go : (c : Bool) → SeenAs os p (Bool.cond c (counts r t) (halts spent))
        go true = (record { more = 0; reached = step-first context 0 p (erase t) (erase t) e refl }, f)
        go false = (erase t, e)

    seen-app : (os : List Occurrence) (p : Plain) (a : Option Value) → plain_step context p ≡ plain_application a → SeenAs os p (app_app b a)
    unfolding plain_application app_app erase
    seen-app os p (some v) e = seen-count os p AppApp (val v) e tt
    seen-app os p none e = e

    branch : (z : Bool) (t e : Running) → Faithful t → Faithful e → (erase (Bool.cond z t e) ≡ Bool.cond z (erase t) (erase e)) × Faithful (Bool.cond z t e)
    branch true t e f g = (refl, f)
    branch false t e f g = (refl, g)

    seen_at : (os : List Occurrence) (t : Running) → Faithful t → Seen os t (due context s b os t)
    unfolding due erase plain_step step_part fill
    seen_at os (val v) f = refl
    seen_at os (cond c t e) f =
        seen-part os (λ c'. cond c' t e) (in_condition whole (erase t) (erase e)) (λ c'. refl)
        (λ c' g. (g, f.1, f.2)) _ (erase c) (due context s b os c) (seen_at os c f.0)
        (λ v h. let z = branch (truth v) t e f.1 f.2 in seen-count os _ _ _ (rw h (ap steps_to (sym z.0))) z.1)
    seen_at os (app g x) f =
        seen-part os (λ g'. app g' x) (in_function whole (erase x)) (λ g'. refl) (λ g' h. (h, f.1)) _ (erase g)
        (due context s b os g) (seen_at os g f.0)
        (λ v h. rw h
        (seen-part os (λ x'. app (val v) x') (in_argument v whole) (λ x'. refl) (λ x' k. (tt, k)) _ (erase x)
        (due context s b os x) (seen_at os x f.1) (λ w k. rw k (seen-app os _ (apply v w) refl))))
    seen_at os (attr n a x) f =
        seen-part os (λ n'. attr n' a x) (in_node whole a (erase x)) (λ n'. refl) (λ n' h. (h, f.1)) _ (erase n)
        (due context s b os n) (seen_at os n f.0)
        (λ v h. rw h
        (seen-part os (λ x'. attr (val v) a x') (in_parameter v a whole) (λ x'. refl) (λ x' k. (tt, k)) _ (erase x)
        (due context s b os x) (seen_at os x f.1) (λ w k. rw k (seen-attr os v a w))))
    seen_at os (form o e) f = seen-form os o (erase e) f.0 (due context s b (o ∷ os) e) (seen_at (o ∷ os) e f.1)

  pub seen : (s : List Entry) (has-budget : Bool) (os : List Occurrence) (t : Running) → Right s → Faithful t
      → Seen os t (due context s has-budget os t)
  seen s b os t r f = seen_at s r b os t f
