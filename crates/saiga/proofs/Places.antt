-- In plain Saiga a part is stepped inside the whole as it is alone; so an occurrence that comes due in the run of its own σ runs for ever.
use mathlib.Core.Bool.{Bool, true, false}
use Rattle.std.specs.Prelude.{Option, Some as some, unwrap_or}
use mathlib.Core.Path.{◌≡◌, refl, sym, ◌∙◌, ap}
use Prim.Native.Nat.{ℕ, zero, suc, ◌+◌, ◌-◌, ◌≤◌}
use native.Mathlib.Omega.{arith}
use native.Mathlib.Nat.{zero-add, suc-add, add_comm}
use lib.Dec.{leb}
use borrow.Author.Tests.{leb-true, leb-false, ne_eqb}
use Rattle.saiga.specs.Values.{null}
use Rattle.saiga.specs.Expressions.{Expr}
use Rattle.saiga.specs.Terms.{Occurrence, val, cond, app, attr}
use Rattle.saiga.specs.Plain.{Plain, NoValue, steps_to, ends_without, step_part, plain_attribute, plain_step, plain_at, RunsForEver}
use Rattle.saiga.specs.PlainCircles.{Around, whole, in_condition, in_function, in_argument, in_node, in_parameter, fill, DueOn, σ, ComesDue, CircleIn, AsAlone}
use Rattle.saiga.proofs.PlainFacts.{stepped}

-- A gap inside a gap.
unfoldable pub within : Around → Around → Around
within whole b = b
within (in_condition a t e) b = in_condition (within a b) t e
within (in_function a x) b = in_function (within a b) x
within (in_argument v a) b = in_argument v (within a b)
within (in_node a n x) b = in_node (within a b) n x
within (in_parameter v n a) b = in_parameter v n (within a b)

pub fill-within : (a b : Around) (p : Plain) → fill (within a b) p ≡ fill a (fill b p)
unfolding fill within
fill-within whole b p = refl
fill-within (in_condition a t e) b p = ap (λ c. cond c t e) (fill-within a b p)
fill-within (in_function a x) b p = ap (λ f. app f x) (fill-within a b p)
fill-within (in_argument v a) b p = ap (λ x. app (val v) x) (fill-within a b p)
fill-within (in_node a n x) b p = ap (λ m. attr m n x) (fill-within a b p)
fill-within (in_parameter v n a) b p = ap (λ x. attr (val v) n x) (fill-within a b p)

-- An occurrence that is due at a part is due at the whole.
pub due_inside : (around : Around) {o : Occurrence} {p : Plain} → DueOn o p → DueOn o (fill around p)
due_inside around {o} d = record {
  around = within around d.around;
  on = d.on;
  node-of = d.node-of;
  no_null = d.no_null;
  stands = ap (fill around) d.stands ∙ sym (fill-within around d.around (attr (val d.on) o.attribute (val o.parameter)));
}

module _ (context : ℕ → ℕ → Expr) where
  -- ---- A step of a part is one of the whole

  pub fill-steps : (around : Around) (p p' : Plain) → plain_step context p ≡ steps_to p' → plain_step context (fill around p) ≡ steps_to (fill around p')
  unfolding fill plain_step step_part
  fill-steps whole p p' h = h
  fill-steps (in_condition a t e) p p' h = rw (fill-steps a p p' h)
  fill-steps (in_function a x) p p' h = rw (fill-steps a p p' h)
  fill-steps (in_argument v a) p p' h = rw (fill-steps a p p' h)
  fill-steps (in_node a n x) p p' h = rw (fill-steps a p p' h)
  fill-steps (in_parameter v n a) p p' h = rw (fill-steps a p p' h)

  pub fill-ends : (around : Around) (why : NoValue) (p : Plain) → plain_step context p ≡ ends_without why → plain_step context (fill around p) ≡ ends_without why
  unfolding fill plain_step step_part
  fill-ends whole why p h = h
  fill-ends (in_condition a t e) why p h = rw (fill-ends a why p h)
  fill-ends (in_function a x) why p h = rw (fill-ends a why p h)
  fill-ends (in_argument v a) why p h = rw (fill-ends a why p h)
  fill-ends (in_node a n x) why p h = rw (fill-ends a why p h)
  fill-ends (in_parameter v n a) why p h = rw (fill-ends a why p h)

  -- One more step, and as many as are due, in the whole.
  pub step-first : (n : ℕ) (t t' t'' : Plain) → plain_step context t ≡ steps_to t' → plain_at context n t' ≡ some t'' → plain_at context (suc n) t ≡ some t''
  unfolding plain_at
  step-first n t t' t'' e h = rw (e, plain_at) h

  pub fill-comes : (around : Around) (n : ℕ) (p p' : Plain) → plain_at context n p ≡ some p' → plain_at context n (fill around p) ≡ some (fill around p')
  unfolding plain_at
  fill-comes around zero p p' h = ap (λ (o : Option Plain). some (fill around (unwrap_or o p))) h
  fill-comes around (suc n) p p' h =
      let s = stepped context n p p' h in
      step-first n (fill around p) (fill around s.0) (fill around p') (fill-steps around p s.0 s.1) (fill-comes around n s.0 p' s.2)

  -- Where AttrApp is due, σ takes the place of the part.
  pub opens : {o : Occurrence} {t : Plain} (d : DueOn o t) → plain_step context t ≡ steps_to (fill d.around (σ context o))
  unfolding plain_step step_part plain_attribute
  opens {o} d =
      rw d.stands
      (fill-steps d.around (attr (val d.on) o.attribute (val o.parameter)) (σ context o)
      (rw (d.node-of, ne_eqb o.node null d.no_null)))

  pub as-alone : AsAlone context
  as-alone = record { part = fill-comes; opened = opens; due_inside = due_inside }

  -- ---- Comings put together

  pub comes-on : (m n : ℕ) (t t' t'' : Plain) → plain_at context m t ≡ some t' → plain_at context n t' ≡ some t'' → plain_at context (m + n) t ≡ some t''
  unfolding plain_at
  comes-on zero n t t' t'' h k = let e : t ≡ t' = cc in rw (zero-add n, e) k
  comes-on (suc m) n t t' t'' h k =
      let s = stepped context m t t' h in
      rw (suc-add m n) (step-first (m + n) t s.0 t'' s.1 (comes-on m n s.0 t' t'' s.2 k))

  -- Where plain Saiga comes so far, it has come less far.
  pub sooner : (n m : ℕ) (t t' : Plain) → plain_at context (n + m) t ≡ some t' → (u : Plain) × (plain_at context n t ≡ some u)
  unfolding plain_at
  sooner zero m t t' h = (t, refl)
  sooner (suc n) m t t' h =
      let s = stepped context (n + m) t t' (rw (suc-add n m) at h) in
      let (u, comes) = sooner n m s.0 t' s.2 in
      (u, step-first n t s.0 u s.1 comes)

  -- Where it comes so far, it comes on from each state before.
  pub later : (n m : ℕ) (t u t' : Plain) → plain_at context n t ≡ some u → plain_at context (n + m) t ≡ some t' → plain_at context m u ≡ some t'
  unfolding plain_at
  later zero m t u t' h k = let e : u ≡ t = cc in rw e (rw (zero-add m) at k)
  later (suc n) m t u t' h k =
      let a = stepped context n t u h in
      let b = stepped context (n + m) t t' (rw (suc-add n m) at k) in
      let same : b.0 ≡ a.0 = cc (a.1, b.1) in
      later n m a.0 u t' a.2 (rw same at b.2)

  -- ---- Running for ever

  -- A state that runs for ever is come to by what runs for ever, and comes to nothing else; and what has it for a part runs for ever.
  pub for-ever-before : (n : ℕ) (t u : Plain) → plain_at context n t ≡ some u → RunsForEver context u → RunsForEver context t
  unfolding RunsForEver
  for-ever-before n t u comes on k =
      let (t', further) = on k in
      sooner k n t t' (rw (add_comm n k) at (comes-on n k t u t' comes further))

  pub for-ever-after : (n : ℕ) (t u : Plain) → plain_at context n t ≡ some u → RunsForEver context t → RunsForEver context u
  unfolding RunsForEver
  for-ever-after n t u comes on k = let (t', further) = on (n + k) in (t', later n k t u t' comes further)

  pub for-ever-inside : (around : Around) (p : Plain) → RunsForEver context p → RunsForEver context (fill around p)
  unfolding RunsForEver
  for-ever-inside around p on k = let (p', comes) = on k in (fill around p', fill-comes around k p p' comes)

  -- An occurrence that comes due in the run of its own σ: σ comes to an expression with σ in it, and so again and again.
  pub circle-again : (o : Occurrence) → ComesDue context (σ context o) o → RunsForEver context (σ context o)
  unfolding RunsForEver plain_at
  circle-again o c k = go k k (omega arith)
    where
      inner : Plain
      inner = fill c.due.around (σ context o)

      once : plain_at context (c.count + 1) (σ context o) ≡ some inner
      once = comes-on c.count 1 (σ context o) c.there inner c.comes (step-first 0 c.there inner inner (opens c.due) refl)

      go : (k n : ℕ) → n ≤ k → (t : Plain) × (plain_at context n (σ context o) ≡ some t)
      go zero n few = let none : n ≡ 0 = omega arith in (σ context o, rw none refl)
      go (suc k) n few = by_length (λ m fewer. go k m fewer) (leb n (c.count + 1)) refl
        where
          by_length : ((m : ℕ) → m ≤ k → (t : Plain) × (plain_at context m (σ context o) ≡ some t)) → (b : Bool) → leb n (c.count + 1) ≡ b
              → (t : Plain) × (plain_at context n (σ context o) ≡ some t)
          by_length shorter true short =
              let below = leb-true n (c.count + 1) short in
              let whole-count : n + (c.count + 1 - n) ≡ c.count + 1 = omega arith in
              sooner n (c.count + 1 - n) (σ context o) inner (rw whole-count once)
          by_length shorter false long =
              let above = leb-false n (c.count + 1) long in
              let rest = n - (c.count + 1) in
              let whole-count : c.count + 1 + rest ≡ n = omega arith in
              let (t, comes) = shorter rest (omega arith) in (
                fill c.due.around t,
                ap (λ k. plain_at context k (σ context o)) (sym whole-count)
                    ∙ comes-on (c.count + 1) rest (σ context o) inner (fill c.due.around t) once (fill-comes c.due.around rest (σ context o) t comes),
              )

  -- So a question in which an occurrence comes due inside its own evaluation runs for ever.
  pub circle-for-ever : (t : Plain) → CircleIn context t → RunsForEver context t
  unfolding plain_at
  circle-for-ever t c =
      let d = c.due in
      let inner = fill d.due.around (σ context c.occurrence) in
      for-ever-before d.count t d.there d.comes
      (for-ever-before 1 d.there inner (step-first 0 d.there inner inner (opens d.due) refl)
      (for-ever-inside d.due.around (σ context c.occurrence) (circle-again c.occurrence c.again)))
