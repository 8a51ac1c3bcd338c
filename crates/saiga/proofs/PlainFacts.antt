-- Plain Saiga is deterministic.
use Rattle.std.specs.Prelude.{Some as some}
use Rattle.std.proofs.lemmas.Option.{none-some}
use mathlib.Core.Path.{◌≡◌, refl, sym, ◌∙◌, ap}
use Prim.Native.Nat.{ℕ, zero, suc, ◌≤◌, zero-le, suc-le-suc}
use native.Mathlib.Omega.{arith}
use Rattle.saiga.specs.Values.{Value}
use Rattle.saiga.specs.Expressions.{Expr}
use Rattle.saiga.specs.Terms.{val}
use Rattle.saiga.specs.Plain.{Plain, PlainStep, is_value, steps_to, NoValue, ends_without, plain_step, plain_at}

module _ (context : ℕ → ℕ → Expr) where
  -- Where plain Saiga comes on by one step and more, the first of them is due.
  pub stepped : (n : ℕ) (t t'' : Plain) → plain_at context (suc n) t ≡ some t'' → (t' : Plain) × (plain_step context t ≡ steps_to t') × (plain_at context n t' ≡ some t'')
  unfolding plain_at
  stepped n t t'' p = go (plain_step context t) refl
    where
      go : (d : PlainStep) → plain_step context t ≡ d → (t' : Plain) × (plain_step context t ≡ steps_to t') × (plain_at context n t' ≡ some t'')
      go (is_value u) e = absurd (none-some t'' (rw (e, plain_at) at p))
      go (steps_to t') e = (t', e, rw (e, plain_at) at p)
      go (ends_without why) e = absurd (none-some t'' (rw (e, plain_at) at p))

  -- No step is due: a value, or an ending without one.
  abbrev pub Final : Plain → Type 0
  Final t = (t' : Plain) → plain_step context t ≡ steps_to t' → ⊥

  pub final_value : (v : Value) → Final (val v)
  unfolding plain_step
  final_value v t' e = let z : ◌≡◌ {A = ℕ} 0 1 = cc in omega arith

  pub final-without : (why : NoValue) (t : Plain) → plain_step context t ≡ ends_without why → Final t
  final-without why t h t' e = let z : ◌≡◌ {A = ℕ} 0 1 = cc in omega arith

  -- Plain Saiga comes no further than where no step is due.
  pub last : (n m : ℕ) (q t t' : Plain) → plain_at context n q ≡ some t → Final t → plain_at context m q ≡ some t' → m ≤ n
  unfolding plain_at
  last n zero q t t' h f k = zero-le
  last zero (suc m) q t t' h f k =
      let s = stepped m q t' k in
      let e : q ≡ t = cc in
      absurd (f s.0 (ap (plain_step context) (sym e) ∙ s.1))
  last (suc n) (suc m) q t t' h f k =
      let a = stepped n q t h in
      let b = stepped m q t' k in
      let same : b.0 ≡ a.0 = cc (a.1, b.1) in
      suc-le-suc (last n m a.0 t t' a.2 f (rw same at b.2))

  -- Where it ends, and the count then, are settled by where it began.
  pub one_end : (n m : ℕ) (t u w : Plain) → plain_at context n t ≡ some u → plain_at context m t ≡ some w → Final u → Final w → (u ≡ w) × (n ≡ m)
  one_end n m t u w p q ends-u ends-w =
      let mn = last n m t u w p ends-u q in
      let nm = last m n t w u q ends-w p in
      let same : n ≡ m = omega arith in
      (let p' = rw same at p in cc, same)

  pub one_value : (n m : ℕ) (t : Plain) (v w : Value) → plain_at context n t ≡ some (val v) → plain_at context m t ≡ some (val w) → (v ≡ w) × (n ≡ m)
  one_value n m t v w p q = let same = one_end n m t (val v) (val w) p q (final_value v) (final_value w) in (cc same.0, same.1)
