-- The rows of stop 20 hold, by computation.
use Rattle.std.specs.Prelude.{Some as some}
use mathlib.Core.Path.{◌≡◌, refl}
use Prim.Native.Nat.{ℕ}
use native.Mathlib.Omega.{arith}
use Rattle.saiga.specs.Values.{unit, node, node_of}
use Rattle.saiga.specs.Expressions.{Expr}
use Rattle.saiga.specs.Terms.{Occurrence, val, attr}
use Rattle.saiga.specs.Plain.{Plain, plain_at, RunsForEver}
use Rattle.saiga.specs.PlainCircles.{whole, fill, σ, ComesDue, CircleIn}
use Rattle.saiga.specs.TableL.{Plainly}
use Rattle.saiga.specs.TableStores.{outcomes}
use Rattle.saiga.specs.TableCircles.{PlainRounds, TableCircles}
use Rattle.saiga.proofs.Places.{circle-for-ever}
use Rattle.saiga.proofs.TableL.{definitions}

-- AttrApp of attribute 0 of node 0, with Unit parameter, which is due at the whole.
first : Occurrence
first = record { node = 0; attribute = 0; parameter = unit }

abbrev asks-first : Plain
asks-first = attr (val (node 0)) 0 (val unit)

first-due : (context : ℕ → ℕ → Expr) (t : Plain) (n : ℕ) → plain_at context n t ≡ some asks-first → ComesDue context t first
unfolding first fill node_of
first-due context t n comes = record {
  count = n;
  there = asks-first;
  comes = comes;
  due = record { around = whole; on = node 0; node-of = refl; no_null = omega arith; stands = refl };
}

-- It is due at once, and again after n steps of its own σ.
round : (context : ℕ → ℕ → Expr) (n : ℕ) → plain_at context n (σ context first) ≡ some asks-first
    → CircleIn context asks-first × RunsForEver context asks-first
unfolding plain_at
round context n comes =
    let circle : CircleIn context asks-first =
    record { occurrence = first; due = first-due context asks-first 0 refl; again = first-due context (σ context first) n comes } in
    (circle, circle-for-ever context asks-first circle)

plain-rounds : PlainRounds
unfolding definitions Plainly PlainRounds first
plain-rounds = ((_, _, refl, refl, round _ 0 refl), (_, _, refl, refl, round _ 7 refl), (_, _, refl, refl, refl))

pub table-circles : TableCircles
unfolding definitions outcomes TableCircles
table-circles = (refl, refl, plain-rounds)
