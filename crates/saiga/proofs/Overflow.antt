-- When stop 17 is due, by the ends of Int.
use mathlib.Core.Path.{refl}
use lib.IntN.{ℤ}
use Rattle.saiga.specs.Values.{number, exact, summed, apply_holding, apply}
use Rattle.saiga.specs.Plain.{step_part, plain_application, plain_step}
use Rattle.saiga.specs.Caching.{due_part, app_app, due}
use Rattle.saiga.specs.Overflow.{Exactly, OverflowLaw}
use Rattle.saiga.proofs.FourBytes.{by-ends}

exactly : (z : ℤ) → Exactly z (summed (exact z))
exactly z =
    by-ends (Exactly z) z (λ i. record { inside = λ _. refl; outside = λ no. absurd (no i) })
    (λ no. record { inside = λ i. absurd (no i); outside = λ _. refl })

pub overflow-law : OverflowLaw
unfolding number apply_holding apply due due_part app_app plain_step step_part plain_application
overflow-law = record {
  sums = λ x y. exactly _;
  differences = λ x y. exactly _;
  stops = λ f x e. record { caching = λ context s b os. rw e; plain = λ context. rw e };
}
