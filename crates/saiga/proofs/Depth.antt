-- When stops 20 and 16 are due, by what is kept, which forms are open and how many.
use mathlib.Core.Bool.{false, true, and-false}
use mathlib.Core.Bool as Bool
use Rattle.std.specs.Prelude.{None as none, Some as some}
use mathlib.Core.List.{List}
use mathlib.Core.Path.{◌≡◌, refl}
use Prim.Native.Nat.{◌≤◌, ◌<◌}
use lib.Dec.{eqb}
use lib.ListN.{length}
use borrow.Author.Tests.{le-leb, lt-leb, ne_eqb}
use Rattle.saiga.specs.Limits.{depth_limit}
use Rattle.saiga.specs.Values.{Value, null}
use Rattle.saiga.specs.Terms.{Occurrence}
use Rattle.saiga.specs.Caching.{Entry, kept, is_kept, due_part, kept_or, is_open, circular, too_deep, attr_app, due}
use Rattle.saiga.specs.Depth.{DepthLaw, NullFirst}
use Rattle.saiga.proofs.Keeping.{write_kept}

-- Depth is due for no occurrence that is kept, and for none inside fewer than 64 forms, and for every other.
module _ (s : List Entry) (os : List Occurrence) (o : Occurrence) where
  pub not-deep-kept : {v : Value} → kept s o ≡ some v → too_deep s os o ≡ false
  unfolding too_deep is_kept
  not-deep-kept k = rw k

  pub not-deep-few : length os < depth_limit → too_deep s os o ≡ false
  unfolding too_deep
  not-deep-few few = rw (lt-leb depth_limit (length os) few) (and-false (Bool.not (is_kept (kept s o))))

  pub deep-missing : kept s o ≡ none → depth_limit ≤ length os → too_deep s os o ≡ true
  unfolding too_deep is_kept
  deep-missing k many = rw (k, le-leb depth_limit (length os) many)

-- A circle is due for no occurrence that is kept, and for none that is not open, and for every other.
module _ (s : List Entry) (os : List Occurrence) (o : Occurrence) where
  pub not-circular-kept : {v : Value} → kept s o ≡ some v → circular s os o ≡ false
  unfolding circular is_kept
  not-circular-kept k = simp k

  pub not-circular-closed : is_open os o ≡ false → circular s os o ≡ false
  unfolding circular
  not-circular-closed closed = simp (closed, and-false)

  pub circular-open : kept s o ≡ none → is_open os o ≡ true → circular s os o ≡ true
  unfolding circular is_kept
  circular-open k among = simp (k, among)

pub depth-law : DepthLaw
unfolding attr_app due due_part kept_or
depth-law context s os o no_null =
    let node : eqb o.node null ≡ false = ne_eqb o.node null no_null in
    record {
      by_kept = λ v k. record {
        counts_one = rw (node, not-circular-kept s os o k, not-deep-kept s os o k, k);
        ended = λ b. refl;
        unchanged = λ capacity. write_kept capacity s record { occurrence = o; value = v } k;
      };
      in_circle = λ k among b. rw (node, circular-open s os o k among);
      by_budget = λ no-circle. rw (node, no-circle);
      inside = λ k closed many. rw (node, not-circular-closed s os o closed, deep-missing s os o k many);
      outside = λ k closed few. rw (node, not-circular-closed s os o closed, not-deep-few s os o few, k);
    }

pub null-first : NullFirst
unfolding attr_app
null-first context s b os o on = rw on
