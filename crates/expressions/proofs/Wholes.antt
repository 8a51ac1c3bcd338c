-- An expression that takes all its bytes.
use Rattle.std.specs.Prelude.{Option, None as none, Some as some}
use Rattle.std.proofs.lemmas.Option.{none-some}
use mathlib.Core.List.{List}
use mathlib.Core.Path.{◌≡◌, refl, ap}
use Prim.Native.Nat.{ℕ, ◌≤◌, ◌<◌}
use native.Mathlib.Omega.{arith}
use lib.ListN.{length}
use borrow.Author.Tests.{le-leb, lt-leb, eq-eqb, ne_eqb}
use Rattle.saiga.specs.Limits.{expression_limit}
use Rattle.saiga.specs.declared.Base.{Base}
use Rattle.saiga.specs.Values.{Ty}
use Rattle.saiga.specs.Expressions.{Scope, Reading, malformed, reads, exactly, read_expr, read_whole}
use Rattle.saiga.specs.Types.{Attribute}
use Rattle.expressions.specs.Forms.{form_of, formed_of}
use Rattle.expressions.proofs.Composites.{FormAt, form-reads}

module _ (s : Scope) (sig : List Attribute) (p : Base) (l : List ℕ) where
  pub whole_long : expression_limit < length l → none ≡ formed_of sig p (read_whole s l)
  unfolding read_whole formed_of
  whole_long h = rw (lt-leb (length l) expression_limit h)

  module _ (h : length l ≤ expression_limit) where
    pub whole-none : FormAt s sig p l none → none ≡ formed_of sig p (read_whole s l)
    unfolding read_whole form_of exactly formed_of
    whole-none f = rw (le-leb (length l) expression_limit h) (go (read_expr s (length l) l) (f (length l) (omega arith)))
      where
        go : (R : Reading) → none ≡ form_of sig p R → none ≡ formed_of sig p (exactly (length l) R)
        go malformed e = refl
        go (reads e w) q = absurd (none-some _ q)

    module _ {w : ℕ} {t : Option Ty} (f : FormAt s sig p l (some (w, t))) where
      pub whole-reads : w ≡ length l → some t ≡ formed_of sig p (read_whole s l)
      unfolding read_whole exactly formed_of
      whole-reads n =
          let (d, q, v) = form-reads s sig p (read_expr s (length l) l) (f (length l) (omega arith)) in
          rw (le-leb (length l) expression_limit h, q, eq-eqb w (length l) n) (ap some v)

      pub whole-left-over : (w ≡ length l → ⊥) → none ≡ formed_of sig p (read_whole s l)
      unfolding read_whole exactly formed_of
      whole-left-over n =
          let (d, q, v) = form-reads s sig p (read_expr s (length l) l) (f (length l) (omega arith)) in
          rw (le-leb (length l) expression_limit h, q, ne_eqb w (length l) n)
