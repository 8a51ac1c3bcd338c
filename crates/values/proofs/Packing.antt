-- Values in words: what an Int's four-byte form is read as, and how large a Node's word is.
use mathlib.Core.Bool.{Bool, true, false, ◌||◌}
use mathlib.Core.Path.{◌≡◌, refl}
use Prim.Native.Nat.{ℕ, ◌^◌, ◌≤◌, ◌<◌}
use native.Mathlib.Omega.{arith}
use lib.Dec.{ltb, eqb}
use lib.IntN.{ℤ}
use lib.Signed.{mag}
use mir.Syntax.{w32}
use mir.Val.{of_z, to_z}
use mir.Facts.{to_z-of_z}
use borrow.Author.Tests.{ltb-true, eqb-true}
use Rattle.saiga.specs.declared.Base.TheVariants.{Node as node_t}
use Rattle.saiga.specs.Values.{null, is_word, signed, unsigned}
use Rattle.saiga.proofs.FourBytes.{signed-unsigned}

-- The four-byte form of an Int's bits is read as that Int.
pub int_back : (z : ℤ) → mag z < 2 ^ 31 → signed (unsigned (to_z w32 (of_z w32 z))) ≡ z
int_back z h = rw (to_z-of_z (record { sfits = h })) (signed-unsigned z h)

-- A word of Node is below 65,536, null included.
pub node-small : (nodes w : ℕ) → nodes ≤ 65536 → is_word nodes node_t w ≡ true → w < 65536
unfolding is_word
node-small nodes w n h = go (ltb w nodes) refl h
  where
    go : (b : Bool) → ltb w nodes ≡ b → (b || eqb w null) ≡ true → w < 65536
    go true e k = omega (arith, ltb-true w nodes e)
    go false e k = omega (arith, eqb-true w null k)
