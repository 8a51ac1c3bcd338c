-- The attributes whose commands stand at the front of a sheet's bytes.
use mathlib.Core.List.{List}
use mathlib.Core.Path.{◌≡◌, refl, ap, ◌∙◌}
use Prim.Native.Nat.{ℕ, zero, suc, ◌+◌, ◌*◌, ◌<◌}
use native.Mathlib.Omega.{arith}
use lib.ListN.{length, drop, get_or}
use lib.Seq.{get_or-drop}
use Rattle.saiga.specs.Values.{base_of}
use Rattle.saiga.specs.Types.{Attribute, attribute_at}
use Rattle.values.specs.Layout.{result_at, parameter_at, attributes_in}

-- an operand past the first command, of commands of one width
pub past : (w i n : ℕ) (l : List ℕ) → get_or (drop w l) (w * n + i) 0 ≡ get_or l (w * suc n + i) 0
past w i n l = get_or-drop w l (w * n + i) 0 ∙ ap (λ k. get_or l k 0) (omega arith)

abbrev pub attribute_in : List ℕ → ℕ → Attribute
attribute_in l a = record { result = base_of (result_at l a); parameter-type = base_of (parameter_at l a) }

pub attribute-at : (l : List ℕ) (n a : ℕ) → a < n → attribute_at (attributes_in l n) a ≡ attribute_in l a
unfolding attributes_in
attribute-at l zero a h = absurd (omega arith)
attribute-at l (suc n) zero h = refl
attribute-at l (suc n) (suc a) h = attribute-at (drop 3 l) n a (omega arith) ∙ simp past

pub attributes-count : (l : List ℕ) (n : ℕ) → length (attributes_in l n) ≡ n
unfolding attributes_in
attributes-count l zero = refl
attributes-count l (suc n) = ap suc (attributes-count (drop 3 l) n)
