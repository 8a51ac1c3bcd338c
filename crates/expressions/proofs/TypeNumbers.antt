-- The numbers of types: two types have one number only if they are one type, and what is inferred can be worked out on numbers.
use mathlib.Core.Bool.{Bool, true, false, cond}
use mathlib.Core.List.{List}
use Rattle.std.specs.Prelude.{Option, None as none, Some as some}
use mathlib.Core.Path.{◌≡◌, refl, sym, ap, ◌∙◌}
use Prim.Native.Nat.{ℕ, ◌+◌, ◌*◌, ◌-◌, ◌/◌, ◌%◌, ◌≤◌, ◌<◌}
use native.Mathlib.Omega.{arith}
use lib.Dec.{ltb, eqb}
use borrow.Author.Tests.{eqb-true, eqb-false, lt-ltb, le-ltb, eq-eqb, ne_eqb}
use Rattle.saiga.specs.declared.Base.{Base}
use Rattle.saiga.specs.declared.Base.TheVariants.{Bool as bool_t, Int as int_t, Node as node_t, Unit as unit_t}
use Rattle.saiga.specs.Values.{base_code, base_of, Ty, base, ◌⇒◌}
use Rattle.saiga.specs.Types.{attribute_at, same_base, same_ty, given, infer_if, infer_application}
use Rattle.expressions.specs.Types.{infer_attribute}
use Rattle.expressions.specs.TypeNumbers.{type_number, inferred_number}
use Rattle.values.specs.Layout.{result_at, parameter_at, attributes_in}
use Rattle.values.proofs.Attributes.{attribute-at}

pub base-small : (B : Base) → base_code B < 4
base-small unit_t = omega arith
base-small bool_t = omega arith
base-small int_t = omega arith
base-small node_t = omega arith

pub number-positive : (T : Ty) → 1 ≤ type_number T
unfolding type_number
number-positive (base B) = omega arith
number-positive (B ⇒ T) = omega arith

-- two tests of equality that hold together
eqb-agree : (a b c d : ℕ) → (a ≡ b → c ≡ d) → (c ≡ d → a ≡ b) → eqb a b ≡ eqb c d
eqb-agree a b c d f g = go (eqb a b) refl
  where
    go : (t : Bool) → eqb a b ≡ t → t ≡ eqb c d
    go true e = sym (eq-eqb c d (f (eqb-true a b e)))
    go false e = sym (ne_eqb c d λ h. eqb-false a b e (g h))

-- a type's number is its first part's code with four times the number of the rest
arrows-agree : (a b m n : ℕ) → a < 4 → b < 4 → cond (eqb a b) (eqb m n) false ≡ eqb (4 * m + a + 1) (4 * n + b + 1)
arrows-agree a b m n p q = go (eqb a b) refl
  where
    go : (t : Bool) → eqb a b ≡ t → cond t (eqb m n) false ≡ eqb (4 * m + a + 1) (4 * n + b + 1)
    go true e = let h = eqb-true a b e in eqb-agree m n (4 * m + a + 1) (4 * n + b + 1) (omega arith) (omega arith)
    go false e = sym (ne_eqb (4 * m + a + 1) (4 * n + b + 1) λ (k : 4 * m + a + 1 ≡ 4 * n + b + 1). eqb-false a b e (omega arith))

same_number : (S T : Ty) → same_ty S T ≡ eqb (type_number S) (type_number T)
unfolding same_ty same_base type_number
same_number (base s) (base t) = eqb-agree (base_code s) (base_code t) (base_code s + 1) (base_code t + 1) (omega arith) (omega arith)
same_number (base s) (b ⇒ t) = sym (ne_eqb (base_code s + 1) _ (omega (arith, base-small s, number-positive t)))
same_number (a ⇒ s) (base t) = sym (ne_eqb _ (base_code t + 1) (omega (arith, base-small t, number-positive s)))
same_number (a ⇒ s) (b ⇒ t) =
    rw (same_number s t) (arrows-agree (base_code a) (base_code b) (type_number s) (type_number t) (base-small a) (base-small b))

number-of-cond : (b : Bool) (X : Option Ty) → inferred_number (cond b X none) ≡ cond b (inferred_number X) 0
unfolding inferred_number
number-of-cond true X = refl
number-of-cond false X = refl

given-number : (T : Ty) (I X : Option Ty) → inferred_number (given T I X) ≡ cond (eqb (type_number T) (inferred_number I)) (inferred_number X) 0
unfolding given inferred_number
given-number T none X = rw (ne_eqb (type_number T) 0 (omega (arith, number-positive T)))
given-number T (some U) X = number-of-cond (same_ty T U) X ∙ ap (λ b. cond b (inferred_number X) 0) (same_number T U)

cond_same : {A : Type 0} (b : Bool) (x : A) → cond b x x ≡ x
cond_same true x = refl
cond_same false x = refl

pub if-number : (C T E : Option Ty) {c t e : ℕ} → c ≡ inferred_number C → t ≡ inferred_number T → e ≡ inferred_number E
    → inferred_number (infer_if C T E) ≡ cond (eqb 2 c) (cond (eqb t e) t 0) 0
unfolding infer_if inferred_number type_number
if-number C T E p q r = rw (p, q, r) (go T)
  where
    go : (T : Option Ty) → inferred_number (infer_if C T E)
        ≡ cond (eqb 2 (inferred_number C)) (cond (eqb (inferred_number T) (inferred_number E)) (inferred_number T) 0) 0
    go none =
        sym (ap (λ n. cond (eqb 2 (inferred_number C)) n 0) (cond_same (eqb 0 (inferred_number E)) 0)
        ∙ cond_same (eqb 2 (inferred_number C)) 0)
    go (some T) =
        given-number (base bool_t) C (given T E (some T)) ∙ ap (λ n. cond (eqb 2 (inferred_number C)) n 0) (given-number T E (some T))

pub application-number : (F X : Option Ty) {f x : ℕ} → f ≡ inferred_number F → x ≡ inferred_number X
    → inferred_number (infer_application F X) ≡ cond (ltb f 5) 0 (cond (eqb ((f - 1) % 4 + 1) x) ((f - 1) / 4) 0)
unfolding infer_application inferred_number type_number
application-number F X p q = rw (p, q) (go F)
  where
    go : (F : Option Ty) → inferred_number (infer_application F X)
        ≡ cond (ltb (inferred_number F) 5) 0
        (cond (eqb ((inferred_number F - 1) % 4 + 1) (inferred_number X)) ((inferred_number F - 1) / 4) 0)
    go none = refl
    go (some (base B)) = rw (lt-ltb (base_code B + 1) 5 (omega (arith, base-small B)))
    go (some (B ⇒ T)) =
        let s = base-small B in
        let l = number-positive T in
        let n : ℕ = 4 * type_number T + base_code B + 1 in
        let p : (n - 1) % 4 + 1 ≡ base_code B + 1 = omega arith in
        let r : (n - 1) / 4 ≡ type_number T = omega arith in
        rw (le-ltb n 5 (omega arith), p, r) (given-number (base B) X (some T))

-- ---- The attributes of a sheet

pub attribute-number : (l : List ℕ) (m a : ℕ) (N X : Option Ty) {n x : ℕ} → a < m → n ≡ inferred_number N → x ≡ inferred_number X
    → inferred_number (infer_attribute (attribute_at (attributes_in l m) a) N X)
    ≡ cond (eqb 4 n) (cond (eqb (base_code (base_of (parameter_at l a)) + 1) x) (base_code (base_of (result_at l a)) + 1) 0) 0
unfolding inferred_number type_number
attribute-number l m a N X h p q =
    rw (p, q, attribute-at l m a h)
    (given-number (base node_t) N _
    ∙ ap (λ m. cond (eqb 4 (inferred_number N)) m 0) (given-number (base (base_of (parameter_at l a))) X _))

-- What the code's tests come to, for the functions of numbers.rt.
pub ruleset number_laws = (if-number, application-number, attribute-number)
