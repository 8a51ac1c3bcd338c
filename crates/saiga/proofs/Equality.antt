-- The tests of base values and occurrences say equality; and what settles an occurrence of a sheet.
use mathlib.Core.Bool.{true, false, ◌&&◌, cond, false≢true, and-eq-true_iff}
use mathlib.Core.List.{List}
use mathlib.Core.Path.{◌≡◌, refl, sym, ◌∙◌, ap, ap₂}
use Prim.Native.Nat.{ℕ}
use lib.Dec.{eqb, ltb}
use lib.IntN.{ℤ, pos, negsuc}
use borrow.Author.Tests.{eqb-true, eq-eqb}
use Rattle.saiga.specs.Values.{Base, Value, unit, bool, int, node, function, holding, equal_z, of_word, to_word, type_code, decimal, same_value}
use Rattle.saiga.specs.Types.{Attribute, attribute_at}
use Rattle.saiga.specs.Terms.{Occurrence}
use Rattle.saiga.specs.Caching.{same_occurrence}
use Rattle.saiga.specs.Sound.{OccurrenceIn}
use Rattle.saiga.proofs.FourBytes.{same-value-refl}

equal-integers : (y z : ℤ) → equal_z y z ≡ true → y ≡ z
unfolding equal_z
equal-integers (pos m) (pos n) e = ap pos (eqb-true m n e)
equal-integers (pos m) (negsuc n) e = absurd (false≢true e)
equal-integers (negsuc m) (pos n) e = absurd (false≢true e)
equal-integers (negsuc m) (negsuc n) e = ap negsuc (eqb-true m n e)

-- the base value of a type's code and a decimal
natural : ℤ → ℕ
natural (pos n) = n
natural (negsuc n) = 0

restore : ℕ → ℤ → Value
restore c z = cond (eqb c 0) unit (cond (eqb c 1) (bool (eqb (natural z) 1)) (cond (eqb c 2) (int z) (node (natural z))))

restored : (v : Value) → ltb (type_code v) 4 ≡ true → restore (type_code v) (decimal v) ≡ v
unfolding type_code decimal restore natural
restored unit e = refl
restored (bool true) e = refl
restored (bool false) e = refl
restored (int z) e = refl
restored (node n) e = refl
restored (function f) e = absurd (false≢true e)
restored (holding h) e = absurd (false≢true e)

pub same-value : (v w : Value) → same_value v w ≡ true → v ≡ w
unfolding same_value
same-value v w e =
    let tests = (and-eq-true_iff (ltb (type_code v) 4 && eqb (type_code v) (type_code w)) (equal_z (decimal v) (decimal w))).0 e in
    let codes = (and-eq-true_iff (ltb (type_code v) 4) (eqb (type_code v) (type_code w))).0 tests.0 in
    let same : type_code v ≡ type_code w = eqb-true _ _ codes.1 in
    sym (restored v codes.0) ∙ ap₂ restore same (equal-integers _ _ tests.1) ∙ restored w (rw same at codes.0)

pub same-occurrence : (o p : Occurrence) → same_occurrence o p ≡ true → o ≡ p
unfolding same_occurrence
same-occurrence o p e =
    let tests = (and-eq-true_iff (eqb o.node p.node && eqb o.attribute p.attribute) (same_value o.parameter p.parameter)).0 e in
    let numbers = (and-eq-true_iff (eqb o.node p.node) (eqb o.attribute p.attribute)).0 tests.0 in
    λ i. record {
      node = eqb-true o.node p.node numbers.0 i;
      attribute = eqb-true o.attribute p.attribute numbers.1 i;
      parameter = same-value o.parameter p.parameter tests.1 i;
    }

-- ---- Occurrences of a sheet

module _ {nodes : ℕ} {sig : List Attribute} (o : Occurrence) (o-in : OccurrenceIn nodes sig o) where
  pub occurrence-refl : same_occurrence o o ≡ true
  unfolding same_occurrence
  occurrence-refl = rw (eq-eqb o.node o.node refl, eq-eqb o.attribute o.attribute refl) (same-value-refl o-in.parameter-in)

  -- A parameter is settled by its attribute's type and its four-byte form.
  pub occurrence-settled : (p : Occurrence) → OccurrenceIn nodes sig p → o.node ≡ p.node → o.attribute ≡ p.attribute
      → to_word o.parameter ≡ to_word p.parameter → o ≡ p
  occurrence-settled p p-in same-node same-attribute same_word =
      let type-of : ℕ → Base = λ a. (attribute_at sig a).parameter-type in
      let parameters : o.parameter ≡ p.parameter =
      sym o-in.parameter-in.round_trip ∙ ap₂ of_word (ap type-of same-attribute) same_word ∙ p-in.parameter-in.round_trip in
      λ i. record { node = same-node i; attribute = same-attribute i; parameter = parameters i }
