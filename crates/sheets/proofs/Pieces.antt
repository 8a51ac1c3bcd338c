-- Stops 6 and 7: a piece's type, as the code infers it, is the one that is wanted.
use mathlib.Core.Bool.{Bool, true, false, not}
use mathlib.Core.List.{List}
use Rattle.std.specs.Prelude.{Option, None as none, Some as some}
use Rattle.std.specs.Option.{option_eq}
use mathlib.Core.Path.{◌≡◌, refl, sym, ap, ◌∙◌}
use Prim.Native.Nat.{ℕ}
use Rattle.saiga.specs.Values.{Ty, base, ◌⇒◌}
use Rattle.saiga.specs.declared.Base.{Base}
use Rattle.saiga.specs.declared.Base.TheVariants.{Unit as unit_t, Bool as bool_t, Int as int_t, Node as node_t}
use Rattle.saiga.specs.Expressions.{Expr, Whole, no_expression, expression}
use Rattle.saiga.specs.Types.{infer, has_type}
use Rattle.saiga.proofs.Inference.{has_type-sound, has_type-complete}
use Rattle.values.specs.Layout.{attributes_in}
use Rattle.expressions.specs.Types.{typed, base_type_in}
use Rattle.expressions.specs.Forms.{formed_of}
use Rattle.expressions.specs.declared.types.«Type».{«Type»}
use Rattle.saiga.specs.contracts.BasePartialEq.TheImpl as base_eq
use Rattle.sheets.specs.declared.Progress.{Progress}
use Rattle.sheets.specs.Scan.{Scanned, stops◌at_offset◌, demand, demand_piece}

-- `==` tells that two are the same.
abbrev pub same-as : Option Base → Base → Bool
same-as found B = option_eq base_eq.eq-value.it found (some B)

same-itself : (B : Base) → same-as (some B) B ≡ true
same-itself unit_t = refl
same-itself bool_t = refl
same-itself int_t = refl
same-itself node_t = refl

same-base : (C B : Base) → not (same-as (some C) B) ≡ false → C ≡ B
same-base unit_t unit_t e = refl
same-base unit_t bool_t e = cc
same-base unit_t int_t e = cc
same-base unit_t node_t e = cc
same-base bool_t unit_t e = cc
same-base bool_t bool_t e = refl
same-base bool_t int_t e = cc
same-base bool_t node_t e = cc
same-base int_t unit_t e = cc
same-base int_t bool_t e = cc
same-base int_t int_t e = refl
same-base int_t node_t e = cc
same-base node_t unit_t e = cc
same-base node_t bool_t e = cc
same-base node_t int_t e = cc
same-base node_t node_t e = refl

same-found : (found : Option Base) (B : Base) → not (same-as found B) ≡ false → found ≡ some B
same-found none B e = cc
same-found (some C) B e = ap some (same-base C B e)

-- A type whose base type is B is B.
base-typed : (T : Option Ty) (B : Base) → base_type_in T ≡ some B → T ≡ some (base B)
base-typed none B e = cc
base-typed (some (base C)) B e = cc
base-typed (some (C ⇒ T)) B e = cc

pub piece-unread : (bytes : List ℕ) (p : Progress) (q B : Base) (r : Scanned) (w : Whole) → none ≡ formed_of (attributes_in bytes p.attributes) q w
    → demand_piece bytes p q B w r ≡ stops 6 at_offset 0
unfolding demand_piece formed_of
piece-unread bytes p q B r no_expression e = refl
piece-unread bytes p q B r (expression x) e = cc

module _ (bytes : List ℕ) (p : Progress) (q B : Base) (r : Scanned) (ty : Option «Type») (found : Option Base) where
  abbrev TypedAs : Whole → Type 0
  TypedAs w = some (typed ty) ≡ formed_of (attributes_in bytes p.attributes) q w

  abbrev Fits : Expr → Bool
  Fits x = has_type (attributes_in bytes p.attributes) q (base B) x

  inferred : (x : Expr) → TypedAs (expression x) → typed ty ≡ infer (attributes_in bytes p.attributes) q x
  unfolding formed_of
  inferred x e = cc

  ill-typed : (x : Expr) → TypedAs (expression x) → found ≡ base_type_in (typed ty) → not (same-as found B) ≡ true → Fits x ≡ false
  ill-typed x e is differs = go (Fits x) refl
    where
      go : (b : Bool) → Fits x ≡ b → b ≡ false
      go true h =
          let same : found ≡ some B = is ∙ ap base_type_in (inferred x e ∙ has_type-sound _ _ _ x h) in
          sym (rw (same, same-itself B) at differs)
      go false h = refl

  pub piece-ill-typed : (w : Whole) → TypedAs w → found ≡ base_type_in (typed ty) → not (same-as found B) ≡ true
      → demand_piece bytes p q B w r ≡ stops 7 at_offset 0
  unfolding demand_piece demand formed_of
  piece-ill-typed no_expression e is differs = cc
  piece-ill-typed (expression x) e is differs = rw (ill-typed x e is differs)

  pub piece-typed : (w : Whole) → TypedAs w → found ≡ base_type_in (typed ty) → not (same-as found B) ≡ false → demand_piece bytes p q B w r ≡ r
  unfolding demand_piece demand formed_of
  piece-typed no_expression e is same = cc
  piece-typed (expression x) e is same = rw (has_type-complete _ _ _ x (sym (inferred x e) ∙ base-typed (typed ty) B (sym is ∙ same-found found B same)))

pub ruleset piece_laws = (piece-unread, piece-ill-typed, piece-typed)
