-- Inference gives the type that the rules of the figures give, and no other.
use mathlib.Core.Bool.{Bool, true, false, cond, false≢true}
use mathlib.Core.List.{List}
use Rattle.std.specs.Prelude.{Option, None as none, Some as some}
use Rattle.std.proofs.lemmas.Option.{none-some}
use mathlib.Core.Path.{◌≡◌, refl, sym, ap, ap₂, ◌∙◌, subst}
use lib.Dec.{ltb}
use lib.ListN.{length}
use borrow.Author.Tests.{ltb-true, lt-ltb, eqb-true, eq-eqb}
use Rattle.saiga.specs.Values.{Base, unit_t, bool_t, int_t, node_t, base_code, base_of, Ty, base, ◌⇒◌, type_of}
use Rattle.saiga.specs.Expressions.{Expr, literal, if, application, attribute, this, parameter}
use Rattle.saiga.specs.Types.{Attribute, attribute_at, Typed, literal∈, if∈, application∈, attribute∈, this∈, parameter∈, same_base, same_ty, given, infer_if, infer_application, infer, has_type}

-- ---- The test of types

pub base-of-code : (B : Base) → base_of (base_code B) ≡ B
unfolding base_of
base-of-code unit_t = refl
base-of-code bool_t = refl
base-of-code int_t = refl
base-of-code node_t = refl

same_base-sound : (s t : Base) → same_base s t ≡ true → s ≡ t
unfolding same_base
same_base-sound s t h = sym (base-of-code s) ∙ ap base_of (eqb-true (base_code s) (base_code t) h) ∙ base-of-code t

-- a test passed where its failure gives something else
pub cond-passes : {A : Type 0} (b : Bool) {x y z : A} → cond b x y ≡ z → (y ≡ z → ⊥) → (b ≡ true) × (x ≡ z)
cond-passes true h other = (refl, h)
cond-passes false h other = absurd (other h)

pub same_ty-sound : (S T : Ty) → same_ty S T ≡ true → S ≡ T
unfolding same_ty
same_ty-sound (base s) (base t) h = ap base (same_base-sound s t h)
same_ty-sound (base s) (b ⇒ t) h = absurd (false≢true h)
same_ty-sound (a ⇒ s) (base t) h = absurd (false≢true h)
same_ty-sound (a ⇒ s) (b ⇒ t) h =
    let (e, k) = cond-passes (same_base a b) h false≢true in
    ap₂ ◌⇒◌ (same_base-sound a b e) (same_ty-sound s t k)

pub same_ty-refl : (T : Ty) → same_ty T T ≡ true
unfolding same_ty same_base
same_ty-refl (base B) = eq-eqb (base_code B) (base_code B) refl
same_ty-refl (B ⇒ T) = rw (eq-eqb (base_code B) (base_code B) refl) (same_ty-refl T)

-- ---- What is inferred follows from the rules

given-some : (T : Ty) (I X : Option Ty) {U : Ty} → given T I X ≡ some U → (I ≡ some T) × (X ≡ some U)
unfolding given
given-some T none X {U} h = absurd (none-some U h)
given-some T (some S) X {U} h =
    let (e, k) = cond-passes (same_ty T S) h (none-some U) in
    (ap some (sym (same_ty-sound T S e)), k)

if_some : (C D E : Option Ty) {T : Ty} → infer_if C D E ≡ some T → (C ≡ some (base bool_t)) × (D ≡ some T) × (E ≡ some T)
unfolding infer_if
if_some C none E {T} h = absurd (none-some T h)
if_some C (some S) E h =
    let (c, k) = given-some (base bool_t) C _ h in
    let (e, d) = given-some S E _ k in
    (c, d, e ∙ d)

application-some : (F X : Option Ty) {T : Ty} → infer_application F X ≡ some T → (B : Base) × (F ≡ some (B ⇒ T)) × (X ≡ some (base B))
unfolding infer_application
application-some none X {T} h = absurd (none-some T h)
application-some (some (base B)) X {T} h = absurd (none-some T h)
application-some (some (B ⇒ S)) X h =
    let (x, e) = given-some (base B) X _ h in
    (B, cc, x)

pub infer-sound : {sig : List Attribute} {p : Base} (e : Expr) {T : Ty} → infer sig p e ≡ some T → Typed sig p e T
unfolding infer
infer-sound {sig} {p} (literal v) {T} h = let e : type_of v ≡ T = cc in subst (Typed sig p (literal v)) e literal∈
infer-sound {sig} {p} (if c t e) h =
    let (C, D, E) = if_some (infer sig p c) (infer sig p t) (infer sig p e) h in
    if∈ (infer-sound c C) (infer-sound t D) (infer-sound e E)
infer-sound {sig} {p} (application f x) h =
    let (B, F, X) = application-some (infer sig p f) (infer sig p x) h in
    application∈ (infer-sound f F) (infer-sound x X)
infer-sound {sig} {p} (attribute n a x) {T} h =
    let (l, k) = cond-passes (ltb a (length sig)) h (none-some T) in
    let (N, j) = given-some (base node_t) (infer sig p n) _ k in
    let (X, i) = given-some (base (attribute_at sig a).parameter-type) (infer sig p x) _ j in
    let e : base (attribute_at sig a).result ≡ T = cc in
    subst (Typed sig p (attribute n a x)) e (attribute∈ (ltb-true a (length sig) l) (infer-sound n N) (infer-sound x X))
infer-sound {sig} {p} this {T} h = let e : base node_t ≡ T = cc in subst (Typed sig p this) e this∈
infer-sound {sig} {p} parameter {T} h = let e : base p ≡ T = cc in subst (Typed sig p parameter) e parameter∈

-- ---- What follows from the rules is inferred

given-self : (T : Ty) (X : Option Ty) → given T (some T) X ≡ X
unfolding given
given-self T X = rw (same_ty-refl T)

pub infer-complete : {sig : List Attribute} {p : Base} {e : Expr} {T : Ty} → Typed sig p e T → infer sig p e ≡ some T
unfolding infer infer_if infer_application
infer-complete literal∈ = refl
infer-complete (if∈ c t e) = simp (infer-complete c, infer-complete t, infer-complete e, given-self)
infer-complete (application∈ f x) = simp (infer-complete f, infer-complete x, given-self)
infer-complete {sig} (attribute∈ {a} l n x) = simp (lt-ltb a (length sig) l, infer-complete n, infer-complete x, given-self)
infer-complete this∈ = refl
infer-complete parameter∈ = refl

pub has_type-sound : (sig : List Attribute) (p : Base) (T : Ty) (e : Expr) → has_type sig p T e ≡ true → infer sig p e ≡ some T
unfolding has_type
has_type-sound sig p T e h = go (given T (infer sig p e) (some T)) refl
  where
    go : (I : Option Ty) → given T (infer sig p e) (some T) ≡ I → infer sig p e ≡ some T
    go none q = absurd (false≢true (rw q at h))
    go (some U) q = (given-some T (infer sig p e) (some T) q).0

pub has_type-complete : (sig : List Attribute) (p : Base) (T : Ty) (e : Expr) → infer sig p e ≡ some T → has_type sig p T e ≡ true
unfolding has_type
has_type-complete sig p T e h = rw (h, given-self)
