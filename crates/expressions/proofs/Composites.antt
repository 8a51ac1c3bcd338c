-- The expressions with shorter ones inside: what their forms come to, from the forms of the shorter ones.
use Rattle.std.specs.Prelude.{Option, None as none, Some as some}
use Rattle.std.proofs.lemmas.Option.{none-some, some_pair_parts}
use mathlib.Core.List.{List, [], ◌∷◌}
use mathlib.Core.Path.{◌≡◌, refl, sym, ap}
use Prim.Native.Nat.{ℕ, zero, suc, ◌+◌, ◌-◌, ◌≤◌, ◌<◌}
use native.Mathlib.Omega.{arith}
use lib.ListN.{length, take, drop, length-drop}
use lib.Seq.{drop-drop}
use borrow.Author.Tests.{le-leb, lt-ltb, le-ltb}
use borrow.Author.Rules.{part_to_end}
use Rattle.saiga.specs.declared.Base.{Base}
use Rattle.saiga.specs.Values.{Ty}
use Rattle.saiga.specs.Expressions.{Expr, if_head, application_head, attribute_head, head_of, Scope, Reading, malformed, reads, ◌followed_by◌, whenever, read_after, read_expr}
use Rattle.saiga.specs.Types.{Attribute, attribute_at, infer_if, infer_application, infer}
use Rattle.saiga.proofs.Reading.{read-width}
use Rattle.expressions.specs.Types.{infer_attribute}
use Rattle.expressions.specs.Forms.{form_of, form_after}
use Rattle.expressions.proofs.Literals.{NoHead, no-head-is, no-head-refused}

-- `r` is the form of the expression at the front of `l`: what the code's `read` ensures
abbrev pub FormAt : Scope → List Attribute → Base → List ℕ → Option (ℕ × Option Ty) → Type 0
FormAt s sig p l r = (k : ℕ) → length l ≤ k → r ≡ form_of sig p (read_expr s k l)

-- the bytes from m on, as the code lends them
abbrev pub from : List ℕ → ℕ → List ℕ
from l m = take (length l - m) (drop m l)

module _ (s : Scope) (sig : List Attribute) (p : Base) where
  -- a form that reads stands for an expression
  pub form-reads : (R : Reading) {m : ℕ} {t : Option Ty} → some (m, t) ≡ form_of sig p R → (e : Expr) × (R ≡ reads e m) × (t ≡ infer sig p e)
  unfolding form_of
  form-reads malformed {m} {t} h = absurd (none-some (m, t) (sym h))
  form-reads (reads e w) {m} {t} h = let q = some_pair_parts m w t (infer sig p e) h in (e, ap (reads e) (sym q.0), q.1)

  -- and takes some of the bytes
  pub form-taken : (l : List ℕ) {m : ℕ} {t : Option Ty} → FormAt s sig p l (some (m, t)) → (1 ≤ m) × (m ≤ length l)
  form-taken l f =
      let (e, q, n) = form-reads (read_expr s (length l) l) (f (length l) (omega arith)) in
      read-width s (length l) l e _ q

  -- after an expression that was read, and after none
  goes_on : (R : Reading) (g : Expr → ℕ → Reading) {m : ℕ} {t : Option Ty} {r : Option (ℕ × Option Ty)} → some (m, t) ≡ form_of sig p R
      → ((e : Expr) → t ≡ infer sig p e → r ≡ form_of sig p (g e m)) → r ≡ form_of sig p (R followed_by g)
  unfolding ◌followed_by◌
  goes_on R g h k = let (e, q, n) = form-reads R h in rw q (k e n)

  stops : (R : Reading) (g : Expr → ℕ → Reading) → none ≡ form_of sig p R → none ≡ form_of sig p (R followed_by g)
  unfolding form_of ◌followed_by◌
  stops malformed g h = refl
  stops (reads e w) g h = absurd (none-some _ h)

  -- what the code has of the bytes from m on, at a bound for all of them
  form-from : (l : List ℕ) (m : ℕ) {r : Option (ℕ × Option Ty)} → FormAt s sig p (from l m) r → (k : ℕ) → length l ≤ k
      → r ≡ form_of sig p (read_expr s k (drop m l))
  form-from l m f k h = rw (part_to_end l m) at (f k (rw (part_to_end l m) (omega (arith, length-drop m l))))

  module _ (l : List ℕ) (k : ℕ) (h : length l ≤ k) where
    -- ---- IF

    pub if-stops : FormAt s sig p l none → none ≡ form_after s sig p k if_head l
    unfolding read_after
    if-stops f = stops (read_expr s k l) _ (f k h)

    pub if-stops-then : {m : ℕ} {C : Option Ty} → FormAt s sig p l (some (m, C)) → FormAt s sig p (from l m) none → none ≡ form_after s sig p k if_head l
    unfolding read_after
    if-stops-then {m} f g = goes_on (read_expr s k l) _ (f k h) λ c C∈. stops _ _ (form-from l m g k h)

    pub if-stops-else : {m n : ℕ} {C T : Option Ty} → FormAt s sig p l (some (m, C)) → FormAt s sig p (from l m) (some (n, T))
        → FormAt s sig p (from l (m + n)) none → none ≡ form_after s sig p k if_head l
    unfolding read_after
    if-stops-else {m} {n} f g i =
        goes_on (read_expr s k l) _ (f k h) λ c C∈.
        goes_on (read_expr s k (drop m l)) _ (form-from l m g k h) λ t T∈.
        stops _ _ (form-from l (m + n) i k h)

    pub if-reads : {m n w : ℕ} {C T E v : Option Ty} → FormAt s sig p l (some (m, C)) → FormAt s sig p (from l m) (some (n, T))
        → FormAt s sig p (from l (m + n)) (some (w, E)) → v ≡ infer_if C T E
        → some (1 + (m + n) + w, v) ≡ form_after s sig p k if_head l
    unfolding read_after form_of infer
    if-reads {m} {n} {w} f g i v =
        let all : 1 + (m + n) + w ≡ 1 + m + n + w = omega arith in
        goes_on (read_expr s k l) _ (f k h) λ c C∈.
        goes_on (read_expr s k (drop m l)) _ (form-from l m g k h) λ t T∈.
        goes_on (read_expr s k (drop (m + n) l)) _ (form-from l (m + n) i k h) λ e E∈.
        rw (all, v, C∈, T∈, E∈)

    -- ---- Application

    pub application-stops : FormAt s sig p l none → none ≡ form_after s sig p k application_head l
    unfolding read_after
    application-stops f = stops (read_expr s k l) _ (f k h)

    pub application-stops-argument : {m : ℕ} {F : Option Ty} → FormAt s sig p l (some (m, F)) → FormAt s sig p (from l m) none
        → none ≡ form_after s sig p k application_head l
    unfolding read_after
    application-stops-argument {m} f g = goes_on (read_expr s k l) _ (f k h) λ f F∈. stops _ _ (form-from l m g k h)

    pub application-reads : {m n : ℕ} {F X v : Option Ty} → FormAt s sig p l (some (m, F)) → FormAt s sig p (from l m) (some (n, X))
        → v ≡ infer_application F X → some (1 + m + n, v) ≡ form_after s sig p k application_head l
    unfolding read_after form_of infer
    application-reads {m} f g v =
        goes_on (read_expr s k l) _ (f k h) λ f F∈.
        goes_on (read_expr s k (drop m l)) _ (form-from l m g k h) λ x X∈.
        rw (v, F∈, X∈)

  -- ---- Attribute: a is its number, and l what stands behind that

  pub attribute-short : (l : List ℕ) (k : ℕ) → length l ≡ 0 → none ≡ form_after s sig p k attribute_head l
  unfolding read_after whenever form_of
  attribute-short [] k e = refl
  attribute-short (a ∷ l) k e = absurd (omega arith)

  module _ (a : ℕ) (l : List ℕ) (k : ℕ) (h : length (a ∷ l) ≤ k) where
    pub attribute-undeclared : s.attributes ≤ a → none ≡ form_after s sig p k attribute_head (a ∷ l)
    unfolding read_after whenever form_of
    attribute-undeclared d = rw (le-leb 1 (length (a ∷ l)) (omega arith), le-ltb a s.attributes d)

    module _ (d : a < s.attributes) where
      pub attribute-stops : FormAt s sig p l none → none ≡ form_after s sig p k attribute_head (a ∷ l)
      unfolding read_after whenever
      attribute-stops f = rw (le-leb 1 (length (a ∷ l)) (omega arith), lt-ltb a s.attributes d) (stops (read_expr s k l) _ (f k (omega arith)))

      pub attribute-stops-parameter : {m : ℕ} {N : Option Ty} → FormAt s sig p l (some (m, N)) → FormAt s sig p (from l m) none
          → none ≡ form_after s sig p k attribute_head (a ∷ l)
      unfolding read_after whenever
      attribute-stops-parameter {m} f g =
          rw (le-leb 1 (length (a ∷ l)) (omega arith), lt-ltb a s.attributes d)
          (goes_on (read_expr s k l) _ (f k (omega arith)) λ n N∈.
          rw (← drop-drop m 1 (a ∷ l)) (stops _ _ (form-from l m g k (omega arith))))

      pub attribute-reads : length sig ≡ s.attributes → {m w : ℕ} {N X v : Option Ty} → FormAt s sig p l (some (m, N)) → FormAt s sig p (from l m) (some (w, X))
          → v ≡ infer_attribute (attribute_at sig a) N X → some (2 + m + w, v) ≡ form_after s sig p k attribute_head (a ∷ l)
      unfolding read_after whenever form_of infer
      attribute-reads count {m} {w} f g v =
          rw (le-leb 1 (length (a ∷ l)) (omega arith), lt-ltb a s.attributes d)
          (goes_on (read_expr s k l) _ (f k (omega arith)) λ n N∈.
          rw (← drop-drop m 1 (a ∷ l)) (goes_on (read_expr s k (drop m l)) _ (form-from l m g k (omega arith)) λ x X∈.
          rw (lt-ltb a (length sig) (omega (arith, d)), v, N∈, X∈)))

  -- ---- From the operands to the expression

  -- b is the head's byte
  pub read-after : (b : ℕ) (l : List ℕ) {r : Option (ℕ × Option Ty)} → ((k : ℕ) → length l ≤ k → r ≡ form_after s sig p k (head_of b) l) → FormAt s sig p (b ∷ l) r
  unfolding read_expr
  read-after b l f zero h = absurd (omega arith)
  read-after b l f (suc k) h = f k (omega arith)

  pub read-no-head : (b : ℕ) (l : List ℕ) → NoHead b → FormAt s sig p (b ∷ l) none
  read-no-head b l h = read-after b l λ k q. rw (no-head-is _ h) (no-head-refused s sig p k l)

  pub read-nothing : (e : List ℕ) → length e ≡ 0 → FormAt s sig p e none
  unfolding read_expr form_of
  read-nothing [] n zero h = refl
  read-nothing [] n (suc k) h = refl
  read-nothing (b ∷ l) n k h = absurd (omega arith)
