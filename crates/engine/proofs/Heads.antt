-- What stands behind the head of an expression: its operands, and the expressions inside it one after the other.
use mathlib.Core.Bool.{Bool, true, false}
use mathlib.Core.List.{List, [], ◌∷◌}
use mathlib.Core.Path.{◌≡◌, refl, ◌∙◌}
use Prim.Native.Nat.{ℕ, suc, ◌+◌, ◌≤◌}
use native.Mathlib.Omega.{arith}
use lib.ListN.{length, take, drop, get_or, length-drop, drop_of_length-le}
use lib.Seq.{drop-drop}
use Rattle.saiga.specs.Values.{function_of, of_bytes, of_word}
use Rattle.saiga.specs.declared.Value.TheVariants.{Function as function}
use Rattle.saiga.specs.Expressions.{Expr, literal, if, application, attribute, this, parameter, Scope, Head, base_literal, function_literal, if_head, application_head, attribute_head, this_head, parameter_head, no_head, head_of, operand_width, Reading, malformed, reads, ◌followed_by◌, whenever, read_operand, read_after, read_expr, expression, read_whole}
use Rattle.saiga.proofs.Reading.{read-fuel, whole-reads}
use Rattle.engine.specs.Machine.{expr_of, width_of, next_expr, pass_over}
use Rattle.engine.specs.Good.{Parses}

-- ---- One expression after the other

-- at the front of `l` stands `e`, and then follows `r`
record Stands (sc : Scope) (l : List ℕ) (e : Expr) (r : List ℕ) : Type 0 where
  parses : Parses sc l
  is : next_expr sc l ≡ e
  rest : pass_over sc l ≡ r

stands : {sc : Scope} (k : ℕ) {l : List ℕ} {e : Expr} {w : ℕ} → length l ≤ k → read_expr sc k l ≡ reads e w → Stands sc l e (drop w l)
unfolding next_expr pass_over expr_of width_of
stands {sc} k {l} {e} {w} fits h =
    let r : read_expr sc (length l) l ≡ reads e w = read-fuel sc (length l) k l (omega arith) fits ∙ h in
    record { parses = record { expr = e; width = w; read = r }; is = rw r; rest = rw r }

-- Two expressions, and three, that `make` puts together.
abbrev pub Two : Scope → List ℕ → (Expr → Expr → Expr) → Expr → List ℕ → Type 0
Two sc l make e r =
    Parses sc l × Parses sc (pass_over sc l)
    × (e ≡ make (next_expr sc l) (next_expr sc (pass_over sc l)))
    × (r ≡ pass_over sc (pass_over sc l))

abbrev pub Three : Scope → List ℕ → (Expr → Expr → Expr → Expr) → Expr → List ℕ → Type 0
Three sc l make e r =
    Parses sc l × Parses sc (pass_over sc l) × Parses sc (pass_over sc (pass_over sc l))
    × (e ≡ make (next_expr sc l) (next_expr sc (pass_over sc l)) (next_expr sc (pass_over sc (pass_over sc l))))
    × (r ≡ pass_over sc (pass_over sc (pass_over sc l)))

two : {sc : Scope} {l m r : List ℕ} (make : Expr → Expr → Expr) {x y : Expr} → Stands sc l x m → Stands sc m y r → Two sc l make (make x y) r
two make a b = rw (a.is, a.rest, b.is, b.rest) (a.parses, b.parses, refl, refl)

three : {sc : Scope} {l m n r : List ℕ} (make : Expr → Expr → Expr → Expr) {x y z : Expr} → Stands sc l x m → Stands sc m y n → Stands sc n z r
    → Three sc l make (make x y z) r
three make a b c = rw (a.is, a.rest, b.is, b.rest, c.is, c.rest) (a.parses, b.parses, c.parses, refl, refl)

-- ---- By head

-- The expression `e` whose head stands before `l`, and what follows it.
abbrev pub Inside : Scope → List ℕ → Head → Expr → List ℕ → Type 0
Inside sc l (base_literal t) e r = (e ≡ literal (of_word t (of_bytes (take (operand_width t) l)))) × (r ≡ drop (operand_width t) l)
Inside sc l function_literal e r = (e ≡ literal (function (function_of (get_or l 0 0)))) × (r ≡ drop 1 l)
Inside sc l if_head e r = Three sc l if e r
Inside sc l application_head e r = Two sc l application e r
Inside sc l attribute_head e r = Two sc (drop 1 l) (λ n x. attribute n (get_or l 0 0) x) e r
Inside sc l this_head e r = (e ≡ this) × (r ≡ l)
Inside sc l parameter_head e r = (e ≡ parameter) × (r ≡ l)
Inside sc l no_head e r = ⊥

never : {A : Type 0} {e : Expr} {w : ℕ} → malformed ≡ reads e w → A
never h = cc

pub tested : (b : Bool) {r : Reading} {e : Expr} {w : ℕ} → whenever b r ≡ reads e w → (b ≡ true) × (r ≡ reads e w)
unfolding whenever
tested true h = (refl, h)
tested false h = never h

passes : (b : Bool) {r : Reading} {e : Expr} {w : ℕ} → whenever b r ≡ reads e w → r ≡ reads e w
passes b h = (tested b h).1

follow : {A : Type 0} (r : Reading) (f : Expr → ℕ → Reading) {e : Expr} {w : ℕ} → (r followed_by f) ≡ reads e w
    → ((x : Expr) (m : ℕ) → r ≡ reads x m → f x m ≡ reads e w → A) → A
unfolding ◌followed_by◌
follow malformed f h k = never h
follow (reads x m) f h k = k x m refl h

module _ (sc : Scope) (c : ℕ) (l : List ℕ) (k : ℕ) (fits : length l ≤ k) (e : Expr) (w : ℕ) where
  -- an expression further behind the head
  at_drop : (i : ℕ) {x : Expr} {m : ℕ} → read_expr sc k (drop i l) ≡ reads x m → Stands sc (drop i l) x (drop (i + m) l)
  at_drop i {x} {m} h = rw (drop-drop m i l) at (stands k (omega (arith, length-drop i l)) h)

  -- the head itself is one byte
  behind : (h : Head) {d : Expr} {v : ℕ} (n : ℕ) → reads d v ≡ reads e w → v ≡ suc n → Inside sc l h d (drop n l) → Inside sc l h e (drop w (c ∷ l))
  behind h {d} {v} n same one i =
      let a : e ≡ d = cc in
      let b : w ≡ suc n = cc in
      rw (a, b) i

  inside : (h : Head) → read_after sc (λ m. read_expr sc k m) h l ≡ reads e w → Inside sc l h e (drop w (c ∷ l))
  unfolding read_after read_operand
  inside (base_literal t) h = behind (base_literal t) (operand_width t) (passes _ (passes _ h)) (omega arith) (refl, refl)
  inside function_literal h = behind function_literal 1 (passes _ (passes _ h)) refl (refl, refl)
  inside if_head h =
      follow _ _ h λ x m first h₁.
      follow _ _ h₁ λ y n second h₂.
      follow _ _ h₂ λ z o third h₃.
      behind if_head (m + n + o) h₃ (omega arith) (three if (stands k fits first) (at_drop m second) (at_drop (m + n) third))
  inside application_head h =
      follow _ _ h λ x m first h₁.
      follow _ _ h₁ λ y n second h₂.
      behind application_head (m + n) h₂ (omega arith) (two application (stands k fits first) (at_drop m second))
  inside attribute_head h =
      follow _ _ (passes _ (passes _ h)) λ x m first h₁.
      follow _ _ h₁ λ y n second h₂.
      behind attribute_head (1 + m + n) h₂ (omega arith) (two (λ x y. attribute x (get_or l 0 0) y) (at_drop 1 first) (at_drop (1 + m) second))
  inside this_head h = behind this_head 0 (passes _ h) refl (refl, refl)
  inside parameter_head h = behind parameter_head 0 (passes _ h) refl (refl, refl)
  inside no_head h = never h

pub head-inside : {sc : Scope} {c : ℕ} {l : List ℕ} → Parses sc (c ∷ l) → Inside sc l (head_of c) (next_expr sc (c ∷ l)) (pass_over sc (c ∷ l))
unfolding read_expr
head-inside {sc} {c} {l} p =
    let a = stands (length (c ∷ l)) {l = c ∷ l} (omega arith) p.read in
    rw (a.is, a.rest) (inside sc c l (length l) (omega arith) p.expr p.width (head_of c) p.read)

-- no expression is without bytes
pub none_inside : {A : Type 0} {sc : Scope} → Parses sc [] → A
unfolding read_expr
none_inside p = never p.read

-- a whole expression, as a rule or a question is one
pub whole-parses : {sc : Scope} {l : List ℕ} {e : Expr} → read_whole sc l ≡ expression e → Parses sc l × (next_expr sc l ≡ e)
whole-parses {sc} {l} {e} h = let a = stands (length l) {l = l} (omega arith) (whole-reads sc l e h) in (a.parses, a.is)

-- behind which nothing is left
pub whole-over : (sc : Scope) (l : List ℕ) {e : Expr} → read_whole sc l ≡ expression e → pass_over sc l ≡ []
whole-over sc l {e} h = (stands {sc = sc} (length l) {l = l} (omega arith) (whole-reads sc l e h)).rest ∙ drop_of_length-le l {i = length l} (omega arith)
