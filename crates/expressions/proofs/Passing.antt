-- Passing over expressions one after the other: what stands inside an expression takes the place of the expression, behind its head.
use mathlib.Core.Bool.{Bool, true, false}
use mathlib.Core.List.{List, ◌∷◌}
use mathlib.Core.Path.{◌≡◌, refl, ◌∙◌}
use Prim.Native.Nat.{ℕ, zero, suc, ◌+◌, ◌-◌, ◌/◌, ◌%◌, ◌≤◌, ◌<◌}
use native.Mathlib.Omega.{arith}
use lib.Dec.{lit<}
use lib.ListN.{length, drop, get_or, length-drop}
use lib.Seq.{drop-cons, drop-drop}
use Rattle.saiga.specs.declared.Base.TheVariants.{Unit as unit_t, Bool as bool_t, Int as int_t, Node as node_t}
use Rattle.saiga.specs.Expressions.{Expr, Scope, Head, base_literal, function_literal, if_head, application_head, attribute_head, this_head, parameter_head, no_head, head_of, operand_width, Reading, malformed, reads, ◌followed_by◌, whenever, read_operand, read_after, read_expr}
use Rattle.saiga.proofs.Reading.{read-fuel, read-width}
use Rattle.expressions.specs.Widths.{head_width, following, shape_of}

-- `n` expressions at the front of `l` take `w` bytes
pub data Passes (sc : Scope) : ℕ → List ℕ → ℕ → Type 0 where
  none : {l : List ℕ} → Passes sc 0 l 0
  more : {n : ℕ} {l : List ℕ} {m w : ℕ} {x : Expr} → read_expr sc (length l) l ≡ reads x m → Passes sc n (drop m l) w → Passes sc (suc n) l (m + w)

-- Each takes at least a byte, and none reaches past the end.
pub passes-within : {sc : Scope} {n : ℕ} {l : List ℕ} {w : ℕ} → Passes sc n l w → (n ≤ w) × (w ≤ length l)
passes-within none = (omega arith, omega arith)
passes-within {sc} {l} (more {m} {x} r p) =
    let one = read-width sc (length l) l x m r in
    let rest = passes-within p in
    (omega arith, omega (arith, length-drop m l))

-- ---- What a reading says of its parts

never : {A : Type 0} {e : Expr} {w : ℕ} → malformed ≡ reads e w → A
never h = let z : ◌≡◌ {A = ℕ} 0 1 = cc in absurd (omega arith)

passed : (b : Bool) {r : Reading} {e : Expr} {w : ℕ} → whenever b r ≡ reads e w → r ≡ reads e w
unfolding whenever
passed true h = h
passed false h = never h

follow : {A : Type 0} (r : Reading) (f : Expr → ℕ → Reading) {e : Expr} {w : ℕ} → (r followed_by f) ≡ reads e w
    → ((x : Expr) (m : ℕ) → r ≡ reads x m → f x m ≡ reads e w → A) → A
unfolding ◌followed_by◌
follow malformed f h k = never h
follow (reads x m) f h k = k x m refl h

-- ---- The law of a head

-- `n` expressions behind one with the head `h` take `v` bytes with it: the head with its operand, and what follows, with `following h` expressions more
pub record Opened (sc : Scope) (h : Head) (n : ℕ) (l : List ℕ) (v : ℕ) : Type 0 where
  pub rest : ℕ
  pub total : head_width h + rest ≡ v
  pub passes : Passes sc (n + following h) (drop (head_width h) l) rest

module _ (sc : Scope) (c : ℕ) (l : List ℕ) (k : ℕ) (fits : length l ≤ k) where
  first : {x : Expr} {m n u : ℕ} → read_expr sc k l ≡ reads x m → Passes sc n (drop m l) u → Passes sc (suc n) l (m + u)
  first h p = more (read-fuel sc (length l) k l (omega arith) fits ∙ h) p

  -- an expression `i` bytes behind the head, and then others
  then : (i : ℕ) {x : Expr} {m n u : ℕ} → read_expr sc k (drop i l) ≡ reads x m → Passes sc n (drop (i + m) l) u → Passes sc (suc n) (drop i l) (m + u)
  then i {m} h p =
      more (read-fuel sc (length (drop i l)) k (drop i l) (omega arith) (omega (arith, length-drop i l)) ∙ h)
      (rw (← drop-drop m i l) at p)

  module _ (n v : ℕ) {x : Expr} {w : ℕ} (p : Passes sc n (drop w (c ∷ l)) v) where
    -- The head itself is one byte, its operand takes `b`, and the `a` bytes behind the head are all that the expression takes.
    behind : (h : Head) {d : Expr} {y : ℕ} (b j a u : ℕ) → reads d y ≡ reads x w → head_width h ≡ suc b → n + following h ≡ j → y ≡ suc a → b + u ≡ a + v
        → (Passes sc n (drop a l) v → Passes sc j (drop b l) u) → Opened sc h n (c ∷ l) (w + v)
    behind h b j a u same head count one total f =
        let e : w ≡ suc a = cc in
        record { rest = u; total = omega arith; passes = rw (head, count) (f (rw e at p)) }

    opened : (h : Head) → read_after sc (λ m. read_expr sc k m) h l ≡ reads x w → Opened sc h n (c ∷ l) (w + v)
    unfolding read_after read_operand
    opened (base_literal t) h =
        behind (base_literal t) (operand_width t) n (operand_width t) v (passed _ (passed _ h)) (omega arith) (omega arith) (omega arith) refl (λ p. p)
    opened function_literal h = behind function_literal 1 n 1 v (passed _ (passed _ h)) refl (omega arith) refl refl (λ p. p)
    opened if_head h =
        follow _ _ h λ x m one h₁.
        follow _ _ h₁ λ y m₂ two h₂.
        follow _ _ h₂ λ z m₃ three h₃.
        behind if_head 0 (suc (suc (suc n))) (m + m₂ + m₃) (m + (m₂ + (m₃ + v))) h₃ refl (omega arith) (omega arith) (omega arith)
        (λ p. first one (then m two (then (m + m₂) three p)))
    opened application_head h =
        follow _ _ h λ x m one h₁.
        follow _ _ h₁ λ y m₂ two h₂.
        behind application_head 0 (suc (suc n)) (m + m₂) (m + (m₂ + v)) h₂ refl (omega arith) (omega arith) (omega arith)
        (λ p. first one (then m two p))
    opened attribute_head h =
        follow _ _ (passed _ (passed _ h)) λ x m one h₁.
        follow _ _ h₁ λ y m₂ two h₂.
        behind attribute_head 1 (suc (suc n)) (1 + m + m₂) (m + (m₂ + v)) h₂ refl (omega arith) (omega arith) (omega arith)
        (λ p. then 1 one (then (1 + m) two p))
    opened this_head h = behind this_head 0 n 0 v (passed _ h) refl (omega arith) refl refl (λ p. p)
    opened parameter_head h = behind parameter_head 0 n 0 v (passed _ h) refl (omega arith) refl refl (λ p. p)
    opened no_head h = never h

pub open-head : {sc : Scope} {c : ℕ} {l : List ℕ} {n w : ℕ} → Passes sc (suc n) (c ∷ l) w → Opened sc (head_of c) n (c ∷ l) w
unfolding read_expr
open-head {sc} {c} {l} {n} (more {w} r p) = opened sc c l (length l) (omega arith) n w p (head_of c) r

-- ---- A head's shape

pub width_small : (h : Head) → (0 < head_width h) × (head_width h < 8)
width_small (base_literal unit_t) = (lit< tt, lit< tt)
width_small (base_literal bool_t) = (lit< tt, lit< tt)
width_small (base_literal int_t) = (lit< tt, lit< tt)
width_small (base_literal node_t) = (lit< tt, lit< tt)
width_small function_literal = (lit< tt, lit< tt)
width_small if_head = (lit< tt, lit< tt)
width_small application_head = (lit< tt, lit< tt)
width_small attribute_head = (lit< tt, lit< tt)
width_small this_head = (lit< tt, lit< tt)
width_small parameter_head = (lit< tt, lit< tt)
width_small no_head = (lit< tt, lit< tt)

shape-parts : (h : Head) → (shape_of h % 8 ≡ head_width h) × (shape_of h / 8 ≡ following h)
unfolding shape_of
shape-parts h = let small = width_small h in (omega arith, omega arith)

pub shape-moves : (h : Head) {r : ℕ} → r ≡ shape_of h → 0 < r % 8
shape-moves h e = rw (e, (shape-parts h).0) (width_small h).0

pub head-moves : (h : Head) {bytes : ℕ} → bytes ≡ shape_of h % 8 → 0 < bytes
head-moves h e = rw e (shape-moves h refl)

-- ---- The loop

-- behind the first `at` bytes of `l`, `n` expressions more take all up to `w`
pub record Ahead (sc : Scope) (l : List ℕ) (n at w : ℕ) : Type 0 where
  rest : ℕ
  total : at + rest ≡ w
  passes : Passes sc n (drop at l) rest

pub one-ahead : {sc : Scope} {l : List ℕ} {e : Expr} {w : ℕ} → read_expr sc (length l) l ≡ reads e w → Ahead sc l 1 0 w
one-ahead {w} r = record { rest = w + 0; total = omega arith; passes = more r none }

pub none_ahead : {sc : Scope} {l : List ℕ} {n at w : ℕ} → n ≤ 0 → Ahead sc l n at w → at ≡ w
none_ahead z a = go a.passes a.total z
  where
    go : {sc : Scope} {l : List ℕ} {n at u w : ℕ} → Passes sc n l u → at + u ≡ w → n ≤ 0 → at ≡ w
    go none t z = omega arith
    go (more r p) t z = absurd (omega arith)

pub ahead_within : {sc : Scope} {l : List ℕ} {e : Expr} {n at w : ℕ} → read_expr sc (length l) l ≡ reads e w → Ahead sc l n at w → n + at ≤ length l
ahead_within {sc} {l} {e} {w} r a = omega (arith, a.total, (passes-within a.passes).0, read-width sc (length l) l e w r)

pub more-inside : {sc : Scope} {l : List ℕ} {n at w : ℕ} → 0 < n → Ahead sc l n at w → at < length l
more-inside {l} {at} some a = let p = passes-within a.passes in omega (arith, length-drop at l)

-- One turn: the head at `at` is passed with its operand, and the expressions that follow it are to come.
pub turn : {sc : Scope} {l : List ℕ} {n at w r : ℕ} → r ≡ shape_of (head_of (get_or l at 0)) → 0 < n → Ahead sc l n at w
    → Ahead sc l (n - 1 + r / 8) (at + r % 8) w
turn {n = zero} shape some a = absurd (omega arith)
turn {l} {n = suc k} {at} shape some a =
    let h = head_of (get_or l at 0) in
    let split : drop at l ≡ get_or l at 0 ∷ drop (suc at) l = drop-cons l at 0 (more-inside some a) in
    let o = open-head (rw split at a.passes) in
    let less : suc k - 1 ≡ k = omega arith in
    rw (shape, (shape-parts h).0, (shape-parts h).1, less)
    (record { rest = o.rest; total = omega (arith, o.total, a.total); passes = rw (← drop-drop (head_width h) at l, split) o.passes })
