-- Reading an expression from bytes: the bound on the nesting is never reached, and what is read stands within its bytes and its scope.
use mathlib.Core.Bool.{Bool, true, false, false≢true}
use mathlib.Core.List.{List, [], ◌∷◌, ◌++◌}
use Rattle.std.specs.Prelude.{Some as some}
use mathlib.Core.Path.{◌≡◌, refl, sym, ◌∙◌}
use Prim.Native.Nat.{ℕ, zero, suc, ◌+◌, ◌≤◌}
use native.Mathlib.Omega.{arith}
use lib.Dec.{leb, ltb, eqb}
use lib.ListN.{length, take, drop, get_or, length-append, length-drop, get_or-append}
use lib.Seq.{take-append-le, drop-append-le}
use borrow.Author.Tests.{leb-true, eqb-true, le-leb, eq-eqb}
use Rattle.saiga.specs.Limits.{expression_limit}
use Rattle.saiga.specs.Values.{Base, Ty, Function, le, equal_int, equal_node, negation, add, subtract, function, function_of, function_type, type_of, Value, of_bytes, is_word}
use Rattle.saiga.specs.Expressions.{Expr, literal, if, application, attribute, this, parameter, Head, base_literal, function_literal, if_head, application_head, attribute_head, this_head, parameter_head, no_head, head_of, operand_width, Scope, Reading, malformed, reads, ◌followed_by◌, whenever, read_operand, read_after, read_expr, no_expression, expression, exactly, read_whole}
use Rattle.saiga.specs.Types.{Attribute, Typed, infer}
use Rattle.saiga.specs.Sound.{ValueIn, ExprIn}
use Rattle.saiga.proofs.FourBytes.{word_in, in-type}
use Rattle.saiga.proofs.Inference.{cond-passes, infer-sound}

-- ---- The bound on the nesting

-- Only shorter lists are read inside, so two readers that agree on those give one reading.
after-agrees : (s : Scope) (f g : List ℕ → Reading) (h : Head) (l : List ℕ) → ((m : List ℕ) → length m ≤ length l → f m ≡ g m)
    → read_after s f h l ≡ read_after s g h l
unfolding read_after
after-agrees s f g h l agree = go h
  where
    whole : f l ≡ g l
    whole = agree l (omega arith)

    rest : (n : ℕ) → f (drop n l) ≡ g (drop n l)
    rest n = agree (drop n l) (omega (arith, length-drop n l))

    go : (h : Head) → read_after s f h l ≡ read_after s g h l
    go (base_literal t) = refl
    go function_literal = refl
    go if_head = simp (whole, rest)
    go application_head = simp (whole, rest)
    go attribute_head = simp rest
    go this_head = refl
    go parameter_head = refl
    go no_head = refl

pub read-fuel : (s : Scope) (k j : ℕ) (l : List ℕ) → length l ≤ k → length l ≤ j → read_expr s k l ≡ read_expr s j l
unfolding read_expr
read-fuel s zero zero l p q = refl
read-fuel s zero (suc j) [] p q = refl
read-fuel s zero (suc j) (c ∷ l) p q = absurd (omega arith)
read-fuel s (suc k) zero [] p q = refl
read-fuel s (suc k) zero (c ∷ l) p q = absurd (omega arith)
read-fuel s (suc k) (suc j) [] p q = refl
read-fuel s (suc k) (suc j) (c ∷ l) p q = after-agrees s _ _ (head_of c) l λ m h. read-fuel s k j m (omega arith) (omega arith)

-- ---- A wider scope

-- What is declared is the same, and what may be used here may be used there.
pub record Wider (s t : Scope) : Type 0 where
  pub nodes : t.nodes ≡ s.nodes
  pub attributes : t.attributes ≡ s.attributes
  pub has-this : s.has-this ≡ true → t.has-this ≡ true
  pub has-parameter : s.has-parameter ≡ true → t.has-parameter ≡ true

-- what is read here is read there
abbrev Stays : Reading → Reading → Type 0
Stays malformed r = Unit {0}
Stays (reads e w) r = r ≡ reads e w

followed-stays : (q r : Reading) (f g : Expr → ℕ → Reading) → Stays q r → ((e : Expr) (w : ℕ) → q ≡ reads e w → Stays (f e w) (g e w))
    → Stays (q followed_by f) (r followed_by g)
unfolding ◌followed_by◌
followed-stays malformed r f g same rest = tt
followed-stays (reads e w) r f g same rest = rw same (rest e w refl)

whenever-stays : (a b : Bool) (q r : Reading) → (a ≡ true → b ≡ true) → (a ≡ true → Stays q r) → Stays (whenever a q) (whenever b r)
unfolding whenever
whenever-stays true b q r here same = rw (here refl) (same refl)
whenever-stays false b q r here same = tt

stays-refl : (r : Reading) → Stays r r
stays-refl malformed = tt
stays-refl (reads e w) = refl

after-stays : (s t : Scope) → Wider s t → (f g : List ℕ → Reading) (h : Head) (l : List ℕ) → ((m : List ℕ) → Stays (f m) (g m))
    → Stays (read_after s f h l) (read_after t g h l)
unfolding read_after read_operand
after-stays s t wider f g (base_literal b) l sub = rw wider.nodes (stays-refl (read_operand s b l))
after-stays s t wider f g function_literal l sub = stays-refl (read_after s f function_literal l)
after-stays s t wider f g if_head l sub =
    followed-stays (f l) (g l) _ _ (sub l) λ c m C.
    followed-stays (f (drop m l)) (g (drop m l)) _ _ (sub (drop m l)) λ u n U.
    followed-stays (f (drop (m + n) l)) (g (drop (m + n) l)) _ _ (sub (drop (m + n) l)) λ e o E. refl
after-stays s t wider f g application_head l sub =
    followed-stays (f l) (g l) _ _ (sub l) λ u m U.
    followed-stays (f (drop m l)) (g (drop m l)) _ _ (sub (drop m l)) λ x n X. refl
after-stays s t wider f g attribute_head l sub =
    rw wider.attributes
    (whenever-stays (leb 1 (length l)) _ _ _ (λ some. some) λ some.
    whenever-stays (ltb (get_or l 0 0) s.attributes) _ _ _ (λ declared. declared) λ declared.
    followed-stays (f (drop 1 l)) (g (drop 1 l)) _ _ (sub (drop 1 l)) λ n m N.
    followed-stays (f (drop (1 + m) l)) (g (drop (1 + m) l)) _ _ (sub (drop (1 + m) l)) λ x o X. refl)
after-stays s t wider f g this_head l sub = whenever-stays _ _ _ _ wider.has-this λ here. refl
after-stays s t wider f g parameter_head l sub = whenever-stays _ _ _ _ wider.has-parameter λ here. refl
after-stays s t wider f g no_head l sub = tt

reading-stays : (s t : Scope) → Wider s t → (k : ℕ) (l : List ℕ) → Stays (read_expr s k l) (read_expr t k l)
unfolding read_expr
reading-stays s t wider zero l = tt
reading-stays s t wider (suc k) [] = tt
reading-stays s t wider (suc k) (c ∷ l) = after-stays s t wider _ _ (head_of c) l λ m. reading-stays s t wider k m

-- ---- What is read

-- An expression of values on the sheet, with 0x30 and 0x31 only where the scope has them.
data InScope (s : Scope) : Expr → Type 0 where
  literal-in : {v : Value} → ValueIn s.nodes (type_of v) v → InScope s (literal v)
  if-in : {c t e : Expr} → InScope s c → InScope s t → InScope s e → InScope s (if c t e)
  application-in : {f x : Expr} → InScope s f → InScope s x → InScope s (application f x)
  attribute-in : {n x : Expr} {a : ℕ} → InScope s n → InScope s x → InScope s (attribute n a x)
  this-in : s.has-this ≡ true → InScope s this
  parameter-in : s.has-parameter ≡ true → InScope s parameter

-- nothing, or an expression in the scope that takes some of the first `n` bytes
abbrev ReadingIn : Scope → ℕ → Reading → Type 0
ReadingIn s n malformed = Unit {0}
ReadingIn s n (reads e w) = InScope s e × (1 ≤ w) × (w ≤ n)

followed-in : (s : Scope) (n : ℕ) {m : ℕ} (r : Reading) (f : Expr → ℕ → Reading) → ReadingIn s m r
    → ((e : Expr) (w : ℕ) → ReadingIn s m (reads e w) → ReadingIn s n (f e w)) → ReadingIn s n (r followed_by f)
unfolding ◌followed_by◌
followed-in s n malformed f r k = tt
followed-in s n (reads e w) f r k = k e w r

whenever-in : (s : Scope) (n : ℕ) (b : Bool) (r : Reading) → (b ≡ true → ReadingIn s n r) → ReadingIn s n (whenever b r)
unfolding whenever
whenever-in s n true r k = k refl
whenever-in s n false r k = tt

function-in : (nodes : ℕ) (f : Function) → ValueIn nodes (type_of (function f)) (function f)
unfolding type_of function_type
function-in nodes le = refl
function-in nodes equal_int = refl
function-in nodes equal_node = refl
function-in nodes negation = refl
function-in nodes add = refl
function-in nodes subtract = refl

after-in : (s : Scope) (sub : List ℕ → Reading) (h : Head) (l : List ℕ) → ((m : List ℕ) → ReadingIn s (length m) (sub m))
    → ReadingIn s (suc (length l)) (read_after s sub h l)
unfolding read_after read_operand
after-in s sub (base_literal t) l ih =
    whenever-in s _ (leb (operand_width t) (length l)) _ λ p.
    whenever-in s _ (is_word s.nodes t (of_bytes (take (operand_width t) l))) _ λ q.
    let i = word_in s.nodes t _ q in
    let fits = leb-true (operand_width t) (length l) p in
    (literal-in (rw (in-type i) i), omega arith, omega arith)
after-in s sub function_literal l ih =
    whenever-in s _ (leb 1 (length l)) _ λ p.
    whenever-in s _ (ltb (get_or l 0 0) 6) _ λ q.
    let fits = leb-true 1 (length l) p in
    (literal-in (function-in s.nodes (function_of (get_or l 0 0))), omega arith, omega arith)
after-in s sub if_head l ih =
    followed-in s _ (sub l) _ (ih l) λ c m C.
    followed-in s _ (sub (drop m l)) _ (ih (drop m l)) λ t n D.
    followed-in s _ (sub (drop (m + n) l)) _ (ih (drop (m + n) l)) λ e o E.
    (if-in C.0 D.0 E.0, omega arith, omega (arith, length-drop m l, length-drop (m + n) l))
after-in s sub application_head l ih =
    followed-in s _ (sub l) _ (ih l) λ f m F.
    followed-in s _ (sub (drop m l)) _ (ih (drop m l)) λ x n X.
    (application-in F.0 X.0, omega arith, omega (arith, length-drop m l))
after-in s sub attribute_head l ih =
    whenever-in s _ (leb 1 (length l)) _ λ p.
    whenever-in s _ (ltb (get_or l 0 0) s.attributes) _ λ q.
    followed-in s _ (sub (drop 1 l)) _ (ih (drop 1 l)) λ n m N.
    followed-in s _ (sub (drop (1 + m) l)) _ (ih (drop (1 + m) l)) λ x o X.
    let fits = leb-true 1 (length l) p in
    (attribute-in N.0 X.0, omega arith, omega (arith, length-drop 1 l, length-drop (1 + m) l))
after-in s sub this_head l ih = whenever-in s _ s.has-this _ λ p. (this-in p, omega arith, omega arith)
after-in s sub parameter_head l ih = whenever-in s _ s.has-parameter _ λ p. (parameter-in p, omega arith, omega arith)
after-in s sub no_head l ih = tt

reading-in : (s : Scope) (k : ℕ) (l : List ℕ) → ReadingIn s (length l) (read_expr s k l)
unfolding read_expr
reading-in s zero l = tt
reading-in s (suc k) [] = tt
reading-in s (suc k) (c ∷ l) = after-in s _ (head_of c) l λ m. reading-in s k m

pub read-width : (s : Scope) (k : ℕ) (l : List ℕ) (e : Expr) (w : ℕ) → read_expr s k l ≡ reads e w → (1 ≤ w) × (w ≤ length l)
read-width s k l e w h = let r = rw h at (reading-in s k l) in (r.1, r.2)

-- ---- With a type inferred

in-scope-typed : {sc : Scope} {sig : List Attribute} {p : Base} {e : Expr} {T : Ty} → InScope sc e → Typed sig p e T → ExprIn sc sig p e T
in-scope-typed (literal-in v) Typed.literal∈ = ExprIn.literal∈ v
in-scope-typed (if-in c t e) (Typed.if∈ C D E) = ExprIn.if∈ (in-scope-typed c C) (in-scope-typed t D) (in-scope-typed e E)
in-scope-typed (application-in f x) (Typed.application∈ F X) = ExprIn.application∈ (in-scope-typed f F) (in-scope-typed x X)
in-scope-typed (attribute-in n x) (Typed.attribute∈ l N X) = ExprIn.attribute∈ l (in-scope-typed n N) (in-scope-typed x X)
in-scope-typed (this-in h) Typed.this∈ = ExprIn.this∈ h
in-scope-typed (parameter-in h) Typed.parameter∈ = ExprIn.parameter∈ h

no_whole : {e : Expr} → no_expression ≡ expression e → ⊥
no_whole h = let z : ◌≡◌ {A = ℕ} 0 1 = cc in omega arith

exactly_reads : (n : ℕ) (r : Reading) (e : Expr) → exactly n r ≡ expression e → r ≡ reads e n
unfolding exactly
exactly_reads n malformed e h = absurd (no_whole h)
exactly_reads n (reads d w) e h =
    let (t, q) = cond-passes (eqb w n) h no_whole in
    let v = eqb-true w n t in
    cc

pub whole-reads : (s : Scope) (l : List ℕ) (e : Expr) → read_whole s l ≡ expression e → read_expr s (length l) l ≡ reads e (length l)
unfolding read_whole
whole-reads s l e h = exactly_reads (length l) _ e (cond-passes (leb (length l) expression_limit) h no_whole).1

pub read-in : (sc : Scope) (sig : List Attribute) (p : Base) (l : List ℕ) (e : Expr) (T : Ty) → sc.attributes ≡ length sig → read_whole sc l ≡ expression e
    → infer sig p e ≡ some T → ExprIn sc sig p e T
read-in sc sig p l e T _ r t = let g = rw (whole-reads sc l e r) at (reading-in sc (length l) l) in in-scope-typed g.0 (infer-sound e t)

-- ---- Without 0x31

pub wider-reads : (s t : Scope) → Wider s t → (l : List ℕ) (e : Expr) → read_whole s l ≡ expression e → read_whole t l ≡ expression e
unfolding read_whole exactly
wider-reads s t wider l e h =
    let short = (cond-passes (leb (length l) expression_limit) h no_whole).0 in
    let here = whole-reads s l e h in
    let there = rw here at (reading-stays s t wider (length l) l) in
    rw (short, there, eq-eqb (length l) (length l) refl)

-- An expression that was read where 0x31 may not be used has one type, whatever type 0x31 has.
pub any-parameter : (sc : Scope) (sig : List Attribute) (p q : Base) (l : List ℕ) (e : Expr) → sc.has-parameter ≡ false → read_whole sc l ≡ expression e
    → infer sig p e ≡ infer sig q e
unfolding infer
any-parameter sc sig p q l e none r = go e (rw (whole-reads sc l e r) at (reading-in sc (length l) l)).0
  where
    go : (e : Expr) → InScope sc e → infer sig p e ≡ infer sig q e
    go _ (literal-in v) = refl
    go _ (if-in c t e) = rw (go _ c, go _ t, go _ e)
    go _ (application-in f x) = rw (go _ f, go _ x)
    go _ (attribute-in n x) = rw (go _ n, go _ x)
    go _ (this-in h) = refl
    go _ (parameter-in h) = absurd (false≢true (sym none ∙ h))

-- ---- More bytes behind

-- Each part with `m` behind it, where that holds of the shorter expressions inside.
module _ (s : Scope) (f : List ℕ → Reading) (m : List ℕ) (sub : (j : List ℕ) → Stays (f j) (f (j ++ m)))
    (width : (j : List ℕ) (e : Expr) (w : ℕ) → f j ≡ reads e w → w ≤ length j) where
  longer : (n : ℕ) (l : List ℕ) → leb n (length l) ≡ true → leb n (length (l ++ m)) ≡ true
  longer n l fits = let h = leb-true n (length l) fits in le-leb n (length (l ++ m)) (rw length-append (omega arith))

  first-behind : (l : List ℕ) → leb 1 (length l) ≡ true → get_or (l ++ m) 0 0 ≡ get_or l 0 0
  first-behind l fits = let h = leb-true 1 (length l) fits in get_or-append l m 0 0 (omega arith)

  rest-behind : (n : ℕ) (l : List ℕ) → n ≤ length l → Stays (f (drop n l)) (f (drop n (l ++ m)))
  rest-behind n l fits = rw (drop-append-le n l m fits) (sub (drop n l))

  after-behind : (h : Head) (l : List ℕ) → Stays (read_after s f h l) (read_after s f h (l ++ m))
  unfolding read_after read_operand
  after-behind (base_literal t) l =
      whenever-stays (leb (operand_width t) (length l)) (leb (operand_width t) (length (l ++ m))) _ _ (longer (operand_width t) l) λ fits.
      rw (take-append-le (operand_width t) l m (leb-true (operand_width t) (length l) fits))
      (whenever-stays (is_word s.nodes t (of_bytes (take (operand_width t) l))) _ _ _ (λ word. word) λ word. refl)
  after-behind function_literal l =
      whenever-stays (leb 1 (length l)) (leb 1 (length (l ++ m))) _ _ (longer 1 l) λ fits.
      rw (first-behind l fits) (whenever-stays (ltb (get_or l 0 0) 6) _ _ _ (λ known. known) λ known. refl)
  after-behind if_head l =
      followed-stays (f l) (f (l ++ m)) _ _ (sub l) λ c i C.
      followed-stays (f (drop i l)) (f (drop i (l ++ m))) _ _ (rest-behind i l (width l c i C)) λ t n T.
      followed-stays (f (drop (i + n) l)) (f (drop (i + n) (l ++ m))) _ _
      (rest-behind (i + n) l (omega (arith, length-drop i l, width l c i C, width (drop i l) t n T))) λ e o E. refl
  after-behind application_head l =
      followed-stays (f l) (f (l ++ m)) _ _ (sub l) λ g i G.
      followed-stays (f (drop i l)) (f (drop i (l ++ m))) _ _ (rest-behind i l (width l g i G)) λ x n X. refl
  after-behind attribute_head l =
      whenever-stays (leb 1 (length l)) (leb 1 (length (l ++ m))) _ _ (longer 1 l) λ fits.
      rw (first-behind l fits)
      (whenever-stays (ltb (get_or l 0 0) s.attributes) _ _ _ (λ declared. declared) λ declared.
      let some = leb-true 1 (length l) fits in
      followed-stays (f (drop 1 l)) (f (drop 1 (l ++ m))) _ _ (rest-behind 1 l some) λ n i N.
      followed-stays (f (drop (1 + i) l)) (f (drop (1 + i) (l ++ m))) _ _
      (rest-behind (1 + i) l (omega (arith, length-drop 1 l, width (drop 1 l) n i N))) λ x o X. refl)
  after-behind this_head l = stays-refl (whenever s.has-this (reads this 1))
  after-behind parameter_head l = stays-refl (whenever s.has-parameter (reads parameter 1))
  after-behind no_head l = tt

reading-behind : (s : Scope) (k : ℕ) (m l : List ℕ) → Stays (read_expr s k l) (read_expr s k (l ++ m))
unfolding read_expr
reading-behind s zero m l = tt
reading-behind s (suc k) m [] = tt
reading-behind s (suc k) m (c ∷ l) = after-behind s _ m (λ j. reading-behind s k m j) (λ j e w h. (read-width s k j e w h).1) (head_of c) l

-- What reads as an expression reads as the same with more bytes behind it, which it leaves.
pub read_behind : (s : Scope) (k : ℕ) (l m : List ℕ) (e : Expr) (w : ℕ) → read_expr s k l ≡ reads e w → read_expr s k (l ++ m) ≡ reads e w
read_behind s k l m e w h = rw h at (reading-behind s k m l)
