-- A question of plain Saiga ends, or some occurrence comes due inside its own evaluation: a sheet has only so many occurrences, so an evaluation
-- inside an evaluation, and so on, is of a new one only so often.
use mathlib.Core.Bool.{Bool, true, false, ◌||◌, false≢true}
use mathlib.Core.Bool as Bool
use mathlib.Core.List.{List}
use mathlib.Core.Logic.{◌⊎◌, inl, inr}
use Rattle.std.specs.Prelude.{Some as some, Option, None as none}
use mathlib.Core.Path.{◌≡◌, refl}
use Prim.Native.Nat.{ℕ, zero, suc, ◌+◌, ◌*◌, ◌≤◌, ◌<◌, zero-le}
use native.Mathlib.Omega.{arith}
use lib.Dec.{eqb}
use lib.ListN.{length}
use borrow.Author.Tests.{eqb-true, eqb-false, ne_eqb}
use Rattle.saiga.specs.Limits.{node_limit, attribute_limit}
use Rattle.saiga.specs.Values.{node_t, Ty, base, Value, truth, null, node_of, apply, word_limit, to_word}
use Rattle.saiga.specs.Expressions.{Expr}
use Rattle.saiga.specs.Types.{Attribute, attribute_at}
use Rattle.saiga.specs.Terms.{Occurrence, val, app, attr}
use Rattle.saiga.specs.Plain.{Plain, NoValue, on_null, by_overflow, steps_to, ends_without, step_part, plain_application, plain_attribute, plain_step, plain_at, EndsWithValue, EndsWithout, RunsForEver}
use Rattle.saiga.specs.Sound.{IsA, ValueIn, OccurrenceIn, PlainIn, val∈, cond∈, app∈, attr∈, form∈, ContextIn}
use Rattle.saiga.specs.Sheet.{Sheet, context, accepted, check_sheet, node_count}
use Rattle.saiga.specs.Ask.{asked, check_question}
use Rattle.saiga.specs.Demand3.{PlainEnding, a_value, no_value, PlainEnds}
use Rattle.saiga.specs.PlainCircles.{Around, whole, in_condition, in_function, in_argument, in_node, in_parameter, fill, DueOn, σ, ComesDue, CircleIn, PlainCircles}
use Rattle.saiga.proofs.FourBytes.{word_small}
use Rattle.saiga.proofs.Equality.{occurrence-settled}
use Rattle.saiga.proofs.Accepted.{AcceptedSheet, accepted-sheet}
use Rattle.saiga.proofs.Places.{due_inside, fill-ends, fill-comes, step-first, comes-on, as-alone, circle-for-ever}
use Rattle.saiga.proofs.Preservation.{either, σ-in, due-occurrence, plain-at-in}
use Rattle.saiga.proofs.Endings.{never_both}
use Rattle.saiga.proofs.Calls.{question-in}
use Rattle.saiga.proofs.Safety.{asked_in}

-- ---- The numbers that are not open

-- how many numbers below n are not open
unfoldable closed : ℕ → (ℕ → Bool) → ℕ
closed zero is-open = 0
closed (suc n) is-open = Bool.cond (is-open n) (closed n is-open) (suc (closed n is-open))

-- one more number is open
abbrev opening : ℕ → (ℕ → Bool) → ℕ → Bool
opening c is-open m = eqb m c || is-open m

closed-most : (n : ℕ) (is-open : ℕ → Bool) → closed n is-open ≤ n
unfolding closed
closed-most zero is-open = zero-le
closed-most (suc n) is-open =
    let most = closed-most n is-open in
    either (λ m. m ≤ suc n) (is-open n) (λ _. omega arith) (λ _. omega arith)

suc-cond : (b : Bool) (m : ℕ) → suc (Bool.cond b m (suc m)) ≡ Bool.cond b (suc m) (suc (suc m))
suc-cond true m = refl
suc-cond false m = refl

module _ (is-open : ℕ → Bool) (c : ℕ) where
  -- those below it are as they were
  closed-below : (n : ℕ) → n ≤ c → closed n (opening c is-open) ≡ closed n is-open
  unfolding closed
  closed-below zero h = refl
  closed-below (suc n) h = rw (ne_eqb n c (omega arith), closed-below n (omega arith))

  -- and where it was not, one fewer is not open now
  closed-fewer : (n : ℕ) → c < n → is-open c ≡ false → suc (closed n (opening c is-open)) ≡ closed n is-open
  unfolding closed
  closed-fewer zero h new = absurd (omega arith)
  closed-fewer (suc n) h new = go (eqb n c) refl (closed-fewer n)
    where
      go : (b : Bool) → eqb n c ≡ b → (c < n → is-open c ≡ false → suc (closed n (opening c is-open)) ≡ closed n is-open)
          → suc (Bool.cond (b || is-open n) (closed n (opening c is-open)) (suc (closed n (opening c is-open)))) ≡ closed (suc n) is-open
      go true e fewer = let same = eqb-true n c e in rw (same, new, closed-below c (omega arith))
      go false e fewer =
          let other = eqb-false n c e in
          rw (← fewer (omega arith) new) (suc-cond (is-open n) (closed n (opening c is-open)))

-- ---- What the run of an expression comes to

module _ (nodes : ℕ) (sig : List Attribute) (context : ℕ → ℕ → Expr) (context-in : ContextIn nodes sig context) (code : Occurrence → ℕ) where
  -- It ends with a value or without one; an occurrence comes due inside its own evaluation; or an occurrence comes due that is open already.
  data Verdict (is-open : ℕ → Bool) (t : Plain) : Type 0 where
    with_value : (n : ℕ) (v : Value) → plain_at context n t ≡ some (val v) → Verdict is-open t
    without : (n : ℕ) (why : NoValue) (t' : Plain) → plain_at context n t ≡ some t' → plain_step context t' ≡ ends_without why → Verdict is-open t
    circles : CircleIn context t → Verdict is-open t
    due-open : (o : Occurrence) → OccurrenceIn nodes sig o → is-open (code o) ≡ true → ComesDue context t o → Verdict is-open t

  -- What comes later in the run comes in it.
  due-later : (n : ℕ) {t t' : Plain} {o : Occurrence} → plain_at context n t ≡ some t' → ComesDue context t' o → ComesDue context t o
  due-later n {t} {t'} h d = record {
    count = n + d.count;
    there = d.there;
    comes = comes-on context n d.count t t' d.there h d.comes;
    due = d.due;
  }

  circle-later : (n : ℕ) {t t' : Plain} → plain_at context n t ≡ some t' → CircleIn context t' → CircleIn context t
  circle-later n h c = record { occurrence = c.occurrence; due = due-later n h c.due; again = c.again }

  later : {is-open : ℕ → Bool} (n : ℕ) {t t' : Plain} → plain_at context n t ≡ some t' → Verdict is-open t' → Verdict is-open t
  later n {t} {t'} h (with_value m v e) = with_value (n + m) v (comes-on context n m t t' (val v) h e)
  later n {t} {t'} h (without m why u e final) = without (n + m) why u (comes-on context n m t t' u h e) final
  later n h (circles c) = circles (circle-later n h c)
  later n h (due-open o i is d) = due-open o i is (due-later n h d)

  -- one step later
  next : {is-open : ℕ → Bool} {t t' : Plain} → plain_step context t ≡ steps_to t' → Verdict is-open t' → Verdict is-open t
  unfolding plain_at
  next {t} {t'} h v = later 1 (step-first context 0 t t' t' h refl) v

  -- What comes in a part comes in the whole.
  due-part : (around : Around) {t : Plain} {o : Occurrence} → ComesDue context t o → ComesDue context (fill around t) o
  due-part around {t} d = record {
    count = d.count;
    there = fill around d.there;
    comes = fill-comes context around d.count t d.there d.comes;
    due = due_inside around d.due;
  }

  value_of : {v : Value} {T : Ty} → PlainIn nodes sig (val v) T → ValueIn nodes T v
  value_of (val∈ h) = h

  -- Where the part comes to a value, the whole goes on with it.
  part : {is-open : ℕ → Bool} (around : Around) {t : Plain} {T : Ty} → PlainIn nodes sig t T → Verdict is-open t
      → ((v : Value) → ValueIn nodes T v → Verdict is-open (fill around (val v))) → Verdict is-open (fill around t)
  part around {t} {T} h (with_value n v e) go_on =
      later n (fill-comes context around n t (val v) e) (go_on v (value_of (plain-at-in nodes sig context context-in n t (val v) T e h)))
  part around {t} h (without n why u e final) go_on =
      without n why (fill around u) (fill-comes context around n t u e) (fill-ends context around why u final)
  part around h (circles c) go_on = circles record { occurrence = c.occurrence; due = due-part around c.due; again = c.again }
  part around h (due-open o i is d) go_on = due-open o i is (due-part around d)

  -- ---- The verdict of each expression

  applied : {is-open : ℕ → Bool} (v w : Value) (r : Option Value) → apply v w ≡ r → Verdict is-open (app (val v) (val w))
  unfolding plain_at plain_step step_part plain_application
  applied v w (some u) e = next (rw e) (with_value 0 u refl)
  applied v w none e = without 0 by_overflow (app (val v) (val w)) refl (rw e)

  module _ (apart : (o p : Occurrence) → OccurrenceIn nodes sig o → OccurrenceIn nodes sig p → code o ≡ code p → o ≡ p) where
    -- AttrApp is due on an occurrence that is not open: its σ takes the place, and the occurrence is open.
    after-opening : {is-open : ℕ → Bool} {t : Plain} (o : Occurrence) → OccurrenceIn nodes sig o → DueOn o t → plain_step context t ≡ steps_to (σ context o)
        → Verdict (opening (code o) is-open) (σ context o) → Verdict is-open t
    unfolding plain_at
    after-opening o i now step (with_value n v e) = next step (with_value n v e)
    after-opening o i now step (without n why u e final) = next step (without n why u e final)
    after-opening o i now step (circles c) = next step (circles c)
    after-opening {is-open} {t} o i now step (due-open p j is d) = go (eqb (code p) (code o)) refl is
      where
        go : (b : Bool) → eqb (code p) (code o) ≡ b → (b || is-open (code p)) ≡ true → Verdict is-open t
        go true e is =
            let same = apart p o j i (eqb-true (code p) (code o) e) in
            circles record { occurrence = o; due = record { count = 0; there = t; comes = refl; due = now }; again = rw same at d }
        go false e is = next step (due-open p j is d)

    module _ (is-open : ℕ → Bool)
        (opened : (o : Occurrence) → OccurrenceIn nodes sig o → is-open (code o) ≡ false → Verdict (opening (code o) is-open) (σ context o)) where
      -- `opened` is the verdict of σ of each occurrence that is not open yet.
      attribute-due : (v : Value) (a : ℕ) (w : Value) → a < length sig → IsA nodes node_t v → IsA nodes (attribute_at sig a).parameter-type w
          → Verdict is-open (attr (val v) a (val w))
      unfolding plain_at plain_step step_part plain_attribute fill
      attribute-due v a w ha hv hw = on (eqb (node_of v) null) refl
        where
          o : Occurrence
          o = record { node = node_of v; attribute = a; parameter = w }

          by-open : eqb (node_of v) null ≡ false → OccurrenceIn nodes sig o → DueOn o (attr (val v) a (val w)) → (b : Bool) → is-open (code o) ≡ b
              → Verdict is-open (attr (val v) a (val w))
          by-open some-node i now true is = due-open o i is record { count = 0; there = attr (val v) a (val w); comes = refl; due = now }
          by-open some-node i now false new = after-opening o i now (rw some-node) (opened o i new)

          on : (b : Bool) → eqb (node_of v) null ≡ b → Verdict is-open (attr (val v) a (val w))
          on true e = without 0 on_null (attr (val v) a (val w)) refl (rw e)
          on false e =
              by-open e (due-occurrence nodes sig v a w ha hv hw e)
              record { around = whole; on = v; node-of = refl; no_null = eqb-false (node_of v) null e; stands = refl }
              (is-open (code o)) refl

      -- Parts first, from the left, as they are stepped; what is due then goes by the values that they came to.
      verdict : (t : Plain) (T : Ty) → PlainIn nodes sig t T → Verdict is-open t
      unfolding fill plain_at plain_step step_part
      verdict _ T (val∈ {v} h) = with_value 0 v refl
      verdict _ T (cond∈ {t} {e} hc ht he) =
          part (in_condition whole t e) hc (verdict _ _ hc)
          (λ v hv. next {t' = Bool.cond (truth v) t e} refl (either (Verdict is-open) (truth v) (λ _. verdict _ _ ht) (λ _. verdict _ _ he)))
      verdict _ T (app∈ {x} hf hx) =
          part (in_function whole x) hf (verdict _ _ hf)
          (λ v hv. part (in_argument v whole) hx (verdict _ _ hx) (λ w hw. applied v w (apply v w) refl))
      verdict _ _ (attr∈ {x} {a} ha hn hx) =
          part (in_node whole a x) hn (verdict _ _ hn)
          (λ v hv. part (in_parameter v a whole) hx (verdict _ _ hx) (λ w hw. attribute-due v a w ha hv hw))
      verdict _ _ (form∈ {o} ho he) = absurd o

    -- ---- Occurrences are opened only so often

    module _ (limit : ℕ) (small : (o : Occurrence) → OccurrenceIn nodes sig o → code o < limit) where
      -- k is at least the number of occurrences that are not open. Each opening makes it one less, so none is due where k is 0.
      decide : (k : ℕ) (is-open : ℕ → Bool) → closed limit is-open ≤ k → (t : Plain) (T : Ty) → PlainIn nodes sig t T → Verdict is-open t
      decide zero is-open most t T h =
          verdict is-open (λ o i new. absurd (omega (arith, closed-fewer is-open (code o) limit (small o i) new))) t T h
      decide (suc k) is-open most t T h =
          verdict is-open
          (λ o i new. decide k (opening (code o) is-open) (omega (arith, closed-fewer is-open (code o) limit (small o i) new)) (σ context o) _ (σ-in nodes sig context context-in o i))
          t T h

-- ---- The occurrences of an accepted sheet, numbered

-- a number for each occurrence, and one above them all
unfoldable code : Occurrence → ℕ
code o = (o.node * attribute_limit + o.attribute) * word_limit + to_word o.parameter

unfoldable occurrence_limit : ℕ
occurrence_limit = node_limit * attribute_limit * word_limit

module _ (s : Sheet) (sheet-in : AcceptedSheet s) where
  abbrev OccurrenceOf : Occurrence → Type 0
  OccurrenceOf o = OccurrenceIn (node_count s) s.attributes o

  parameter-small : (o : Occurrence) → OccurrenceOf o → to_word o.parameter < word_limit
  parameter-small o i =
      word_small (node_count s) (attribute_at s.attributes o.attribute).parameter-type (to_word o.parameter) (omega (arith, sheet-in.nodes_bound))
      i.parameter-in.is-word

  attribute-small : (o : Occurrence) → OccurrenceOf o → o.attribute < attribute_limit
  attribute-small o i = omega (arith, sheet-in.attributes_bound, i.attribute_declared)

  code-small : (o : Occurrence) → OccurrenceOf o → code o < occurrence_limit
  unfolding code occurrence_limit
  code-small o i = omega (arith, sheet-in.nodes_bound, i.node_declared, attribute-small o i, parameter-small o i)

  code_apart : (o p : Occurrence) → OccurrenceOf o → OccurrenceOf p → code o ≡ code p → o ≡ p
  unfolding code
  code_apart o p i j e =
      let o-word = parameter-small o i in
      let p-word = parameter-small p j in
      let o-attribute = attribute-small o i in
      let p-attribute = attribute-small p j in
      let pairs : o.node * attribute_limit + o.attribute ≡ p.node * attribute_limit + p.attribute = omega arith in
      let words : to_word o.parameter ≡ to_word p.parameter = omega arith in
      let nodes : o.node ≡ p.node = omega arith in
      let attributes : o.attribute ≡ p.attribute = omega arith in
      occurrence-settled o i p j nodes attributes words

-- ---- The claim

-- Plain Saiga ends, with a value or without one.
abbrev Ends : Sheet → Expr → Type 0
Ends s e = (ending : PlainEnding) × (n : ℕ) × PlainEnds s e ending n

module _ (sheet : List ℕ) (s : Sheet) (ok : check_sheet sheet ≡ accepted s) (question : List ℕ) (e : Expr) (formed : check_question s question ≡ accepted e) where
  unfoldable none_open : ℕ → Bool
  none_open c = false

  abbrev QuestionVerdict : Type 0
  QuestionVerdict = Verdict (node_count s) s.attributes (context s) (accepted-sheet sheet s ok).context-in code none_open (asked e)

  -- At first no occurrence is open.
  question-verdict : QuestionVerdict
  question-verdict =
      let i = accepted-sheet sheet s ok in
      let (B, h) = question-in sheet s ok question e formed in
      decide (node_count s) s.attributes (context s) i.context-in code (code_apart s i) occurrence_limit (code-small s i) occurrence_limit none_open
      (closed-most occurrence_limit none_open) (asked e) (base B) (asked_in s h)

  ends-or-circles : Ends s e ⊎ CircleIn (context s) (asked e)
  unfolding none_open PlainEnds EndsWithValue EndsWithout
  ends-or-circles = go question-verdict
    where
      go : QuestionVerdict → Ends s e ⊎ CircleIn (context s) (asked e)
      go (with_value n v h) = inl (a_value v, n, h)
      go (without n why t h final) = inl (no_value why, n, (t, h, final))
      go (circles c) = inr c
      go (due-open o i is d) = absurd (false≢true is)

  -- One that runs for ever does not end.
  circle : RunsForEver (context s) (asked e) → CircleIn (context s) (asked e)
  circle for_ever = go ends-or-circles
    where
      go : Ends s e ⊎ CircleIn (context s) (asked e) → CircleIn (context s) (asked e)
      go (inl (ending, n, h)) = absurd (never_both s e 0 ending n h for_ever)
      go (inr c) = c

pub plain-circles : PlainCircles
plain-circles sheet s ok question e formed =
    record {
      circle = circle sheet s ok question e formed;
      for_ever = circle-for-ever (context s) (asked e);
      ends_or_circle = ends-or-circles sheet s ok question e formed;
      inside = as-alone (context s);
    }
