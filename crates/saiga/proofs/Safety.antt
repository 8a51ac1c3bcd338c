-- Type safety holds: preservation, and the forms of the values of each type.
use mathlib.Core.Bool.{Bool, true, false, false≢true}
use mathlib.Core.List.{List}
use Rattle.std.specs.Prelude.{Option, None as none, Some as some}
use mathlib.Core.Path.{◌≡◌, refl, sym}
use Prim.Native.Nat.{ℕ, ◌<◌}
use lib.Dec.{eqb}
use lib.ListN.{get_or}
use borrow.Author.Tests.{eqb-true}
use Rattle.saiga.specs.Values.{Base, unit_t, bool_t, int_t, node_t, Ty, base, ◌⇒◌, Value, unit, bool, int, node, function, holding, type_of, null, node_of, of_word}
use Rattle.saiga.specs.Expressions.{Expr, Scope}
use Rattle.saiga.specs.Types.{Attribute, attribute_at, Typed}
use Rattle.saiga.specs.Types as Types
use Rattle.saiga.specs.Sheet.{Sheet, node_count, attribute_count, figure_for, rule_for, forward_for, forwarded, ruled, figured, definition, is_defined, context, accepted, check_sheet, question_scope}
use Rattle.saiga.specs.Terms.{Term, val, cond, app, attr, form}
use Rattle.saiga.specs.Sound.{IsA, ValueIn, ExprIn, literal∈, if∈, application∈, attribute∈, this∈, parameter∈, TermIn, val∈, cond∈, app∈, attr∈, form∈}
use Rattle.saiga.specs.Store.{capacity}
use Rattle.saiga.specs.Ask.{asked}
use Rattle.saiga.specs.Safety.{Canonical, Takes, takes_first, takes_second, InForce, RuleDue, cond_left, cond_bool, app_left, app_right, app-app, attr_left, attr_right, attr_null, attr-app, cache_left, cache-write, Progress, at_value, at_rule, TypeSafety}
use Rattle.saiga.proofs.FourBytes.{in-type}
use Rattle.saiga.proofs.Inference.{infer-complete}
use Rattle.saiga.proofs.Accepted.{accepted-sheet, rule-reads, forward-reads, pair-defined}
use Rattle.saiga.proofs.Preservation.{no-function, put_in, due-occurrence, kept-in, plain-at-in, reaches-in}
use Rattle.saiga.proofs.Entries.{store_in}
use Rattle.saiga.proofs.Calls.{question-in}

pub canonical : {nodes : ℕ} (B : Base) {v : Value} → IsA nodes B v → Canonical B v
unfolding of_word
canonical unit_t h = sym h.round_trip
canonical bool_t h = (_, sym h.round_trip)
canonical int_t h = (_, sym h.round_trip)
canonical node_t h = (_, sym h.round_trip)

takes : (B : Base) (T : Ty) (f : Value) → type_of f ≡ (B ⇒ T) → Takes B f
unfolding type_of
takes B T unit e = no-function e
takes B T (bool b) e = no-function e
takes B T (int z) e = no-function e
takes B T (node n) e = no-function e
takes B T (function f) e = takes_first e
takes B T (holding h) e = takes_second e

-- ---- Progress

module _ (sheet : List ℕ) (s : Sheet) (ok : check_sheet sheet ≡ accepted s) where
  abbrev nodes : ℕ
  nodes = node_count s

  abbrev sig : List Attribute
  sig = s.attributes

  in-force : (n a : ℕ) → n < node_count s → a < attribute_count s → InForce s (definition s n a)
  unfolding definition figured ruled forwarded is_defined
  in-force n a hn ha =
      go (figure_for s.figures n a) (rule_for s.rules kind a) (forward_for s.forwards kind) refl refl (pair-defined sheet s ok n a hn ha)
    where
      kind : ℕ
      kind = get_or s.kinds n 0

      go : (f : Option Value) (r w : Option (List ℕ)) → rule_for s.rules kind a ≡ r → forward_for s.forwards kind ≡ w
          → is_defined (figured f (ruled r (forwarded w))) ≡ true → InForce s (figured f (ruled r (forwarded w)))
      go (some v) r w e h d = tt
      go none (some p) w e h d = rule-reads sheet s ok kind a p e
      go none none (some p) e h d = forward-reads sheet s ok kind p h
      go none none none e h d = absurd (false≢true d)

  module _ {F : Type 0} where
    if-due : {c t e : Term F} → Progress s (base bool_t) c → RuleDue s (cond c t e)
    if-due (at_value h) = rw (canonical bool_t h).1 cond_bool
    if-due (at_rule r) = cond_left r

    application-due : {B : Base} {T : Ty} {f x : Term F} → Progress s (B ⇒ T) f → Progress s (base B) x → RuleDue s (app f x)
    application-due (at_rule r) p = app_left r
    application-due (at_value h) (at_rule r) = app_right r
    application-due {B} {T} (at_value {v} h) (at_value k) = app-app (takes B T v h) (canonical B k)

    attribute-due : {n x : Term F} {a : ℕ} → a < attribute_count s → Progress s (base node_t) n → Progress s (base (attribute_at sig a).parameter-type) x
        → RuleDue s (attr n a x)
    unfolding node_of
    attribute-due ha (at_rule r) p = attr_left r
    attribute-due ha (at_value h) (at_rule r) = attr_right r
    attribute-due {a} ha (at_value {v = n} h) (at_value {v = x} k) =
        let (m, is) = canonical node_t h in
        rw is (on m (rw is at h) (eqb m null) refl)
      where
        on : (m : ℕ) → IsA nodes node_t (node m) → (b : Bool) → eqb m null ≡ b → RuleDue s {F = F} (attr (val (node m)) a (val x))
        on m hm true e = rw (eqb-true m null e) attr_null
        on m hm false e =
            let o = due-occurrence nodes sig (node m) a x ha hm k e in
            attr-app o (in-force m a o.node_declared ha)

    form-due : {o : F} {e : Term F} {T : Ty} → Progress s T e → RuleDue s (form o e)
    form-due (at_value h) = cache-write
    form-due (at_rule r) = cache_left r

    progress : {FormIn : F → Base → Type 0} (t : Term F) (T : Ty) → TermIn FormIn nodes sig t T → Progress s T t
    progress _ T (val∈ h) = at_value h
    progress _ T (cond∈ c t e) = at_rule (if-due (progress _ _ c))
    progress _ T (app∈ f x) = at_rule (application-due (progress _ _ f) (progress _ _ x))
    progress _ T (attr∈ a n x) = at_rule (attribute-due a (progress _ _ n) (progress _ _ x))
    progress _ T (form∈ o e) = at_rule (form-due (progress _ _ e))

-- ---- The claim

value-type : (nodes : ℕ) (T : Ty) (v : Value) → ValueIn nodes T v → type_of v ≡ T
value-type nodes (base B) v h = in-type h
value-type nodes (B ⇒ T) v h = h

-- An expression whose literals are values on the sheet has its type by the rules of the figures.
typed : {sc : Scope} {sig : List Attribute} {p : Base} {e : Expr} {T : Ty} → ExprIn sc sig p e T → Typed sig p e T
typed {sc} (literal∈ {v} {T} h) = rw (← value-type sc.nodes T v h) Types.literal∈
typed (if∈ c t e) = Types.if∈ (typed c) (typed t) (typed e)
typed (application∈ f x) = Types.application∈ (typed f) (typed x)
typed (attribute∈ a n x) = Types.attribute∈ a (typed n) (typed x)
typed (this∈ h) = Types.this∈
typed (parameter∈ h) = Types.parameter∈

-- A question as it runs has its type, whatever is put for the 0x30 and 0x31 that it has not.
pub asked_in : {F : Type 0} {FormIn : F → Base → Type 0} (s : Sheet) {e : Expr} {T : Ty} → ExprIn (question_scope s) s.attributes unit_t e T
    → TermIn FormIn (node_count s) s.attributes (asked e) T
unfolding asked question_scope
asked_in s h = put_in 0 unit (λ no-this. absurd (false≢true no-this)) (λ no-parameter. absurd (false≢true no-parameter)) h

pub type-safety : TypeSafety
type-safety sheet s ok q e formed =
    let (B, h) = question-in sheet s ok q e formed in
    let c = (accepted-sheet sheet s ok).context-in in (
      B,
      infer-complete (typed h),
      record {
        plain = λ n t comes.
            let d = plain-at-in (node_count s) s.attributes (context s) c n (asked e) t (base B) comes (asked_in s h) in
            (d, progress sheet s ok t (base B) d);
        caching = λ store k entries passes budget st reaches.
            let d = reaches-in (node_count s) s.attributes (context s) c (capacity store) budget (base B) reaches
            record { entries-in = (store_in s store k entries passes).entries-in; term_in = asked_in s h } in
            record {
              typed = d.term_in;
              progress = progress sheet s ok st.term (base B) d.term_in;
              kept_typed = λ o v is-kept. kept-in o d.entries-in is-kept;
            };
      },
    )
