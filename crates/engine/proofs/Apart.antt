-- Every move keeps the open forms apart: a form opens where its occurrence is neither open nor kept, and what is kept then is of an occurrence that is
-- not open.
use mathlib.Core.Bool.{Bool, true, false, ◌||◌, false≢true}
use Rattle.std.specs.Prelude.{Option, None as none, Some as some}
use mathlib.Core.List.{List, [], ◌∷◌}
use mathlib.Core.Path.{◌≡◌, refl, sym, ◌∙◌}
use Prim.Native.Nat.{ℕ}
use borrow.Author.Rules.{rules}
use lib.Dec.{ltb, eqb}
use Rattle.std.proofs.lemmas.Bool.{or_parts}
use Rattle.saiga.specs.declared.Value.{Value}
use Rattle.saiga.specs.Values.{null, truth, node_of, apply}
use Rattle.saiga.specs.Expressions.{Head, base_literal, function_literal, if_head, application_head, attribute_head, this_head, parameter_head, no_head, head_of}
use Rattle.saiga.specs.Sheet.{Sheet, Definition, undefined, figure, piece_of, forward_of, definition}
use Rattle.saiga.specs.Terms.{Occurrence}
use Rattle.saiga.specs.Caching.{Entry, same_occurrence, kept, is_kept, write, Counted, is_open, circular, too_deep}
use Rattle.saiga.proofs.Equality.{same-occurrence}
use Rattle.saiga.proofs.Keeping.{write-other}
use Rattle.engine.specs.Machine.{Next, by_move, by_step, Frame, on_if, on_left, on_skip, on_right, on_node, on_parameter, on_forward, on_form, Mode, evaluating, returning, Machine, open_forms, read_head, within, branch, application_due, defined, applied, attribute_due, give, read_next, move_of, move}
use Rattle.engine.specs.Good.{Apart}
use Rattle.engine.proofs.Bounds.{Onward, cond-onward}

-- ---- What is kept while forms are open

-- the test of two occurrences, the other way round
other_way : (p o : Occurrence) → same_occurrence p o ≡ false → same_occurrence o p ≡ false
other_way p o other = go (same_occurrence o p) refl
  where
    go : (b : Bool) → same_occurrence o p ≡ b → b ≡ false
    go false e = refl
    go true e = let same = same-occurrence o p e in absurd (false≢true (sym other ∙ rw same (rw same at e)))

-- CacheWrite of an occurrence that is not open leaves the open forms apart.
apart-write : (sheet : Sheet) (C : ℕ) (s : List Entry) (os : List Occurrence) (o : Occurrence) (v : Value) → is_open os o ≡ false → Apart sheet s os
    → Apart sheet (write C s record { occurrence = o; value = v }) os
unfolding is_open
apart-write sheet C s [] o v closed a = tt
apart-write sheet C s (p ∷ os) o v closed (absent, different, unfigured, rest) =
    let (other, below) = or_parts (same_occurrence p o) (is_open os o) closed in (
      write-other C s record { occurrence = o; value = v } p (other_way p o other) ∙ absent,
      different,
      unfigured,
      apart-write sheet C s os o v below rest,
    )

-- An occurrence that has a figure is not open.
pub figure_closed : (sheet : Sheet) (s : List Entry) (os : List Occurrence) (o : Occurrence) (v : Value) → definition sheet o.node o.attribute ≡ figure v
    → Apart sheet s os → is_open os o ≡ false
unfolding is_open
figure_closed sheet s [] o v figured a = refl
figure_closed sheet s (p ∷ os) o v figured (absent, different, unfigured, rest) = go (same_occurrence p o) refl (figure_closed sheet s os o v figured rest)
  where
    go : (b : Bool) → same_occurrence p o ≡ b → is_open os o ≡ false → (b || is_open os o) ≡ false
    go true e below = absurd (unfigured v (rw (same-occurrence p o e) figured))
    go false e below = below

-- An occurrence that is not kept and no circle is not open.
closed-here : (s : List Entry) (os : List Occurrence) (o : Occurrence) → kept s o ≡ none → circular s os o ≡ false → is_open os o ≡ false
unfolding circular is_kept
closed-here s os o absent no-circle = rw absent at no-circle

-- ---- One move

module _ (s : Sheet) (capacity budget : ℕ) (m : Machine) where
  -- the machine after a move has its open forms apart
  abbrev Stays : Machine → Type 0
  Stays m' = Apart s m'.entries (open_forms m'.frames)

  read-apart : Stays m → (h : Head) (l : List ℕ) → Stays (read_head s capacity budget m h l)
  unfolding read_head open_forms
  read-apart a (base_literal t) l = a
  read-apart a function_literal l = a
  read-apart a if_head l = a
  read-apart a application_head l = a
  read-apart a attribute_head l = a
  read-apart a this_head l = a
  read-apart a parameter_head l = a
  read-apart a no_head l = a

  next-apart : Stays m → (l : List ℕ) → Stays (read_next s capacity budget m l)
  unfolding read_next
  next-apart a [] = a
  next-apart a (c ∷ l) = read-apart a (head_of c) l

  within-apart : (r : Counted) (next : Machine) → Stays next → Onward Stays (within s capacity budget m r next)
  unfolding within
  within-apart r next a = cond-onward Stays (ltb m.steps budget) _ _ (λ _. a) (λ _. tt)

  module _ (fs : List Frame) (a : Apart s m.entries (open_forms fs)) where
    branch-apart : (b : Bool) → Onward Stays (branch s capacity budget m b fs)
    unfolding branch open_forms
    branch-apart true = within-apart _ _ a
    branch-apart false = within-apart _ _ a

    application-apart : (r : Option Value) → Onward Stays (application_due s capacity budget m fs r)
    unfolding application_due
    application-apart (some v) = within-apart _ _ a
    application-apart none = tt

    defined-apart : (o : Occurrence) → kept m.entries o ≡ none → is_open (open_forms fs) o ≡ false → (d : Definition)
        → definition s o.node o.attribute ≡ d → Stays (defined s capacity budget m o fs d)
    unfolding defined open_forms is_open
    defined-apart o absent closed undefined e = apart-write s capacity m.entries (open_forms fs) o _ closed a
    defined-apart o absent closed (figure v) e = apart-write s capacity m.entries (open_forms fs) o v closed a
    defined-apart o absent closed (piece_of p) e = (absent, search rules, (λ v h. cc), a)
    defined-apart o absent closed (forward_of p) e = (absent, search rules, (λ v h. cc), a)

    applied-apart : (o : Occurrence) → circular m.entries (open_forms fs) o ≡ false → (k : Option Value) → kept m.entries o ≡ k
        → Stays (applied s capacity budget m o fs k)
    unfolding applied
    applied-apart o no-circle none e = defined-apart o e (closed-here m.entries (open_forms fs) o e no-circle) (definition s o.node o.attribute) refl
    applied-apart o no-circle (some v) e = a

    attribute-apart : (o : Occurrence) → Onward Stays (attribute_due s capacity budget m o fs)
    unfolding attribute_due
    attribute-apart o =
        cond-onward Stays (eqb o.node null) _ _ (λ _. tt) λ _.
        cond-onward Stays (circular m.entries (open_forms fs) o) _ _ (λ _. tt) λ no-circle.
        cond-onward Stays (ltb m.steps budget) _ _
        (λ _. cond-onward Stays (too_deep m.entries (open_forms fs) o) _ _ (λ _. tt) (λ _. applied-apart o no-circle (kept m.entries o) refl))
        (λ _. tt)

  give-apart : (v : Value) (fs : List Frame) → Apart s m.entries (open_forms fs) → Onward Stays (give s capacity budget m v fs)
  unfolding give open_forms
  give-apart v [] a = tt
  give-apart v (on_if ∷ fs) a = branch-apart fs a (truth v)
  give-apart v (on_left ∷ fs) a = a
  give-apart v (on_skip ∷ fs) a = a
  give-apart v (on_right f ∷ fs) a = application-apart fs a (apply f v)
  give-apart v (on_node n ∷ fs) a = a
  give-apart v (on_parameter n i ∷ fs) a = attribute-apart fs a record { node = node_of n; attribute = i; parameter = v }
  give-apart v (on_forward n ∷ fs) a = a
  give-apart v (on_form o outer ∷ fs) a = apart-write s capacity m.entries (open_forms fs) o v a.1 a.3

  move-apart : Stays m → (mode : Mode) → Onward Stays (move_of s capacity budget m mode)
  unfolding move_of
  move-apart a evaluating = next-apart a m.rest
  move-apart a (returning v) = give-apart v m.frames a

pub apart-on : {s : Sheet} {capacity budget : ℕ} {m m' : Machine} → Apart s m.entries (open_forms m.frames) → Next s capacity budget m m'
    → Apart s m'.entries (open_forms m'.frames)
unfolding move
apart-on {s} {capacity} {budget} {m} a (by_move e) = rw e at (move-apart s capacity budget m a m.mode)
apart-on {s} {capacity} {budget} {m} a (by_step r e) = rw e at (move-apart s capacity budget m a m.mode)
