-- Notes: what a reader leaves is noted, and what is noted behind an expression that is read or passed over.
use Rattle.std.specs.Prelude.{Option, None, Some as some}
use mathlib.Core.List.{List, [], ◌∷◌}
use mathlib.Core.Path.{◌≡◌, refl, sym, ap, ◌∙◌}
use Prim.Native.Nat.{ℕ, zero, suc, ◌+◌, ◌-◌, ◌≤◌, ◌<◌}
use native.Mathlib.Nat.{add-zero, sub-zero}
use native.Mathlib.Omega.{arith}
use lib.ListN.{length, drop, get_or, set, length-drop}
use lib.Seq.{drop-drop, get_or-drop, get_or-set_same, get_or-set_other}
use borrow.Author.Rules.{part_to_end}
use Rattle.saiga.specs.declared.Base.{Base}
use Rattle.saiga.specs.Values.{Ty}
use Rattle.saiga.specs.Expressions.{Expr, Scope, head_of, reads, read_expr}
use Rattle.saiga.specs.Types.{Attribute}
use Rattle.expressions.specs.declared.types.«Type».{«Type»}
use Rattle.expressions.specs.declared.Form.{Form}
use Rattle.expressions.specs.Types.{typed}
use Rattle.expressions.specs.Forms.{form_after, shown_form}
use Rattle.expressions.specs.Widths.{head_width, following}
use Rattle.expressions.specs.Noted.{WidthOf, front_width, Noted, all_noted, front_noted, Before, Notes, NotesInside, NotesBehind}
use Rattle.expressions.proofs.Passing.{Passes, none, more, passes-within, Opened, open-head, width_small}
use Rattle.expressions.proofs.Composites.{FormAt, form-reads, form-taken, from, read-after}
use Rattle.expressions.proofs.Widths.{width_of}

-- ---- Notes

front-positive : (l : List ℕ) → 0 < front_width l
front-positive l = (width_small (head_of (get_or l 0 0))).0

-- notes that agree as far as they are looked at
pub noted-same : {l notes notes' : List ℕ} {w : ℕ} → Noted l notes w → ((i : ℕ) → i < w → get_or notes' i 0 ≡ get_or notes i 0) → Noted l notes' w
noted-same all_noted agree = all_noted
noted-same {l} {notes} {notes'} (front_noted {w = w} width rest) agree =
    let first : get_or notes' 0 0 ≡ get_or notes 0 0 = agree 0 (omega (arith, front-positive l)) in
    front_noted {l = l} {notes = notes'} (rw first width)
    (noted-same rest (λ i h. get_or-drop (front_width l) notes' i 0 ∙ agree (front_width l + i) (omega arith) ∙ sym (get_or-drop (front_width l) notes i 0)))

-- one row of expressions after the other
noted-then : {l notes : List ℕ} {w v : ℕ} → Noted l notes w → Noted (drop w l) (drop w notes) v → Noted l notes (w + v)
noted-then {v = v} all_noted rest = let e : 0 + v ≡ v = omega arith in rw e rest
noted-then {l} {notes} {v = v} (front_noted {w = w} width rest) behind =
    let e : front_width l + w + v ≡ front_width l + (w + v) = omega arith in
    rw e (front_noted width (noted-then {v = v} rest (rw (drop-drop w (front_width l) l, drop-drop w (front_width l) notes) behind)))

-- ---- What follows in a row

-- the first expression's width is noted, and what stands behind its head
pub noted-front : {l notes : List ℕ} {w : ℕ} → Noted l notes w → 0 < w
    → WidthOf l (1 + get_or notes 0 0) × Noted (drop (front_width l) l) (drop (front_width l) notes) (w - front_width l)
noted-front all_noted q = absurd (omega arith)
noted-front {l} (front_noted {w = w} width rest) q =
    let e : front_width l + w - front_width l ≡ w = omega arith in
    (width, rw e rest)

-- no expression is passed over, or the first ones
none_passed : {sc : Scope} {n : ℕ} {l notes : List ℕ} {v w : ℕ} → n ≡ 0 → Passes sc n l v → Noted l notes w → Noted (drop v l) (drop v notes) (w - v)
none_passed {w = w} z none row = rw sub-zero row
none_passed z (more r p) row = absurd (omega arith)

front-passed : (l notes : List ℕ) (w : ℕ) → Noted l notes (front_width l + w) → length l ≤ front_width l + w
    → ((sc : Scope) (n v : ℕ) → Passes sc n (drop (front_width l) l) v → length (drop (front_width l) l) ≤ w
    → Noted (drop v (drop (front_width l) l)) (drop v (drop (front_width l) notes)) (w - v))
    → {sc : Scope} (n : ℕ) {v : ℕ} → Passes sc n l v → Noted (drop v l) (drop v notes) (front_width l + w - v)
front-passed l notes w row fits on zero p = none_passed refl p row
front-passed [] notes w row fits on (suc n) p = absurd (let h = passes-within p in omega arith)
front-passed (c ∷ l) notes w row fits on (suc n) {v} p =
    let o = open-head p in
    let f = head_width (head_of c) in
    let rest = on _ (n + following (head_of c)) _ o.passes (omega (arith, length-drop f (c ∷ l))) in
    let left : f + w - (f + o.rest) ≡ w - o.rest = omega arith in
    rw (← o.total, left, ← drop-drop o.rest f (c ∷ l), ← drop-drop o.rest f notes) rest

noted-passed : {l notes : List ℕ} {w : ℕ} → Noted l notes w → {sc : Scope} (n : ℕ) {v : ℕ} → Passes sc n l v → length l ≤ w
    → Noted (drop v l) (drop v notes) (w - v)
noted-passed all_noted n {v} p fits = let nothing : 0 - v ≡ 0 = omega arith in rw nothing all_noted
noted-passed (front_noted {l = l} {notes = notes} {w = w} width rest) n p fits =
    front-passed l notes w (front_noted width rest) fits (λ sc n v p fits. noted-passed rest n p fits) n p

-- the first expression of a row is passed over
pub noted-over : (sc : Scope) {l notes : List ℕ} {w v : ℕ} {e : Expr} → Noted l notes w → length l ≤ w → read_expr sc (length l) l ≡ reads e v
    → Noted (drop v l) (drop v notes) (w - v)
noted-over sc {v = v} row fits r = let e : v + 0 ≡ v = omega arith in rw e at (noted-passed row {sc = sc} 1 (more r none) fits)

-- ---- What the reader leaves

module _ (s : Scope) (sig : List Attribute) (p : Base) where
  -- the width of what was read, in every scope
  form-widths : (l : List ℕ) {w : ℕ} {t : Option Ty} → FormAt s sig p l (some (w, t)) → WidthOf l w
  form-widths l {w} f =
      let (e, q, n) = form-reads s sig p (read_expr s (length l) l) (f (length l) (omega arith)) in
      let (width, all) = width_of l in
      rw (all s e w q) at all

  -- its head, with what follows
  form-opened : (l : List ℕ) {w : ℕ} {t : Option Ty} → FormAt s sig p l (some (w, t)) → Opened s (head_of (get_or l 0 0)) 0 l (w + 0)
  form-opened [] f = absurd (let b = form-taken s sig p [] f in omega arith)
  form-opened (c ∷ l) {w} f =
      let (e, q, n) = form-reads s sig p (read_expr s (length (c ∷ l)) (c ∷ l)) (f (length (c ∷ l)) (omega arith)) in
      open-head (more q none)

  -- A head with its operand alone: nothing stands behind it.
  nothing-behind : {n : ℕ} {l : List ℕ} {v : ℕ} → Passes s n l v → n ≡ 0 → v ≡ 0
  nothing-behind none z = refl
  nothing-behind (more r q) z = absurd (omega arith)

  operand-notes : (l : List ℕ) (at : ℕ) (notes : List ℕ) (r : Option Form) → FormAt s sig p l (shown_form r) → following (head_of (get_or l 0 0)) ≡ 0
      → NotesBehind l at notes notes r
  operand-notes l at notes None f z = record { before = λ i h. refl; noted = tt }
  operand-notes l at notes (some r) f z =
      let o = form-opened l f in
      let rest : o.rest ≡ 0 = nothing-behind o.passes (omega arith) in
      let all : r.width - front_width l ≡ 0 = omega (arith, o.total) in
      record { before = λ i h. refl; noted = rw all all_noted }

  -- The expression's own width is noted, where those inside it are.
  pub own-notes : (l : List ℕ) (at : ℕ) (notes notes' : List ℕ) (r : Form) → FormAt s sig p l (some (r.width, typed r.ty)) → NotesBehind l at notes notes' (some r)
      → at < length notes' → Notes l at notes (set notes' at (r.width - 1)) (some r)
  own-notes l at notes notes' r form behind room =
      let w = r.width in
      let own = set notes' at (w - 1) in
      let h = front_width l in
      let o = form-opened l form in
      let all : h + (w - h) ≡ w = omega (arith, o.total) in
      let first : get_or (drop at own) 0 0 ≡ w - 1 = get_or-drop at own 0 0 ∙ rw add-zero (get_or-set_same notes' at (w - 1) 0 room) in
      let wide : 1 + (w - 1) ≡ w = omega (arith, front-positive l, o.total) in
      let rest : Noted (drop h l) (drop h (drop at own)) (w - h) =
      noted-same behind.noted λ i k. rw (get_or-drop h (drop at own) i 0, get_or-drop at own (h + i) 0, get_or-drop (at + h) notes' i 0)
      (get_or-set_other notes' at (at + (h + i)) (w - 1) 0 (omega (arith, front-positive l)) ∙ ap (λ j. get_or notes' j 0) (omega arith)) in
      record {
        before = λ i k. get_or-set_other notes' at i (w - 1) 0 (omega arith) ∙ behind.before i (omega arith);
        noted = rw all at (front_noted {l = l} {notes = drop at own} (rw (first, wide) (form-widths l form)) rest);
      }

-- ---- One expression after the other

-- two rows that are read one after the other
both-noted : (l : List ℕ) (at m n : ℕ) (notes notes₁ notes₂ : List ℕ) → Before at notes notes₁ → Noted l (drop at notes₁) m
    → Before (at + m) notes₁ notes₂ → Noted (drop m l) (drop (at + m) notes₂) n
    → Before at notes notes₂ × Noted l (drop at notes₂) (m + n)
both-noted l at m n notes notes₁ notes₂ a first b second = (
  λ i h. b i (omega arith) ∙ a i h,
  noted-then
      (noted-same first λ i h. get_or-drop at notes₂ i 0 ∙ b (at + i) (omega arith) ∙ sym (get_or-drop at notes₁ i 0))
      (rw (drop-drop m at notes₂) second),
)

module _ (l : List ℕ) (at : ℕ) {notes notes₁ notes₂ : List ℕ} {q r : Form}
    (first : Notes l at notes notes₁ (some q)) (second : Notes (from l q.width) (at + q.width) notes₁ notes₂ (some r)) where
  both : Before at notes notes₂ × Noted l (drop at notes₂) (q.width + r.width)
  both = both-noted l at q.width r.width notes notes₁ notes₂ first.before first.noted second.before (rw (part_to_end l q.width) at second.noted)

  pub two-noted : {t : Option «Type»} → NotesInside 1 l at notes notes₂ (some (record { width = 1 + q.width + r.width; ty = t }))
  two-noted =
      let w : 1 + q.width + r.width - 1 ≡ q.width + r.width = omega arith in
      record { before = both.0; noted = rw w both.1 }

  pub three-noted : {notes₃ : List ℕ} {o : Form} {t : Option «Type»} → Notes (from l (q.width + r.width)) (at + (q.width + r.width)) notes₂ notes₃ (some o)
      → NotesInside 1 l at notes notes₃ (some (record { width = 1 + (q.width + r.width) + o.width; ty = t }))
  three-noted {notes₃} {o} third =
      let both_width = q.width + r.width in
      let (before, row) = both-noted l at both_width o.width notes notes₂ notes₃ both.0 both.1 third.before (rw (part_to_end l both_width) at third.noted) in
      let all : 1 + (q.width + r.width) + o.width - 1 ≡ q.width + r.width + o.width = omega arith in
      record { before = before; noted = rw all row }

-- An attribute's number stands before its node and its parameter.
pub node-noted : (l : List ℕ) (at : ℕ) {notes notes₁ notes₂ : List ℕ} {q r : Form} {t : Option «Type»} → Notes l at notes notes₁ (some q)
    → Notes (from l q.width) (at + q.width) notes₁ notes₂ (some r) → NotesInside 2 l at notes notes₂ (some (record { width = 2 + q.width + r.width; ty = t }))
node-noted l at {q} {r} first second =
    let w : 2 + q.width + r.width - 2 ≡ q.width + r.width = omega arith in
    let row = both l at first second in
    record { before = row.0; noted = rw w row.1 }

-- ---- The arms of the match on a head

abbrev pub Arm : Scope → List Attribute → Base → List ℕ → ℕ → List ℕ → List ℕ → Option Form → Type 0
Arm s sig p e at notes notes' r = record { formed : FormAt s sig p e (shown_form r); notes_behind : NotesBehind e at notes notes' r }

-- The bytes e are b and then l, and b is the byte of the head.
module _ (s : Scope) (sig : List Attribute) (p : Base) {e l : List ℕ} {b : ℕ} (at : ℕ) (notes : List ℕ) (r : Option Form) (split : e ≡ b ∷ l) (head : ℕ) (is : b ≡ head)
    (f : (k : ℕ) → length l ≤ k → shown_form r ≡ form_after s sig p k (head_of head) l) where
  formed : FormAt s sig p (head ∷ l) (shown_form r)
  formed = read-after s sig p head l f

  -- a head with its operand alone
  pub operand-arm : following (head_of head) ≡ 0 → Arm s sig p e at notes notes r
  operand-arm z = rw (split, is) (record { formed = formed; notes_behind = operand-notes s sig p (head ∷ l) at notes r formed z })

  -- one that expressions follow at once, and an attribute's, whose number stands between
  pub inner-arm : {notes' : List ℕ} → head_width (head_of head) ≡ 1 → NotesInside 1 l (at + 1) notes notes' r → Arm s sig p e at notes notes' r
  inner-arm w inside = rw (split, is) (record { formed = formed; notes_behind = rw w inside })

  pub attribute-arm : {notes' : List ℕ} → head_width (head_of head) ≡ 2 → NotesInside 2 (drop 1 l) (at + 1 + 1) notes notes' r → Arm s sig p e at notes notes' r
  attribute-arm w inside =
      let place : at + 1 + 1 ≡ at + 2 = omega arith in
      rw (split, is) (record { formed = formed; notes_behind = rw (w, ← place) inside })
