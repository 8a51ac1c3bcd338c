-- What the checks of a call answer, from what the check of each part ensures.
use mathlib.Core.Bool.{Bool, true, false, cond}
use mathlib.Core.List.{List}
use mathlib.Core.Path.{◌≡◌, refl, sym, ap, ◌∙◌}
use Prim.Native.Nat.{ℕ, ◌*◌, ◌≤◌, ◌<◌}
use native.Mathlib.Omega.{arith}
use borrow.Author.Tests.{le-leb, lt-leb}
use lib.Dec.{leb}
use lib.ListN.{length, get_or}
use Rattle.std.specs.Prelude.{Result, Ok, Err}
use Rattle.saiga.specs.Limits.{sheet_limit, budget_limit}
use Rattle.saiga.specs.declared.Base.{Base}
use Rattle.saiga.specs.declared.stops.Stop.TheVariants.{BudgetTooHigh}
use Rattle.saiga.specs.declared.stops.Refusal.{Refusal}
use Rattle.saiga.specs.Expressions.{Expr}
use Rattle.saiga.specs.Sheet.{Sheet, node_count, attribute_count, Checked, refused◌at_place◌, accepted, check_sheet}
use Rattle.saiga.specs.Caching.{Entry}
use Rattle.saiga.specs.Store.{check_store}
use Rattle.saiga.specs.Stops.{stop_number, checked_of, says}
use Rattle.saiga.specs.Ask.{Lent, Call, ◌then_check◌, check_budget, check_question, AcceptedCall, check_call}
use Rattle.values.specs.Layout.{attributes_in}
use Rattle.expressions.specs.Forms.{question_of}
use Rattle.sheets.specs.declared.Counts.{Counts}
use Rattle.sheets.specs.Scan.{attributes_place, nodes_place, counts_of, check_of, Checks}
use Rattle.sheets.specs.Notes.{ChecksNotes}
use Rattle.stores.specs.Keys.{links_size, Linked, store_check_of, StoreChecked}
use Rattle.calls.specs.Prepared.{PreparedSheet, NotedSheet, PreparedStore}
use Rattle.calls.specs.Verdict.{verdict_of, SheetOf, from_budget, Indexes, CallChecked}

-- ---- What the code's answer says of a check

-- A check that says less refuses and accepts where the check does.
module _ {A B : Type 0} (f : A → B) where
  says-refused : (C : Checked A) {number place : ℕ} → says f C ≡ refused number at_place place → C ≡ refused number at_place place
  says-refused (refused n at_place p) e = cc
  says-refused (accepted x) e = cc

  says-accepted : (C : Checked A) {y : B} → says f C ≡ accepted y → (x : A) × ((C ≡ accepted x) × (f x ≡ y))
  says-accepted (refused n at_place p) e = cc
  says-accepted (accepted x) e = (x, (refl, cc))

  module _ {C : Checked A} {r : Result B Refusal} (is : checked_of r ≡ says f C) where
    pub check-refused : {q : Refusal} → r ≡ Err q → C ≡ refused stop_number q.stop at_place q.place
    check-refused e = says-refused C (sym is ∙ ap checked_of e)

    pub check-accepted : {y : B} → r ≡ Ok y → (x : A) × ((C ≡ accepted x) × (f x ≡ y))
    check-accepted e = says-accepted C (sym is ∙ ap checked_of e)

    -- and so does what the code says of it
    pub check-passes : {x : A} → C ≡ accepted x → r ≡ Ok (f x)
    check-passes e = go r (is ∙ ap (says f) e)
      where
        go : {y : B} (r : Result B Refusal) → checked_of r ≡ accepted y → r ≡ Ok y
        go (Ok z) h = cc
        go (Err q) h = cc

-- ---- The budget and the question

pub budget-refused : (s : Sheet) (c : Call) → budget_limit < c.budget
    → refused stop_number BudgetTooHigh at_place 0 ≡ question_of s.attributes (from_budget s c)
unfolding check_budget ◌then_check◌
budget-refused s c h = rw (lt-leb c.budget budget_limit h)

pub budget-permits : (s : Sheet) (c : Call) → c.budget ≤ budget_limit → from_budget s c ≡ check_question s c.question
unfolding check_budget ◌then_check◌
budget-permits s c h = rw (le-leb c.budget budget_limit h)

-- A budget that is refused has place 0.
pub budget-place : (budget : ℕ) {number place : ℕ} → check_budget budget ≡ refused number at_place place → place ≡ 0
unfolding check_budget
budget-place budget {number} {place} = go (leb budget budget_limit)
  where
    go : (b : Bool) → ◌≡◌ {A = Checked (Unit {0})} (cond b (accepted tt) (refused 11 at_place 0)) (refused number at_place place) → place ≡ 0
    go true e = cc
    go false e = cc

-- what the check of a question answers, for every sheet that declares so much
abbrev pub QuestionChecked : List ℕ → ℕ → ℕ → Call → Result Base Refusal → Type 0
QuestionChecked types attributes nodes c r =
    (s : Sheet) → SheetOf types attributes nodes s → checked_of r ≡ question_of s.attributes (from_budget s c)

module _ {types : List ℕ} {attributes nodes : ℕ} (c : Call) {r : Result Base Refusal} (checked : QuestionChecked types attributes nodes c r)
    (s : Sheet) (of : SheetOf types attributes nodes s) where
  pub asked-refused : {q : Refusal} → r ≡ Err q → from_budget s c ≡ refused stop_number q.stop at_place q.place
  asked-refused is = check-refused _ (checked s of) is

  pub asked-accepted : {b : Base} → r ≡ Ok b → (e : Expr) × (from_budget s c ≡ accepted e)
  asked-accepted is = let (e, (accepts, _)) = check-accepted _ (checked s of) is in (e, accepts)

-- ---- The chain, from its last links

-- stops 9 to 13
abbrev pub from_store : Sheet → Lent → Call → Checked AcceptedCall
from_store s m c =
    check_store s m.store m.kept then_check λ entries.
    check_budget c.budget then_check λ _.
    check_question s c.question then_check λ e.
    accepted record { sheet = s; entries = entries; question = e }

-- an accepted call, once its question is known
abbrev pub with_question : Sheet → List Entry → Checked Expr → Checked AcceptedCall
with_question s entries C = C then_check λ e. accepted record { sheet = s; entries = entries; question = e }

then-assoc : {A B D : Type 0} (C : Checked A) (f : A → Checked B) (g : B → Checked D) → (C then_check λ x. f x then_check g) ≡ ((C then_check f) then_check g)
unfolding ◌then_check◌
then-assoc (refused number at_place place) f g = refl
then-assoc (accepted x) f g = refl

pub from-store : (s : Sheet) (m : Lent) (c : Call) {entries : List Entry} → check_store s m.store m.kept ≡ accepted entries
    → from_store s m c ≡ with_question s entries (from_budget s c)
unfolding ◌then_check◌
from-store s m c {entries} passes =
    rw passes (then-assoc (check_budget c.budget) (λ _. check_question s c.question) (λ e. accepted record { sheet = s; entries = entries; question = e }))

pub from-sheet : (sheet : List ℕ) (m : Lent) (c : Call) {s : Sheet} → check_sheet sheet ≡ accepted s
    → check_call sheet m c ≡ from_store s m c
unfolding check_call ◌then_check◌
from-sheet sheet m c accepts = rw accepts

pub refused-by-sheet : (sheet : List ℕ) (m : Lent) (c : Call) {number place : ℕ} → check_sheet sheet ≡ refused number at_place place
    → check_call sheet m c ≡ refused number at_place place
unfolding check_call ◌then_check◌
refused-by-sheet sheet m c refuses = rw refuses

-- ---- The sheet

-- a prepared sheet of so many attributes and nodes
pub record SheetWith (sheet index : List ℕ) (attributes nodes : ℕ) : Type 0 where
  pub prepared : PreparedSheet sheet index
  pub attributes_are : attribute_count prepared.of ≡ attributes
  pub nodes-are : node_count prepared.of ≡ nodes

-- as many as its index says
abbrev pub counted : {sheet index : List ℕ} (p : PreparedSheet sheet index) {attributes nodes : ℕ} → attributes ≡ get_or index attributes_place 0 → nodes ≡ get_or index nodes_place 0
    → SheetWith sheet index attributes nodes
counted p a n = record { prepared = p; attributes_are = sym (a ∙ p.index_of.attributes-in); nodes-are = sym (n ∙ p.index_of.nodes-in) }

module _ {sheet index : List ℕ} {attributes nodes : ℕ} (p : SheetWith sheet index attributes nodes) where
  pub sheet-of : SheetOf sheet attributes nodes p.prepared.of
  sheet-of =
      record {
        attributes_are = p.prepared.index_of.described.attributes_are ∙ ap (attributes_in sheet) p.attributes_are;
        nodes_count = p.nodes-are;
      }

  pub attributes-fit : 3 * attributes ≤ length sheet
  attributes-fit = omega (arith, p.attributes_are, p.prepared.index_of.described.room)

  -- it is the one sheet that these bytes are
  pub same-sheet : (s : Sheet) → check_sheet sheet ≡ accepted s → p.prepared.of ≡ s
  same-sheet s e = let same : accepted p.prepared.of ≡ accepted s = sym p.prepared.accepts ∙ e in cc

  -- a store that passed the check is prepared
  pub store-prepared : {store : List ℕ} {kept : ℕ} {links : List ℕ} {r : Result (Unit {0}) Refusal}
      → StoreChecked sheet attributes nodes store kept links r → r ≡ Ok tt → PreparedStore sheet store kept links
  store-prepared {store} {kept} checked is =
      let (entries, (passes, _)) = check-accepted _ (checked.answer p.prepared.of sheet-of.attributes_are p.nodes-are) is in
      let all : (entries : List Entry) × (check_store p.prepared.of store kept ≡ accepted entries) = (entries, passes) in
      record { passes = λ s e. rw (same-sheet s e) at all; linked = checked.linked is }

module _ {sheet index : List ℕ} {r : Result Counts Refusal} (checked : Checks sheet r index) where
  pub sheet-prepared : {counts : Counts} → r ≡ Ok counts → SheetWith sheet index counts.attributes counts.nodes
  unfolding check_of
  sheet-prepared is =
      let (s, (accepts, counts-are)) = check-accepted counts_of checked.checked is in
      record {
        prepared = record { of = s; accepts = accepts; index_of = checked.indexes s accepts };
        attributes_are = ap (λ c. c.attributes) counts-are;
        nodes-are = ap (λ c. c.nodes) counts-are;
      }

  pub sheet-refused : {q : Refusal} → r ≡ Err q → check_sheet sheet ≡ refused stop_number q.stop at_place q.place
  unfolding check_of
  sheet-refused = check-refused counts_of checked.checked

  -- what is noted of an accepted sheet
  pub sheet-noted : {notes : List ℕ} → length notes ≡ sheet_limit → ChecksNotes sheet r index notes → (s : Sheet) → check_sheet sheet ≡ accepted s → NotedSheet sheet index notes
  unfolding check_of
  sheet-noted size noted s e =
      record { pieces = rw (check-passes counts_of checked.checked e) at noted; size = omega (arith, (checked.indexes s e).described.short) }

-- ---- The store and the question of an accepted sheet

module _ {sheet index : List ℕ} {attributes nodes : ℕ} (p : SheetWith sheet index attributes nodes) (m : Lent) (c : Call)
    {links : List ℕ} {v : Result (Unit {0}) Refusal} (stored : StoreChecked sheet attributes nodes m.store m.kept links v) where
  store-is : checked_of v ≡ store_check_of (check_store p.prepared.of m.store m.kept)
  store-is = stored.answer p.prepared.of (sheet-of p).attributes_are p.nodes-are

  links-after : (s : Sheet) → check_sheet sheet ≡ accepted s → (entries : List Entry) → check_store s m.store m.kept ≡ accepted entries → Linked m.store m.kept links
  links-after s e entries f =
      let passes : check_store p.prepared.of m.store m.kept ≡ accepted entries = rw (same-sheet p s e) f in
      stored.linked (check-passes _ store-is passes)

  refused-by-store : {q : Refusal} → v ≡ Err q → check_call sheet m c ≡ refused stop_number q.stop at_place q.place
  unfolding ◌then_check◌
  refused-by-store is = from-sheet sheet m c p.prepared.accepts ∙ rw (check-refused _ store-is is)

  asks : v ≡ Ok tt → {C : Checked Expr} → from_budget p.prepared.of c ≡ C
      → (entries : List Entry) × (check_call sheet m c ≡ with_question p.prepared.of entries C)
  asks passes is =
      let (entries, (accepts, _)) = check-accepted _ store-is passes in
      (entries, from-sheet sheet m c p.prepared.accepts ∙ from-store p.prepared.of m c accepts ∙ ap (with_question p.prepared.of entries) is)

-- ---- The whole check

module _ {sheet index : List ℕ} {r : Result Counts Refusal} (checked : Checks sheet r index) (m : Lent) (c : Call)
    {notes links : List ℕ} (notes-size : length notes ≡ sheet_limit) (noted : ChecksNotes sheet r index notes) where
  scratch : length links ≡ links_size
      → ((s : Sheet) → check_sheet sheet ≡ accepted s → (entries : List Entry) → check_store s m.store m.kept ≡ accepted entries → Linked m.store m.kept links)
      → Indexes sheet m.store m.kept index notes links
  scratch links-size linked =
      record {
        index_length = checked.size;
        indexed = checked.indexes;
        notes_length = notes-size;
        noted = sheet-noted checked notes-size noted;
        links_length = links-size;
        linked = linked;
      }

  pub sheet-stops : {q : Refusal} → r ≡ Err q → length links ≡ links_size → CallChecked sheet m c index notes links (Err q)
  sheet-stops h links-size =
      let is = sheet-refused checked h in
      record {
        answer = ap verdict_of (sym (refused-by-sheet sheet m c is));
        scratch = scratch links-size (λ s e. let never = sym is ∙ e in cc);
      }

  module _ {attributes nodes : ℕ} (p : SheetWith sheet index attributes nodes) {v : Result (Unit {0}) Refusal}
      (stored : StoreChecked sheet attributes nodes m.store m.kept links v) where
    pub store-stops : {q : Refusal} → v ≡ Err q → CallChecked sheet m c index notes links (Err q)
    store-stops is =
        record { answer = ap verdict_of (sym (refused-by-store p m c stored is)); scratch = scratch stored.size (links-after p m c stored) }

    module _ (passes : v ≡ Ok tt) {a : Result Base Refusal} (asked : QuestionChecked sheet attributes nodes c a) where
      pub question-stops : {q : Refusal} → a ≡ Err q → CallChecked sheet m c index notes links (Err q)
      unfolding ◌then_check◌
      question-stops is =
          record {
            answer = ap verdict_of (sym (asks p m c stored passes (asked-refused c asked p.prepared.of (sheet-of p) is)).1);
            scratch = scratch stored.size (links-after p m c stored);
          }

      pub question-passes : {b : Base} → a ≡ Ok b → CallChecked sheet m c index notes links (Ok tt)
      unfolding ◌then_check◌
      question-passes is =
          record {
            answer = ap verdict_of (sym (asks p m c stored passes (asked-accepted c asked p.prepared.of (sheet-of p) is).1).1);
            scratch = scratch stored.size (links-after p m c stored);
          }
