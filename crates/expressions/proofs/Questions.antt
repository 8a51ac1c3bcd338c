-- A question's form and type, against the definition of a question call.
use Rattle.std.specs.Prelude.{Option, None as none, Some as some}
use Rattle.std.proofs.lemmas.Option.{none-some, same_Some}
use mathlib.Core.Bool.{false}
use mathlib.Core.List.{List}
use mathlib.Core.Path.{◌≡◌, refl, sym, ap, ◌∙◌}
use Prim.Native.Nat.{ℕ}
use native.Mathlib.Omega.{arith}
use lib.ListN.{length}
use Rattle.saiga.specs.declared.Base.{Base}
use Rattle.saiga.specs.declared.Base.TheVariants.{Unit as unit_t}
use Rattle.saiga.specs.Values.{Ty, base, ◌⇒◌}
use Rattle.saiga.specs.Expressions.{Expr, Whole, no_expression, expression, read_whole}
use Rattle.saiga.specs.Types.{infer}
use Rattle.saiga.specs.Sheet.{Sheet, node_count, Checked, refused◌at_place◌, accepted, question_scope}
use Rattle.saiga.specs.Ask.{of_base_type, check_type, check_question}
use Rattle.std.specs.Option.{ok_or}
use Rattle.saiga.specs.declared.stops.Stop.TheVariants.{QuestionType}
use Rattle.saiga.specs.declared.stops.Refusal.{Refusal}
use Rattle.saiga.specs.Stops.{checked_of}
use Rattle.expressions.specs.Types.{base_type_in}
use Rattle.expressions.specs.Forms.{scope_of, formed_of, base_in, question_of}
use Rattle.values.specs.Layout.{attributes_in}
use Rattle.values.proofs.Attributes.{attributes-count}

-- ---- What the code answers

-- the sheet's scope of a question, as the code has it
scope-is : (sheet : List ℕ) (attributes nodes : ℕ) (s : Sheet) → s.attributes ≡ attributes_in sheet attributes → node_count s ≡ nodes
    → question_scope s ≡ scope_of nodes attributes false false
unfolding question_scope
scope-is sheet attributes nodes s a n = let m = ap length a ∙ attributes-count sheet attributes in cc

module _ (sheet : List ℕ) (attributes nodes : ℕ) (question : List ℕ) (s : Sheet) (a : s.attributes ≡ attributes_in sheet attributes) (n : node_count s ≡ nodes) where
  abbrev whole : Option (Option Ty)
  whole = formed_of (attributes_in sheet attributes) unit_t (read_whole (scope_of nodes attributes false false) question)

  formed : {r : Option (Option Ty)} → r ≡ whole → r ≡ formed_of s.attributes unit_t (read_whole (question_scope s) question)
  formed h = rw (scope-is sheet attributes nodes s a n, a) h

  pub question-none : none ≡ whole → refused 12 at_place 0 ≡ question_of s.attributes (check_question s question)
  unfolding check_question check_type formed_of
  question-none h = go (read_whole (question_scope s) question) (formed h)
    where
      go : (W : Whole) → none ≡ formed_of s.attributes unit_t W → refused 12 at_place 0 ≡ question_of s.attributes (check_type s W)
      go no_expression h = refl
      go (expression e) h = absurd (none-some _ h)

  -- of an expression its base type, if it has one, or the stop at place 0
  pub question-typed : {T : Option Ty} (r : Refusal) → some T ≡ whole → r.stop ≡ QuestionType → r.place ≡ 0
      → checked_of (ok_or (base_type_in T) r) ≡ question_of s.attributes (check_question s question)
  unfolding check_question check_type of_base_type formed_of base_in
  question-typed {T} r h stop place = go (read_whole (question_scope s) question) (formed h)
    where
      by-type : (e : Expr) (T : Option Ty) → T ≡ infer s.attributes unit_t e → checked_of (ok_or (base_type_in T) r) ≡ question_of s.attributes (of_base_type T e)
      by-type e none q = rw (stop, place)
      by-type e (some (base B)) q = rw (← q)
      by-type e (some (B ⇒ T)) q = rw (stop, place)

      go : (W : Whole) → some T ≡ formed_of s.attributes unit_t W → checked_of (ok_or (base_type_in T) r) ≡ question_of s.attributes (check_type s W)
      go no_expression h = absurd (none-some _ (sym h))
      go (expression e) h = rw (← same_Some _ _ h) (by-type e T (same_Some _ _ h))

-- ---- What a caller learns

-- a refused question stops with this number, at this place
pub question-refused : (s : Sheet) (question : List ℕ) {number place : ℕ}
    → question_of s.attributes (check_question s question) ≡ refused number at_place place → check_question s question ≡ refused number at_place place
question-refused s question {number} {place} = go (check_question s question)
  where
    go : (r : Checked Expr) → question_of s.attributes r ≡ refused number at_place place → r ≡ refused number at_place place
    go (refused number at_place place) h = cc
    go (accepted e) h = cc

refused-accepted : {A : Type 0} {number place : ℕ} {x : A} → (refused number at_place place) ≡ accepted x → ⊥
refused-accepted h = let z : ◌≡◌ {A = ℕ} 0 1 = cc in omega arith

-- an accepted question is an expression of this base type
pub question-accepted : (s : Sheet) (question : List ℕ) {B : Base} → question_of s.attributes (check_question s question) ≡ accepted B
    → (e : Expr) × (check_question s question ≡ accepted e) × (infer s.attributes unit_t e ≡ some (base B))
unfolding check_question check_type of_base_type base_in
question-accepted s question {B} = go (read_whole (question_scope s) question)
  where
    by-type : (e : Expr) (T : Option Ty) → infer s.attributes unit_t e ≡ T → question_of s.attributes (of_base_type T e) ≡ accepted B
        → (d : Expr) × (of_base_type T e ≡ accepted d) × (infer s.attributes unit_t d ≡ some (base B))
    by-type e none q h = absurd (refused-accepted h)
    by-type e (some (base C)) q h = (e, refl, let m = ap base_in q in cc)
    by-type e (some (C ⇒ T)) q h = absurd (refused-accepted h)

    go : (W : Whole) → question_of s.attributes (check_type s W) ≡ accepted B
        → (e : Expr) × (check_type s W ≡ accepted e) × (infer s.attributes unit_t e ≡ some (base B))
    go no_expression h = absurd (refused-accepted h)
    go (expression e) h = by-type e (infer s.attributes unit_t e) refl h
