-- The tally of every call has its rows, which add up to the steps; those of undeclared attributes are 0.
use mathlib.Core.List.{List}
use mathlib.Core.Bool.{false≢true}
use mathlib.Core.Path.{◌≡◌, refl, ap, ◌∙◌}
use Prim.Native.Nat.{ℕ, ◌+◌, ◌≤◌, ◌<◌}
use native.Mathlib.Omega.{arith}
use lib.ListN.{length, get_or-replicate}
use Rattle.saiga.specs.Limits.{attribute_limit, tally_rows}
use Rattle.saiga.specs.Values.{base, unit}
use Rattle.saiga.specs.Expressions.{Expr}
use Rattle.saiga.specs.Types.{Attribute}
use Rattle.saiga.specs.Sheet.{Sheet, Checked, refused◌at_place◌, accepted, check_sheet, node_count, context, question_scope}
use Rattle.saiga.specs.Caching.{Counted, CondTrue, CondFalse, AppApp, AttrApp, State, Ending, with_value, by, Ended}
use Rattle.saiga.specs.Tally.{steps_in, total}
use Rattle.saiga.specs.Runs.{Runs, Traces, none_value, none_by, one_counted, past_writing}
use Rattle.saiga.specs.Sound.{All, all_none, all_cons}
use Rattle.saiga.specs.Store.{capacity}
use Rattle.saiga.specs.Ask.{Lent, Call, refusal, asked, ended_answer, outcome, run_question, trace_question, AcceptedCall, check_call}
use Rattle.saiga.specs.Tallies.{TallyOf, TallyLaw}
use Rattle.saiga.proofs.Accepted.{accepted-sheet}
use Rattle.saiga.proofs.Preservation.{put_in, RuleIn, traces-in}
use Rattle.saiga.proofs.Entries.{store_in}
use Rattle.saiga.proofs.RunEnds.{after}
use Rattle.saiga.proofs.Calls.{question-runs, question-traces, passed, ask-runs, ask-refuses, question-in}
use Rattle.saiga.proofs.Tally.{row_of, HasRow, among-more, no_more, tally-length, tally-row, tally-adds}

-- the steps of a run are those of its trace
traced-steps : (context : ℕ → ℕ → Expr) (capacity budget : ℕ) {st : State} {end : Ended} {l : List Counted}
    → Traces context capacity budget st l → Runs context capacity budget st end → st.steps + length l ≡ end.steps
traced-steps context capacity budget (none_value d) run = let end = ap (λ w. w.steps) (after context capacity budget run d) in omega arith
traced-steps context capacity budget (none_by d) run = let end = ap (λ w. w.steps) (after context capacity budget run d) in omega arith
traced-steps context capacity budget (one_counted d rest) run =
    omega (arith, traced-steps context capacity budget rest (after context capacity budget run d))
traced-steps context capacity budget (past_writing d rest) run = traced-steps context capacity budget rest (after context capacity budget run d)

steps-field : (end : Ended) → (ended_answer end).steps ≡ end.steps
unfolding ended_answer
steps-field end = go end.ending refl
  where
    go : (e : Ending) → end.ending ≡ e → (ended_answer end).steps ≡ end.steps
    go (with_value v) is = rw is
    go (by reason) is = rw is

-- ---- Declared attributes

module _ (sig : List Attribute) (few : length sig ≤ attribute_limit) where
  have-rows : {l : List Counted} → All (RuleIn sig) l → All HasRow l
  have-rows all_none = all_none
  have-rows (all_cons {x = r} h t) = all_cons (among-more few r h) (have-rows t)

  -- no step counts in another attribute's row
  none-undeclared : (a : ℕ) → length sig ≤ a → a < attribute_limit → {l : List Counted} → All (RuleIn sig) l → steps_in a l ≡ 0
  unfolding steps_in row_of
  none-undeclared a past inside all_none = refl
  none-undeclared a past inside (all_cons {x = r} {l = l} h t) = no_more a r (among-more few r h) (other r h) l ∙ none-undeclared a past inside t
    where
      other : (r : Counted) → RuleIn sig r → a ≡ row_of r → ⊥
      other CondTrue h e = omega arith
      other CondFalse h e = omega arith
      other AppApp h e = omega arith
      other (AttrApp b) h e = omega arith

-- ---- Calls

module _ (sheet : List ℕ) (m : Lent) (c : Call) where
  refused-tally : {number place : ℕ} → check_call sheet m c ≡ refused number at_place place → TallyOf sheet m c
  unfolding refusal total
  refused-tally e =
      let is = ask-refuses sheet m c e in
      record {
        rows = rw is refl;
        adds_up = rw is refl;
        undeclared = λ s ok a past inside. rw is (get_or-replicate tally_rows a 0 0 (omega arith));
      }

  accepted-tally : (a : AcceptedCall) → check_call sheet m c ≡ accepted a → TallyOf sheet m c
  unfolding outcome asked question_scope
  accepted-tally a e =
      let found = passed sheet m c e in
      let is = ask-runs sheet m c e in
      let s = a.sheet in
      let k = capacity m.store in
      let sound = accepted-sheet sheet s found.sheet-is in
      let (B, typed) = question-in sheet s found.sheet-is c.question a.question found.question-is in
      let traced = question-traces s k c.budget a.entries a.question in
      let rules : All (RuleIn s.attributes) (trace_question s k c.budget a.entries a.question) =
      traces-in (node_count s) s.attributes (context s) sound.context-in k c.budget (base B) traced record {
        entries-in = (store_in s m.store m.kept a.entries found.entries-are).entries-in;
        term_in = put_in 0 unit (λ n. absurd (false≢true n)) (λ n. absurd (false≢true n)) typed;
      } in
      record {
        rows = rw is (tally-length _);
        adds_up =
            rw is (omega (
              arith,
              tally-adds (have-rows s.attributes sound.attributes_bound rules),
              traced-steps (context s) k c.budget traced (question-runs s k c.budget a.entries a.question),
              steps-field (run_question s k c.budget a.entries a.question),
            ));
        undeclared = λ s' ok n past inside.
            rw is (tally-row _ n (omega arith) ∙ none-undeclared s.attributes sound.attributes_bound n (same-past found.sheet-is s' ok n past) inside rules);
      }
    where
      same-past : check_sheet sheet ≡ accepted a.sheet → (s' : Sheet) → check_sheet sheet ≡ accepted s' → (n : ℕ) → length s'.attributes ≤ n → length a.sheet.attributes ≤ n
      same-past is s' ok n past = let same : s' ≡ a.sheet = cc in rw same at past

pub tally-law : TallyLaw
tally-law sheet m c = go (check_call sheet m c) refl
  where
    go : (checked : Checked AcceptedCall) → check_call sheet m c ≡ checked → TallyOf sheet m c
    go (refused number at_place place) e = refused-tally sheet m c e
    go (accepted a) e = accepted-tally sheet m c a e
