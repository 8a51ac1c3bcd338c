-- Demand 3 holds of every accepted sheet.
use mathlib.Core.Bool.{Bool, true, false}
use mathlib.Core.List.{List, [], ◌∷◌, ◌++◌}
use Rattle.std.proofs.lemmas.Option.{none-some}
use mathlib.Core.Path.{◌≡◌, refl, ◌∙◌, ap}
use Prim.Native.Nat.{ℕ, ◌/◌, ◌%◌, ◌≤◌}
use native.Mathlib.Omega.{arith}
use borrow.Author.Tests.{le-leb, eq-eqb, leb-true, leb-false}
use lib.Dec.{leb, leb-zero}
use lib.ListN.{length}
use Rattle.saiga.specs.Limits.{entry_width, store_limit, budget_limit}
use Rattle.saiga.specs.Values.{unit}
use Rattle.saiga.specs.Expressions.{Expr}
use Rattle.saiga.specs.Sheet.{Sheet, Checked, refused◌at_place◌, accepted, check_sheet, context}
use Rattle.saiga.specs.Caching.{Entry, kept}
use Rattle.saiga.specs.Store.{capacity, check_store, read_entries}
use Rattle.saiga.specs.Ask.{Lent, Call, asking, refusal, check_question, asked, ended_answer, outcome, run_question, ask}
use Rattle.saiga.specs.Calls.{leaves, after_calls, answers}
use Rattle.saiga.specs.Demand3.{PlainEnding, PlainEnds, Brings, HasEnding, First, outcome_at, OfSheet, Demand3}
use Rattle.saiga.proofs.Keeping.{right-run}
use Rattle.saiga.proofs.Larger.{Nested, alike, larger, Brings as RunBrings}
use Rattle.saiga.proofs.Erasure.{Right, faithful-put}
use Rattle.saiga.proofs.Endings.{no-ending, same-ending, sound-ending, never_both, complete-ending, circle-ending, for-ever-ending}
use Rattle.saiga.proofs.Calls.{question-runs, question-follows, call-answered, call-over, call-malformed, budgets-agree, Passes, question-leaves, call-cases}

-- ---- Lists

places : (sheet : List ℕ) (first : Lent) (before after : List Call) (c : Call)
    → let o = ask sheet (after_calls sheet first before) c in
    answers sheet first (before ++ c ∷ after) ≡ answers sheet first before ++ o.answer ∷ answers sheet (leaves o) after
unfolding answers after_calls
places sheet first [] after c = refl
places sheet first (d ∷ before) after c = ap (λ l. (ask sheet first d).answer ∷ l) (places sheet (leaves (ask sheet first d)) before after c)

module _ (sheet : List ℕ) (s : Sheet) (ok : check_sheet sheet ≡ accepted s) where
  -- ---- What a list of calls reaches

  -- A store of this capacity that passes the checks, with entries that are right.
  record Reached (size : ℕ) (entries : List Entry) (m : Lent) : Type 0 where
    passes : Passes sheet s ok m entries
    sized : capacity m.store ≡ size
    right : Right (context s) entries

  reached-first : (size : ℕ) (m : Lent) → First size m → Reached size [] m
  unfolding check_store read_entries
  reached-first size m f =
      let h = f.size in
      let l = f.within in
      record {
        passes = rw (f.none_kept, eq-eqb (length m.store % entry_width) 0 (omega arith), le-leb (length m.store) store_limit (omega arith), leb-zero (capacity m.store));
        sized = omega arith;
        right = record { right = λ o v k. unfold kept in absurd (none-some v k) };
      }

  module _ (size : ℕ) (entries : List Entry) (m : Lent) (r : Reached size entries m) where
    answer-is : (q : List ℕ) (budget : ℕ) (e : Expr) → budget ≤ budget_limit → check_question s q ≡ accepted e
        → (ask sheet m (asking q budget)).answer ≡ ended_answer (run_question s size budget entries e)
    unfolding outcome
    answer-is q budget e permitted form =
        ap (λ o. o.answer) (call-answered sheet s ok m entries q budget e r.passes permitted form)
        ∙ ap (λ k. ended_answer (run_question s k budget entries e)) r.sized

    reached-question : (q : List ℕ) (budget : ℕ) (e : Expr) → budget ≤ budget_limit → check_question s q ≡ accepted e
        → Reached size (run_question s size budget entries e).entries (leaves (ask sheet m (asking q budget)))
    reached-question q budget e permitted form =
        let left = question-leaves sheet s ok m entries r.passes q budget e permitted form in
        rw (← r.sized) record {
          passes = left.0;
          sized = ap (λ n. n / entry_width) left.1;
          right = right-run (context s) (question-runs s (capacity m.store) budget entries e) r.right (unfold asked in (faithful-put (context s) 0 unit e));
        }

  -- After any list of calls the store is one that was reached.
  abbrev ReachedSome : ℕ → Lent → Type 0
  ReachedSome size m = (entries : List Entry) × Reached size entries m

  reached : (size : ℕ) (m : Lent) → ReachedSome size m → (before : List Call) → ReachedSome size (after_calls sheet m before)
  unfolding after_calls
  reached size m r [] = r
  reached size m r (c ∷ before) =
      reached size (leaves (ask sheet m c))
      (call-cases sheet s ok m r.0 r.1.passes (ReachedSome size) c r
      (λ e permitted form. (_, reached-question size r.0 m r.1 c.question c.budget e permitted form)))
      before

  -- ---- Two stores, one larger

  module _ (size size' : ℕ) (more : size ≤ size') where
    -- The stores that one list of calls reaches at two capacities.
    record Paired (m m' : Lent) : Type 0 where
      small : List Entry
      large : List Entry
      small-reached : Reached size small m
      large-reached : Reached size' large m'
      nested : Nested size small large

    module _ (m m' : Lent) (p : Paired m m') (q : List ℕ) (budget : ℕ) (e : Expr) where
      pair_runs :
          Nested size (run_question s size budget p.small e).entries (run_question s size' budget p.large e).entries
          × RunBrings (run_question s size budget p.small e) (run_question s size' budget p.large e)
      unfolding asked
      pair_runs =
          larger (context s) size size' budget more p.small p.large p.nested p.small-reached.right p.large-reached.right _
          (faithful-put (context s) 0 unit e) (question-runs s size budget p.small e) (question-runs s size' budget p.large e)

    pair-call : (m m' : Lent) → Paired m m' → (c : Call) → Paired (leaves (ask sheet m c)) (leaves (ask sheet m' c))
    pair-call m m' p c = budgeted (leb c.budget budget_limit) refl
      where
        as_lent : (number place : ℕ) → ask sheet m c ≡ refusal m number place
            → ask sheet m' c ≡ refusal m' number place → Paired (leaves (ask sheet m c)) (leaves (ask sheet m' c))
        as_lent number place e e' = rw (e, e') (unfold refusal leaves in p)

        formed : c.budget ≤ budget_limit → (d : Checked Expr) → check_question s c.question ≡ d → Paired (leaves (ask sheet m c)) (leaves (ask sheet m' c))
        formed permitted (refused number at_place place) form =
            as_lent number place
            (call-malformed sheet s ok m p.small c.question c.budget number place p.small-reached.passes permitted form)
            (call-malformed sheet s ok m' p.large c.question c.budget number place p.large-reached.passes permitted form)
        formed permitted (accepted e) form = record {
          small = (run_question s size c.budget p.small e).entries;
          large = (run_question s size' c.budget p.large e).entries;
          small-reached = reached-question size p.small m p.small-reached c.question c.budget e permitted form;
          large-reached = reached-question size' p.large m' p.large-reached c.question c.budget e permitted form;
          nested = (pair_runs m m' p c.question c.budget e).0;
        }

        budgeted : (b : Bool) → leb c.budget budget_limit ≡ b → Paired (leaves (ask sheet m c)) (leaves (ask sheet m' c))
        budgeted true h = formed (leb-true c.budget budget_limit h) (check_question s c.question) refl
        budgeted false h =
            let over = leb-false c.budget budget_limit h in
            as_lent 11 0
            (call-over sheet s ok m p.small c.question c.budget p.small-reached.passes over)
            (call-over sheet s ok m' p.large c.question c.budget p.large-reached.passes over)

    paired : (m m' : Lent) → Paired m m' → (before : List Call) → Paired (after_calls sheet m before) (after_calls sheet m' before)
    unfolding after_calls
    paired m m' p [] = p
    paired m m' p (c ∷ before) = paired (leaves (ask sheet m c)) (leaves (ask sheet m' c)) (pair-call m m' p c) before

  -- ---- The claim

  -- An answer other than 11 was given under a permitted budget: one with an ending of plain Saiga's, and a circle.
  permitted-unless : (m : Lent) (entries : List Entry) (q : List ℕ) (budget : ℕ) → Passes sheet s ok m entries
      → ((ask sheet m (asking q budget)).answer.number ≡ 11 → ⊥) → budget ≤ budget_limit
  unfolding refusal
  permitted-unless m entries q budget pass other = go (leb budget budget_limit) refl
    where
      go : (b : Bool) → leb budget budget_limit ≡ b → budget ≤ budget_limit
      go true p = leb-true budget budget_limit p
      go false p = absurd (other (ap (λ o. o.answer.number) (call-over sheet s ok m entries q budget pass (leb-false budget budget_limit p))))

  ending-permitted : (m : Lent) (entries : List Entry) (q : List ℕ) (budget : ℕ) → Passes sheet s ok m entries
      → HasEnding (ask sheet m (asking q budget)).answer → budget ≤ budget_limit
  unfolding HasEnding
  ending-permitted m entries q budget pass h = permitted-unless m entries q budget pass (λ is. no-ending 11 refl (rw is at h))

  circle-permitted : (m : Lent) (entries : List Entry) (q : List ℕ) (budget : ℕ) → Passes sheet s ok m entries
      → (ask sheet m (asking q budget)).answer.number ≡ 20 → budget ≤ budget_limit
  circle-permitted m entries q budget pass h = permitted-unless m entries q budget pass (λ is. omega (arith, is, h))

  ending_at : (size : ℕ) (first : Lent) → First size first → (before : List Call) (q : List ℕ) (e : Expr) → check_question s q ≡ accepted e → (budget : ℕ)
      → let r = (outcome_at sheet first before q budget).answer in
      HasEnding r → (ending : PlainEnding) × (n : ℕ) × PlainEnds s e ending n × Brings r ending × (r.steps ≤ n)
  ending_at size first f before q e form budget h =
      let (entries, r) = reached size first ([], reached-first size first f) before in
      let is = answer-is size entries _ r q budget e (ending-permitted _ entries q budget r.passes h) form in
      rw is (sound-ending s e budget _ _ _ (question-follows s size budget entries e r.right) (rw is at h))

  of-sheet : OfSheet sheet s
  of-sheet = record {
    places = λ first before q budget after. places sheet first before after (asking q budget);
    complete = λ size first f before q e form ending n h budget enough permitted.
        let (entries, r) = reached size first ([], reached-first size first f) before in
        rw (answer-is size entries _ r q budget e permitted form)
        (complete-ending s e budget _ _ _ (question-follows s size budget entries e r.right) ending n h enough);
    sound = ending_at;
    never = λ size first f before q e form for_ever budget h.
        let (ending, n, ends, same, fewer) = ending_at size first f before q e form budget h in
        never_both s e budget ending n ends for_ever;
    circles = λ size first f before q e form budget h.
        let (entries, r) = reached size first ([], reached-first size first f) before in
        let is = answer-is size entries _ r q budget e (circle-permitted _ entries q budget r.passes h) form in
        circle-ending s e budget _ _ _ (question-follows s size budget entries e r.right) (rw is at h);
    for_ever = λ size first f before q e form on budget permitted.
        let (entries, r) = reached size first ([], reached-first size first f) before in
        rw (answer-is size entries _ r q budget e permitted form)
        (for-ever-ending s e budget _ _ _ (question-follows s size budget entries e r.right) on);
    larger-stores = λ size size' more first first' f f' before q e form budget h.
        let p = paired size size' more first first' record {
          small = [];
          large = [];
          small-reached = reached-first size first f;
          large-reached = reached-first size' first' f';
          nested = alike refl;
        } before in
        let permitted = ending-permitted _ p.small q budget p.small-reached.passes h in
        let is = answer-is size p.small _ p.small-reached q budget e permitted form in
        let is' = answer-is size' p.large _ p.large-reached q budget e permitted form in
        rw (is, is') (same-ending _ _ _ _ (pair_runs size size' more _ _ p q budget e).1 (rw is at h));
    larger-budgets = λ lent q b b' more permitted n. budgets-agree sheet s ok lent q b b' more permitted n;
  }

pub demand-3 : Demand3
demand-3 sheet s ok = of-sheet sheet s ok
