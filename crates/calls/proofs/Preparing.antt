-- What the checks leave a question call with: a refusal, or what its run needs; and what a call leaves for the next.
use mathlib.Core.List.{List, []}
use mathlib.Core.Path.{◌≡◌, refl, sym, ap, ◌∙◌}
use Prim.Native.Nat.{ℕ}
use native.Mathlib.Omega.{arith}
use lib.ListN.{length, replicate}
use Rattle.std.specs.Prelude.{Result, Ok, Err}
use Rattle.saiga.specs.Limits.{tally_rows}
use Rattle.saiga.specs.declared.Base.{Base}
use Rattle.saiga.specs.declared.stops.Refusal.{Refusal}
use Rattle.saiga.specs.Expressions.{Expr}
use Rattle.saiga.specs.Sheet.{Checked, refused◌at_place◌, accepted}
use Rattle.saiga.specs.Caching.{Entry}
use Rattle.saiga.specs.Store.{check_store}
use Rattle.saiga.specs.Stops.{stop_number}
use Rattle.saiga.specs.Ask.{Lent, lent, Call, asking, refusal, ◌then_check◌, AcceptedCall, check_call, ask}
use Rattle.saiga.specs.Calls.{leaves}
use Rattle.saiga.proofs.Calls.{ask-refuses, passed, left-store-passes}
use Rattle.stores.specs.Keys.{Linked}
use Rattle.engine.specs.Decode.{run_size}
use Rattle.calls.specs.declared.Answer.{Answer}
use Rattle.calls.specs.Answers.{answer_of}
use Rattle.calls.specs.Prepared.{NotedSheet, PreparedStore}
use Rattle.calls.specs.Verdict.{from_budget, CallChecked}
use Rattle.calls.proofs.CheckLaws.{check-refused, check-accepted, QuestionChecked, SheetWith, sheet-of, same-sheet, asked-refused, asked-accepted, with_question, from-store, from-sheet}
use Rattle.calls.specs.Askable.{Askable, RunScratch}

-- ---- A refusal

-- the answer of a refusal is the same whatever the store's bytes are, has a tally of zeros, and leaves the bytes
pub refuses : (sheet : List ℕ) (m : Lent) (c : Call) {number place : ℕ} (r : Answer) → check_call sheet m c ≡ refused number at_place place
    → answer_of r ≡ (refusal (lent [] m.kept) number place).answer
    → (answer_of r ≡ (ask sheet m c).answer) × (replicate tally_rows 0 ≡ (ask sheet m c).tally) × (m.store ≡ (ask sheet m c).store)
unfolding refusal
refuses sheet m c r stops answer =
    let is = ask-refuses sheet m c stops in
    (answer ∙ sym (ap (λ o. o.answer) is), sym (ap (λ o. o.tally) is), sym (ap (λ o. o.store) is))

pub refusal-keeps : (kept number place : ℕ) (r : Answer) → answer_of r ≡ (refusal (lent [] kept) number place).answer → (answer_of r).kept ≡ kept
unfolding refusal
refusal-keeps kept number place r is = ap (λ a. a.kept) is

-- ---- The run's scratch

module _ {checked : Checked AcceptedCall} {memory : List ℕ} where
  pub scratch-as-lent : length memory ≡ run_size → RunScratch checked memory memory
  scratch-as-lent l = record { memory_length = l; as_lent = λ number place e. refl }

  pub scratch-used : {memory' : List ℕ} {c : AcceptedCall} → checked ≡ accepted c → length memory' ≡ run_size → RunScratch checked memory memory'
  scratch-used is l = record { memory_length = l; as_lent = λ number place e. absurd (let z : ◌≡◌ {A = ℕ} 0 1 = cc in omega arith) }

-- ---- A call of which nothing was checked before

module _ {sheet index notes question store links : List ℕ} {kept budget : ℕ} {r : Result (Unit {0}) Refusal}
    (checked : CallChecked sheet (lent store kept) (asking question budget) index notes links r) where
  pub checked_refused : {q : Refusal} → r ≡ Err q
      → check_call sheet (lent store kept) (asking question budget) ≡ refused stop_number q.stop at_place q.place
  checked_refused = check-refused _ checked.answer

  pub checked-accepts : r ≡ Ok tt → (c : AcceptedCall) × (check_call sheet (lent store kept) (asking question budget) ≡ accepted c)
  checked-accepts is = let (c, (accepts, _)) = check-accepted _ checked.answer is in (c, accepts)

  pub checked-askable : {memory : List ℕ} → r ≡ Ok tt → length memory ≡ run_size
      → Askable sheet index notes question store links memory kept budget
  checked-askable is memory_length =
      let (c, accepts) = checked-accepts is in
      let found = passed sheet (lent store kept) (asking question budget) accepts in
      record {
        call = c;
        accepts = accepts;
        index_of = checked.scratch.indexed c.sheet found.sheet-is;
        noted = checked.scratch.noted c.sheet found.sheet-is;
        linked = checked.scratch.linked c.sheet found.sheet-is c.entries found.entries-are;
        memory_length = memory_length;
      }

-- ---- A call of a checked sheet and a checked store

module _ {sheet index : List ℕ} {attributes nodes : ℕ} (p : SheetWith sheet index attributes nodes)
    {store : List ℕ} {kept : ℕ} {links : List ℕ} (q : PreparedStore sheet store kept links) (question : List ℕ) (budget : ℕ) where
  abbrev entries : List Entry
  entries = (q.passes p.prepared.of p.prepared.accepts).0

  passes : check_store p.prepared.of store kept ≡ accepted entries
  passes = (q.passes p.prepared.of p.prepared.accepts).1

  chain : check_call sheet (lent store kept) (asking question budget) ≡ with_question p.prepared.of entries (from_budget p.prepared.of (asking question budget))
  chain = from-sheet sheet (lent store kept) (asking question budget) p.prepared.accepts ∙ from-store p.prepared.of (lent store kept) (asking question budget) passes

  module _ {r : Result Base Refusal} (checked : QuestionChecked sheet attributes nodes (asking question budget) r) where
    pub question-refused : {q : Refusal} → r ≡ Err q
        → check_call sheet (lent store kept) (asking question budget) ≡ refused stop_number q.stop at_place q.place
    unfolding ◌then_check◌
    question-refused is = chain ∙ rw (asked-refused (asking question budget) checked p.prepared.of (sheet-of p) is)

    pub question-accepts : {b : Base} → r ≡ Ok b
        → (e : Expr) × (check_call sheet (lent store kept) (asking question budget) ≡ accepted record { sheet = p.prepared.of; entries = entries; question = e })
    unfolding ◌then_check◌
    question-accepts is =
        let (e, asks) = asked-accepted (asking question budget) checked p.prepared.of (sheet-of p) is in
        (e, chain ∙ rw asks)

    pub askable : {notes memory : List ℕ} {b : Base} → NotedSheet sheet index notes → r ≡ Ok b → length memory ≡ run_size
        → Askable sheet index notes question store links memory kept budget
    askable noted is memory_length =
        let (e, accepts) = question-accepts is in
        record {
          call = record { sheet = p.prepared.of; entries = entries; question = e };
          accepts = accepts;
          index_of = p.prepared.index_of;
          noted = noted;
          linked = q.linked;
          memory_length = memory_length;
        }

  -- What a call leaves is prepared for the next.
  pub prepared_again : {store' links' : List ℕ} (answer : Answer) → answer_of answer ≡ (ask sheet (lent store kept) (asking question budget)).answer
      → store' ≡ (ask sheet (lent store kept) (asking question budget)).store → Linked store' (answer_of answer).kept links'
      → PreparedStore sheet store' (answer_of answer).kept links'
  unfolding leaves
  prepared_again {store'} answer is left linked =
      let after : (entries : List Entry) × (check_store p.prepared.of store' (answer_of answer).kept ≡ accepted entries) =
      rw (left, is) (left-store-passes sheet p.prepared.of p.prepared.accepts (lent store kept) entries passes (asking question budget)) in
      record { passes = λ s e. rw (same-sheet p s e) at after; linked = linked }
