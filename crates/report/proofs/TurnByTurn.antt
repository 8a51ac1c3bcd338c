-- What holds from turn to turn: the bytes at hand are within the buffer, the store is prepared, the lent slices have the lengths that they were
-- lent with, and the turns made have led here.
use mathlib.Core.Bool.{Bool, true, false, true≢false, false≢true}
use mathlib.Core.List.{List, []}
use mathlib.Core.Logic.{◌⊎◌, ⊎_elim}
use mathlib.Core.Path.{◌≡◌, refl, sym, ap, subst, ◌∙◌}
use Prim.Native.Nat.{ℕ, ◌+◌, ◌≤◌}
use native.Mathlib.Numerals.{add-one}
use native.Mathlib.Omega.{arith}
use lib.ListN.{length}
use Rattle.saiga.specs.Limits.{entry_limit}
use Rattle.saiga.specs.Ask.{lent, Answer}
use Rattle.saiga.specs.Calls.{empty}
use Rattle.stream.proofs.Items.{told}
use Rattle.report.specs.declared.CheckedSheet.{CheckedSheet}
use Rattle.report.specs.declared.State.{State}
use Rattle.stream.specs.declared.Next.{Next}
use Rattle.stream.specs.declared.Next.TheVariants.{Question, Cut, End, More}
use Rattle.report.specs.Report.{Prepared, View, view_of, chunk_of, next, turned_by, turned, Within, Fetched, Turns, none, one_more, Ran}
use Rattle.report.proofs.Turns.{view}

-- so many turns have led here
pub record Made (sheet input store : List ℕ) (s : State) (made : ℕ) : Type 0 where
  pub read : List ℕ
  pub answers : List Answer
  pub so_far : Turns sheet made read answers (view_of input store s)

pub record Running (c : CheckedSheet) (input₀ store₀ links₀ input store links : List ℕ) (s : State) (made : ℕ) : Type 0 where
  pub prepared : Prepared c store s.kept links
  pub within : Within input s
  pub turns : Made c.sheet.bytes.now input store s made
  pub input-same : length input ≡ length input₀
  pub store_same : length store ≡ length store₀
  pub links-same : length links ≡ length links₀
  pub failed-ended : s.failed ≡ true → s.ended ≡ true

-- before the first turn
abbrev pub first : State
first = record { from = 0; to = 0; came = 0; kept = 0; ended = false; failed = false; going = true }

made_none : {sheet : List ℕ} (input store : List ℕ) → lent store 0 ≡ empty entry_limit → Made sheet input store first 0
made_none {sheet} input store e =
    record { read = []; answers = []; so_far = subst (λ m. Turns sheet 0 [] [] (view [] false true m)) (sym e) none }

pub running-start : (c : CheckedSheet) (input store links : List ℕ) → Prepared c store 0 links → lent store 0 ≡ empty entry_limit
    → Running c input store links input store links first 0
running-start c input store links p e =
    record {
      prepared = p;
      within = (omega arith, omega arith);
      turns = made_none input store e;
      input-same = refl;
      store_same = refl;
      links-same = refl;
      failed-ended = λ t. absurd (false≢true t);
    }

-- a read for the next turn keeps the store prepared
pub still-prepared : {c : CheckedSheet} {store links input input' : List ℕ} {s s' : State} → Prepared c store s.kept links
    → Fetched input input' s s' → Prepared c store s'.kept links
still-prepared {c} {store} {links} p f = subst (λ k. Prepared c store k links) (sym (ap (λ v. v.lends.kept) (f.same store))) p

-- one turn more
pub made_one : {sheet input input' store store' : List ℕ} {s s' r : State} {made : ℕ} → Made sheet input store s made → s.going ≡ true → Fetched input input' s s'
    → view_of input' store' r ≡ turned sheet (view_of input' store s') (chunk_of input' s') → Made sheet input' store' r (made + 1)
made_one {sheet} {store = store} {made = made} m going f e =
    let same = f.same store in
    record {
      read = _;
      answers = _;
      so_far =
          rw (← add-one made) at
          (subst (Turns sheet _ _ _) (sym e) (one_more _ (subst (Turns sheet _ _ _) (sym same) m.so_far) (ap (λ v. v.going) same ∙ going)));
    }

-- a read that failed was the last one
module _ (sheet input input' store : List ℕ) (s s' : State) (before : s.failed ≡ true → s.ended ≡ true) (f : Fetched input input' s s') where
  abbrev seen : View
  seen = view_of input' store s'

  -- where no more is asked for
  was-last : {n : Next} → next seen ≡ n → (n ≡ More → ⊥) → s'.failed ≡ true → s'.ended ≡ true
  was-last h other = let same = (f.unasked store (λ m. other (sym h ∙ ap next (f.same store) ∙ m))).1 in rw same before

  last-by : (n : Next) → next seen ≡ n → s'.failed ≡ true → (turned_by sheet seen (chunk_of input' s') n).ended ≡ true
  unfolding turned_by
  last-by (Question n) h t = was-last h (λ m. let z : ◌≡◌ {A = ℕ} 0 1 = cc in absurd (omega arith)) t
  last-by Cut h t = was-last h (λ m. let z : ◌≡◌ {A = ℕ} 0 1 = cc in absurd (omega arith)) t
  last-by End h t = was-last h (λ m. let z : ◌≡◌ {A = ℕ} 0 1 = cc in absurd (omega arith)) t
  last-by More h t =
      let open-end = told seen.hand seen.ended More (sym h) in
      ⊎_elim (λ was. absurd (true≢false (sym (ap (λ v. v.ended) (f.same store) ∙ before was) ∙ open-end))) (λ none. rw none) (f.failing t)

  pub failed-last : (store' : List ℕ) (r : State) → view_of input' store' r ≡ turned sheet seen (chunk_of input' s') → r.failed ≡ s'.failed → r.failed ≡ true → r.ended ≡ true
  failed-last store' r e same t = ap (λ v. v.ended) e ∙ last-by (next seen) refl (sym same ∙ t)

-- a turn, with what was read for it
pub running-on : {c : CheckedSheet} {input₀ store₀ links₀ input store links : List ℕ} {s : State} {made : ℕ}
    → Running c input₀ store₀ links₀ input store links s made → s.going ≡ true
    → {input' : List ℕ} {s' : State} → Fetched input input' s s' → length input' ≡ length input
    → {store' links' : List ℕ} {r : State} → Prepared c store' r.kept links' → Within input' r
    → view_of input' store' r ≡ turned c.sheet.bytes.now (view_of input' store s') (chunk_of input' s') → length store' ≡ length store → length links' ≡ length links → r.failed ≡ s'.failed
    → Running c input₀ store₀ links₀ input' store' links' r (made + 1)
running-on w going f same {r = r} prepared within view-is same_Store same-links same-failed =
    record {
      prepared = prepared;
      within = within;
      turns = made_one w.turns going f view-is;
      input-same = same ∙ w.input-same;
      store_same = same_Store ∙ w.store_same;
      links-same = same-links ∙ w.links-same;
      failed-ended = failed-last _ _ _ _ _ _ w.failed-ended f _ r view-is same-failed;
    }

pub ran : {sheet input store : List ℕ} {s : State} {made : ℕ} {written : Bool} → Made sheet input store s made → made ≤ 18446744073709551615
    → (s.going ≡ false) ⊎ ((made ≡ 18446744073709551615) ⊎ (written ≡ false)) → Ran sheet (view_of input store s) written
ran m counted over = record { made = _; input = m.read; answers = m.answers; turns = m.so_far; counted = counted; over = over }
