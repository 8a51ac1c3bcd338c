-- The endings that answers bring against those of plain Saiga.
use mathlib.Core.Bool.{false, ◌||◌, false≢true}
use mathlib.Core.List.{List}
use mathlib.Core.Logic.{◌⊎◌, inl, inr}
use Rattle.std.specs.Prelude.{Some as some}
use mathlib.Core.Path.{◌≡◌, refl, sym, ◌∙◌, ap}
use Prim.Native.Nat.{ℕ, suc, ◌≤◌}
use native.Mathlib.Omega.{arith}
use lib.Dec.{eqb}
use lib.ListN.{length}
use Rattle.saiga.specs.Values.{Value}
use Rattle.saiga.specs.Expressions.{Expr}
use Rattle.saiga.specs.Sheet.{Sheet, context}
use Rattle.saiga.specs.Terms.{val}
use Rattle.saiga.specs.Plain.{Plain, NoValue, on_null, by_overflow, is_value, ends_without, plain_step, plain_at, EndsWithValue, EndsWithout, RunsForEver}
use Rattle.saiga.specs.Caching.{Entry, as_plain, circle, spent, depth, with_value, by, Ending, Ended}
use Rattle.saiga.specs.Ask.{Answer, asked, reason_number, ended_answer}
use Rattle.saiga.specs.Demand3.{PlainEnding, a_value, no_value, PlainEnds, Brings, HasEnding}
use Rattle.saiga.proofs.Larger.{BringsIn}
use Rattle.saiga.proofs.PlainFacts.{Final, final_value, final-without, last, one_end}
use Rattle.saiga.proofs.AgainstPlain.{Follows}

-- An ended run by its parts.
abbrev ended_so : Ending → ℕ → List Entry → Ended
ended_so ending steps entries = record { ending = ending; entries = entries; steps = steps }

-- the answer of a run that ended so
abbrev answer-of : Ending → ℕ → List Entry → Answer
answer-of ending steps entries = ended_answer (ended_so ending steps entries)

-- a number of none of plain Saiga's endings
pub no-ending : (n : ℕ) → (eqb n 0 || eqb n 14 || eqb n 17) ≡ false → (n ≡ 0) ⊎ (n ≡ 14) ⊎ (n ≡ 17) → ⊥
no-ending n other (inl h) = false≢true (sym (rw h at other))
no-ending n other (inr (inl h)) = false≢true (sym (rw h at other))
no-ending n other (inr (inr h)) = false≢true (sym (rw h at other))

-- The larger store's run brings the same ending.
pub same-ending : (ending : Ending) (steps : ℕ) (entries : List Entry) (large : Ended) → BringsIn ending steps large → HasEnding (answer-of ending steps entries)
    → let r = answer-of ending steps entries in
    let r' = ended_answer large in
    (r'.number ≡ r.number) × (r'.type ≡ r.type) × (r'.value ≡ r.value) × (r'.steps ≤ r.steps)
unfolding ended_answer reason_number HasEnding
same-ending (with_value v) steps k large b h = rw b.0 (refl, refl, refl, b.1)
same-ending (by (as_plain why)) steps k large b h = rw b.0 (refl, refl, refl, b.1)
same-ending (by circle) steps k large b h = absurd (no-ending 20 refl h)
same-ending (by spent) steps k large b h = absurd (no-ending 15 refl h)
same-ending (by depth) steps k large b h = absurd (no-ending 16 refl h)

-- Stop 15 is given for the budget alone.
pub kept_field : (end : Ended) → (ended_answer end).kept ≡ length end.entries
unfolding ended_answer
kept_field end = go end.ending
  where
    go : (e : Ending) → (answer-of e end.steps end.entries).kept ≡ length end.entries
    go (with_value v) = refl
    go (by r) = refl

pub spent-number : (end : Ended) → end.ending ≡ by spent → (ended_answer end).number ≡ 15
unfolding ended_answer reason_number
spent-number end h = rw h

-- The numbers of the endings that plain Saiga has.
module _ (s : Sheet) (e : Expr) (budget : ℕ) where
  -- the number of each ending without a value
  brings-why : (steps : ℕ) (entries : List Entry) (why : NoValue) → Brings (answer-of (by (as_plain why)) steps entries) (no_value why)
  unfolding ended_answer reason_number Brings
  brings-why steps entries on_null = refl
  brings-why steps entries by_overflow = refl

  -- the ending that an answer brings is plain Saiga's
  pub sound-ending : (ending : Ending) (steps : ℕ) (entries : List Entry) → Follows (context s) budget (asked e) steps ending → HasEnding (answer-of ending steps entries)
      → (p : PlainEnding) × (n : ℕ) × PlainEnds s e p n × Brings (answer-of ending steps entries) p × ((answer-of ending steps entries).steps ≤ n)
  unfolding ended_answer reason_number HasEnding PlainEnds Brings EndsWithValue EndsWithout
  sound-ending (with_value v) steps l f h = (a_value v, f.0, f.1, (refl, refl, refl), f.2)
  sound-ending (by (as_plain why)) steps l f h = (no_value why, f.0, (f.1, f.2, f.3), brings-why steps l why, f.4)
  sound-ending (by circle) steps l f h = absurd (no-ending 20 refl h)
  sound-ending (by spent) steps l f h = absurd (no-ending 15 refl h)
  sound-ending (by depth) steps l f h = absurd (no-ending 16 refl h)

  -- where plain Saiga ends, no step is due
  ended : (p : PlainEnding) (n : ℕ) → PlainEnds s e p n → (t : Plain) × (plain_at (context s) n (asked e) ≡ some t) × Final (context s) t
  unfolding PlainEnds EndsWithValue EndsWithout
  ended (a_value v) n h = (val v, h, final_value (context s) v)
  ended (no_value why) n h = (h.0, h.1, final-without (context s) why h.0 h.2)

  -- it does not run for ever
  pub never_both : (p : PlainEnding) (n : ℕ) → PlainEnds s e p n → RunsForEver (context s) (asked e) → ⊥
  unfolding RunsForEver
  never_both p n h for_ever =
      let (t, comes, final) = ended p n h in
      let (t', further) = for_ever (suc n) in
      let no-further = last (context s) n (suc n) (asked e) t t' comes final further in
      omega arith

  -- and it ends once
  not-both : (n : ℕ) (v : Value) (why : NoValue) → PlainEnds s e (a_value v) n → PlainEnds s e (no_value why) n → ⊥
  unfolding PlainEnds EndsWithValue EndsWithout plain_step
  not-both n v why h k =
      let same : k.0 ≡ val v = cc k.1 in
      let clash : is_value v ≡ ends_without why = ap (plain_step (context s)) (sym same) ∙ k.2 in
      let z : ◌≡◌ {A = ℕ} 0 1 = cc in
      omega arith

  one-ending : (n : ℕ) (p q : PlainEnding) → PlainEnds s e p n → PlainEnds s e q n → p ≡ q
  unfolding PlainEnds EndsWithValue EndsWithout
  one-ending n (a_value v) (a_value w) h k = let c : v ≡ w = cc in ap a_value c
  one-ending n (a_value v) (no_value why) h k = absurd (not-both n v why h k)
  one-ending n (no_value why) (a_value w) h k = absurd (not-both n w why k h)
  one-ending n (no_value why) (no_value why') h k =
      let same : h.0 ≡ k.0 = cc (h.1, k.1) in
      let one : ends_without why ≡ ends_without why' = sym h.2 ∙ ap (plain_step (context s)) same ∙ k.2 in
      let c : why ≡ why' = cc in
      ap no_value c

  ends-once : (p q : PlainEnding) (m n : ℕ) → PlainEnds s e p m → PlainEnds s e q n → (m ≡ n) × (p ≡ q)
  ends-once p q m n h k =
      let a = ended p m h in
      let b = ended q n k in
      let same = (one_end (context s) m n (asked e) a.0 b.0 a.1 b.1 a.2 b.2).1 in
      (same, one-ending n p q (rw same at h) k)

  pub complete-ending : (ending : Ending) (steps : ℕ) (entries : List Entry) → Follows (context s) budget (asked e) steps ending → (p : PlainEnding) (n : ℕ) → PlainEnds s e p n
      → n ≤ budget → (Brings (answer-of ending steps entries) p × ((answer-of ending steps entries).steps ≤ n)) ⊎ ((answer-of ending steps entries).number ≡ 16)
  unfolding ended_answer reason_number Brings PlainEnds EndsWithValue EndsWithout
  complete-ending (with_value v) steps l f p n h m =
      let o = ends-once p (a_value v) n f.0 h f.1 in
      inl (rw o.1 (refl, refl, refl), omega (arith, o.0, f.2))
  complete-ending (by (as_plain why)) steps l f p n h m =
      let o = ends-once p (no_value why) n f.0 h (f.1, f.2, f.3) in
      inl (rw o.1 (brings-why steps l why), omega (arith, o.0, f.4))
  complete-ending (by circle) steps l f p n h m = absurd (never_both p n h f)
  complete-ending (by spent) steps l f p n h m =
      let a = ended p n h in
      let n-more : suc f.0 ≤ n = last (context s) n (suc f.0) (asked e) a.0 f.1 a.1 a.2 f.2 in
      absurd (omega (arith, f.3, f.4))
  complete-ending (by depth) steps l f p n h m = inr refl

  -- Stop 20 is given only where plain Saiga runs for ever; and where it does so, no answer but 20, 15 and 16.
  pub circle-ending : (ending : Ending) (steps : ℕ) (entries : List Entry) → Follows (context s) budget (asked e) steps ending
      → (answer-of ending steps entries).number ≡ 20 → RunsForEver (context s) (asked e)
  unfolding ended_answer reason_number
  circle-ending (with_value v) steps l f h = absurd (omega arith)
  circle-ending (by (as_plain on_null)) steps l f h = absurd (omega arith)
  circle-ending (by (as_plain by_overflow)) steps l f h = absurd (omega arith)
  circle-ending (by circle) steps l f h = f
  circle-ending (by spent) steps l f h = absurd (omega arith)
  circle-ending (by depth) steps l f h = absurd (omega arith)

  pub for-ever-ending : (ending : Ending) (steps : ℕ) (entries : List Entry) → Follows (context s) budget (asked e) steps ending
      → RunsForEver (context s) (asked e)
      → let number = (answer-of ending steps entries).number in (number ≡ 20) ⊎ (number ≡ 15) ⊎ (number ≡ 16)
  unfolding ended_answer reason_number PlainEnds EndsWithValue EndsWithout
  for-ever-ending (with_value v) steps l f on = absurd (never_both (a_value v) f.0 f.1 on)
  for-ever-ending (by (as_plain why)) steps l f on = absurd (never_both (no_value why) f.0 (f.1, f.2, f.3) on)
  for-ever-ending (by circle) steps l f on = inl refl
  for-ever-ending (by spent) steps l f on = inr (inl refl)
  for-ever-ending (by depth) steps l f on = inr (inr refl)
